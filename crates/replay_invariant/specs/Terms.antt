-- Words of replay's inner contracts: labels, by which a table tells of some steps the phase that covers them, and the walk over a
-- task's children. No entry's contract names them.
use Rattle.std.specs.Prelude.{ℕ, zero, suc, ◌≤◌, ◌<◌, ◌≡◌, true, false, cond, List, [], ◌∷◌, ◌⊎◌, length, get_or, set}
use Rattle.std.proofs.Math.Option.{Option, none, some}
use Rattle.rules.specs.Tree.{kind_at, is_end, cont}
use Rattle.rules.specs.Scheduling.{Phase, phase_at}
use Rattle.rules.specs.Traces.{from_step, covers}

-- ---- labels

-- Step x is a part of the opening step q: its child or its continuation.
abbrev pub PartOf : List ℕ → ℕ → ℕ → Type 0
PartOf ks q x = (q < length ks) × (is_end (kind_at ks q) ≡ false) × ((x ≡ suc q) ⊎ (x ≡ cont ks q))

-- The label of a step that has none.
abbrev pub free : ℕ
free = 65535

-- The label of step j.
unfoldable pub label_of : List ℕ → ℕ → ℕ
label_of labels j = get_or labels j free

-- The labels are those of some phases.
pub record Labels (ks : List ℕ) (phs : List Phase) (labels : List ℕ) : Type 0 where
  pub size : length ks ≤ length labels
  pub few : length phs ≤ free
  -- Each phase's first step has its label,
  pub firsts : (k : ℕ) → k < length phs → label_of labels (phase_at phs k).first ≡ k
  -- a label is the phase that covers the step,
  pub covering : (j : ℕ) → j < length ks → (label_of labels j ≡ free → ⊥)
      → (label_of labels j < length phs) × (covers ks (phase_at phs (label_of labels j)) j ≡ true)
  -- an opening step above a labelled one is labelled,
  pub above : (q x : ℕ) → PartOf ks q x → label_of labels q ≡ free → label_of labels x ≡ free
  -- and only those are, and the first steps.
  pub reason : (j : ℕ) → j < length ks → (label_of labels j ≡ free → ⊥)
      → (k : ℕ) × (k < length phs) × (from_step ks j (phase_at phs k).first ≡ true)

-- From step x up, from opener to opener: those of `path` are not labelled, and `top` is.
abbrev pub Climb : List ℕ → List ℕ → ℕ → List ℕ → ℕ → Type 0
Climb openers labels x [] top = (get_or openers x 0 ≡ top) × (label_of labels top ≡ free → ⊥)
Climb openers labels x (q ∷ path) top = (get_or openers x 0 ≡ q) × (label_of labels q ≡ free) × Climb openers labels q path top

-- The steps of the path get a label.
unfoldable pub labelled : List ℕ → List ℕ → ℕ → List ℕ
labelled labels [] k = labels
labelled labels (q ∷ path) k = labelled (set labels q k) path k

-- ---- the walk over children

-- From step x over m children of the same task: each time on to the step after the end of the child that is opened. None where
-- a step on the way ends the task.
unfoldable pub hopped : List ℕ → ℕ → ℕ → Option ℕ
hopped ks zero x = some x
hopped ks (suc m) x = cond (is_end (kind_at ks x)) none (hopped ks m (cont ks x))
