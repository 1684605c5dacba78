-- The tables of phases are right once one begins: first steps, and for each phase the step and the ordinal from which its
-- frontier task is walked. `phs` are the phases before, `m` how many; worker t takes step s from phase k.
use Rattle.std.specs.Prelude.{ℕ, suc, ◌+◌, ◌<◌, ◌≡◌, refl, true, List, [], length, get_or, set}
use Rattle.std.proofs.Common.{sym, ap, ◌∙◌, add-one, arith, lt-length-set, get_or-set_same, get_or-set_other}
use Rattle.std.proofs.Math.Logic.{inr}
use Rattle.std.proofs.Math.Decide.{ℕ_discrete}
use Rattle.rules.specs.Tree.{ordinal, cont}
use Rattle.rules.specs.Scheduling.{work_first, Phase, phase_at, begin}
use Rattle.rules.specs.Traces.{number_allowed, stolen_step}
use Rattle.tree_scan.specs.Laws.Shape.{Shape}
use Rattle.tree_scan.specs.Laws.Frames.{end_at, size_at}
use Rattle.run_invariant.proofs.Laws.Moves.{robbed, begin-length, begin_new, begin-robbed, begin_other, begin_same}
use Rattle.run_invariant.proofs.Laws.Phase.{first-pushes}
use Rattle.replay_invariant.specs.Invariant.{Taken}
use Rattle.replay_invariant.proofs.Laws.Tasks.{task_step_lem}
use Rattle.replay_invariant.proofs.Laws.Parts.{part_inside, part_once}
use Rattle.replay_invariant.proofs.Laws.Reads.{Based, based_fresh, based_allowed, based_robbed}
use Rattle.replay_spec.specs.Begins.{bases_begun, ordinals_begun}
use Rattle.replay_invariant.specs.Terms.{PartOf}

-- ---- a table in which the entries k and m have been set

module _ (table : List ℕ) (k m a b : ℕ) (less : k < m) (room : m < length table) where
  set_new : get_or (set (set table k a) m b) m 0 ≡ b
  set_new = get_or-set_same (set table k a) m b 0 (lt-length-set table k a room)

  set_old : get_or (set (set table k a) m b) k 0 ≡ a
  set_old =
      get_or-set_other (set table k a) m k b 0 (omega arith)
      ∙ get_or-set_same table k a 0 (omega arith)

  set_other : (i : ℕ) → i < m → (i ≡ k → ⊥) → get_or (set (set table k a) m b) i 0 ≡ get_or table i 0
  set_other i h n =
      get_or-set_other (set table k a) m i b 0 (omega arith)
      ∙ get_or-set_other table k i a 0 n

-- ---- work-first, the step that a number names

module _ (ks : List ℕ) (sh : Shape (length ks) (end_at ks) (size_at ks)) where
  -- What is said of a phase and its base, at equal ones.
  pub based_at : {x y : Phase} {base from at by : ℕ} → x ≡ y → base ≡ from → at ≡ by → Based ks sh y from by
      → Based ks sh x base at
  based_at e f g so = rw (e, f, g) so

  module _ (p : ℕ) (w : p ≡ work_first) (ph : Phase) (base at number : ℕ) (b : Based ks sh ph base at)
      (a : number_allowed p ks ph number ≡ true) where
    -- It has the number as its ordinal,
    ordinal-is : ordinal ks (stolen_step p ks ph number) ≡ number
    unfolding number_allowed stolen_step
    ordinal-is =
        let rule = (based_allowed ks sh ph base at number b).0 (rw w at a) in
        let step = task_step_lem ks sh base number b.0 (omega (arith, rule.0, b.2)) rule.1 in
        rw (w, ← b.1) step.3

    -- and is its opener's continuation, so that the child between them is walked next.
    child-next : (q : ℕ) → PartOf ks q (stolen_step p ks ph number) → Taken p ks ph (stolen_step p ks ph number)
        → Based ks sh (robbed ph (stolen_step p ks ph number)) (suc q) 0
    unfolding number_allowed stolen_step
    child-next q of taken =
        let s = stolen_step p ks ph number in
        let by = taken.pushed in
        let is : s ≡ cont ks by.0 = by.3 ∙ first-pushes p ks by.0 w in
        let same : q ≡ by.0 = part_once ks sh q by.0 s of (by.1, by.2, inr is) in
        rw (w, same) (based_robbed ks sh ph base at number by.0 b (rw w at a) by.1 by.2 (rw w at is))

    child-named : (q s : ℕ) → s ≡ stolen_step p ks ph number → PartOf ks q s → Taken p ks ph s → Based ks sh (robbed ph s) (suc q) 0
    child-named q s e of taken = rw e (child-next q (rw e at of) (rw e at taken))

-- ---- the tables of phases

module _ (phs : List Phase) (t k s m : ℕ) (begun : k < length phs) (count : m ≡ length phs) where
  -- A phase is the new one, the robbed one or another.
  by_phase : {P : Type 0} (i : ℕ) → i < length (begin phs t k s) → (i ≡ m → P) → (i ≡ k → P)
      → (i < m → (i ≡ k → ⊥) → P) → P
  by_phase i h new old other =
      elim (ℕ_discrete i m) [
        | yes e ↦ new e
        | no n ↦ elim (ℕ_discrete i k) [ yes e ↦ old e | no o ↦ other (omega (arith, begin-length phs t k s)) o ]
      ]

  new_is : phase_at (begin phs t k s) m ≡ record { worker = t; first = s; stolen = [] }
  new_is = rw count (begin_new phs t k s)

  pub firsts-next : (firsts : List ℕ) → m < length firsts → ((i : ℕ) → i < length phs → get_or firsts i 0 ≡ (phase_at phs i).first)
      → (i : ℕ) → i < length (begin phs t k s) → get_or (set firsts m s) i 0 ≡ (phase_at (begin phs t k s) i).first
  firsts-next firsts room shown i h =
      elim (ℕ_discrete i m) [
        | yes e ↦ rw e (get_or-set_same firsts m s 0 room ∙ sym (ap (λ (x : Phase). x.first) new_is))
        | no n ↦
            let old : i < length phs = omega (arith, begin-length phs t k s) in
            get_or-set_other firsts m i s 0 n ∙ (shown i old ∙ sym (begin_same phs t k s (λ x. x.first) refl i old))
      ]

  module _ (ks : List ℕ) (sh : Shape (length ks) (end_at ks) (size_at ks)) (openers : List ℕ)
      (of : PartOf ks (get_or openers s 0) s) (bases : List ℕ) (room : m < length bases) where
    abbrev q : ℕ
    q = get_or openers s 0

    abbrev new_bases : List ℕ
    new_bases = bases_begun openers bases k m s

    -- What stands there for the new phase, for the robbed one and for the others.
    base-new : get_or new_bases m 0 ≡ s
    unfolding bases_begun
    base-new = set_new bases k m _ _ (omega arith) room

    base-old : get_or new_bases k 0 ≡ q + 1
    unfolding bases_begun
    base-old = set_old bases k m _ _ (omega arith) room

    base-other : (i : ℕ) → i < m → (i ≡ k → ⊥) → get_or new_bases i 0 ≡ get_or bases i 0
    unfolding bases_begun
    base-other = set_other bases k m _ _ (omega arith) room

    pub bases-within : ((i : ℕ) → i < length phs → get_or bases i 0 < length ks)
        → (i : ℕ) → i < length (begin phs t k s) → get_or new_bases i 0 < length ks
    bases-within within i h =
        let inside = part_inside ks sh q s of in
        by_phase i h (λ e. rw (e, base-new) inside.3) (λ e. rw (e, base-old) (omega (arith, inside)))
        (λ l n. rw (base-other i l n) (within i (omega arith)))

    module _ (ordinals : List ℕ) (also : m < length ordinals) (p number own : ℕ) (counted : p ≡ work_first → own ≡ number)
        (based : p ≡ work_first → (i : ℕ) → i < length phs → Based ks sh (phase_at phs i) (get_or bases i 0) (get_or ordinals i 0))
        (allowed : number_allowed p ks (phase_at phs k) number ≡ true) (named : s ≡ stolen_step p ks (phase_at phs k) number)
        (taken : Taken p ks (phase_at phs k) s) where
      abbrev new_ordinals : List ℕ
      new_ordinals = ordinals_begun ordinals k m own

      ordinal-new : get_or new_ordinals m 0 ≡ own
      unfolding ordinals_begun
      ordinal-new = set_new ordinals k m _ _ (omega arith) also

      ordinal-old : get_or new_ordinals k 0 ≡ 0
      unfolding ordinals_begun
      ordinal-old = set_old ordinals k m _ _ (omega arith) also

      ordinal-other : (i : ℕ) → i < m → (i ≡ k → ⊥) → get_or new_ordinals i 0 ≡ get_or ordinals i 0
      unfolding ordinals_begun
      ordinal-other = set_other ordinals k m _ _ (omega arith) also

      new-based : p ≡ work_first → Based ks sh (phase_at (begin phs t k s) m) (get_or new_bases m 0) (get_or new_ordinals m 0)
      new-based w =
          let is = ordinal-is ks sh p w (phase_at phs k) _ _ number (based w k begun) allowed in
          let same : ordinal ks s ≡ own = rw (named, counted w) is in
          based_at ks sh new_is base-new (ordinal-new ∙ sym same) (based_fresh ks sh t s (part_inside ks sh q s of).3)

      old-based : p ≡ work_first → Based ks sh (phase_at (begin phs t k s) k) (get_or new_bases k 0) (get_or new_ordinals k 0)
      old-based w =
          based_at ks sh (begin-robbed phs t k s begun) (base-old ∙ add-one q) ordinal-old
          (child-named ks sh p w (phase_at phs k) _ _ number (based w k begun) allowed q s named of taken)

      pub bases-next : p ≡ work_first → (i : ℕ) → i < length (begin phs t k s)
          → Based ks sh (phase_at (begin phs t k s) i) (get_or new_bases i 0) (get_or new_ordinals i 0)
      bases-next w i h =
          by_phase i h (λ e. rw e (new-based w)) (λ e. rw e (old-based w))
          (λ l n. based_at ks sh (begin_other phs t k s i (omega arith) n) (base-other i l n) (ordinal-other i l n)
          (based w i (omega arith)))
