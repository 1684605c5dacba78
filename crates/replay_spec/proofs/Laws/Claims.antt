-- Labelling the free steps above a step, as `replay_labels::claim` does it: what its loop holds at the start, after each turn
-- and at the end. And what taking a step comes to, by the step's label.
use Rattle.std.specs.Prelude.{ℕ, zero, suc, ◌≤◌, ◌<◌, ◌≡◌, refl, false, length, get_or, eqb}
use Rattle.std.proofs.Math.Path.{sym, ap}
use Rattle.std.proofs.Common.{◌∙◌, inl, inr, arith}
use mathlib.Core.List.{List, [], ◌∷◌, ◌++◌}
use Rattle.std.proofs.Math.Decide.{ℕ_discrete}
use Rattle.std.proofs.Math.ListN.{set, length-set}
use Rattle.std.proofs.Math.Seq.{get_or-set_other}
use Rattle.replay_invariant.specs.Terms.{free, label_of, Climb, labelled}
use Rattle.replay_spec.specs.Labels.{Upward, Claimed, Taking}

-- ---- labels as the code reads them

get_or_any : (xs : List ℕ) (j d e : ℕ) → j < length xs → get_or xs j d ≡ get_or xs j e
get_or_any [] j d e h = absurd (omega arith)
get_or_any (x ∷ xs) zero d e h = refl
get_or_any (x ∷ xs) (suc j) d e h = get_or_any xs j d e (omega arith)

pub label_read : (labels : List ℕ) (j : ℕ) → j < length labels → get_or labels j 0 ≡ label_of labels j
unfolding label_of
label_read labels j h = get_or_any labels j 0 free h

-- ---- the climb

-- From step x up, from opener to opener: those of `path` are not labelled, and then comes step j.
abbrev Way : List ℕ → List ℕ → ℕ → List ℕ → ℕ → Type 0
Way openers labels x [] j = get_or openers x 0 ≡ j
Way openers labels x (q ∷ path) j = (get_or openers x 0 ≡ q) × (label_of labels q ≡ free) × Way openers labels q path j

module _ (openers labels : List ℕ) where
  way_more : (path : List ℕ) (x j next : ℕ) → Way openers labels x path j → label_of labels j ≡ free → get_or openers j 0 ≡ next
      → Way openers labels x (path ++ (j ∷ [])) next
  way_more [] x j next w f e = (w, f, e)
  way_more (q ∷ path) x j next w f e = (w.0, w.1, way_more path q j next w.2 f e)

  way_climb : (path : List ℕ) (x j : ℕ) → Way openers labels x path j → (label_of labels j ≡ free → ⊥)
      → Climb openers labels x path j
  way_climb [] x j w n = (w, n)
  way_climb (q ∷ path) x j w n = (w.0, w.1, way_climb path q j w.2 n)

labelled-more : (path labels : List ℕ) (j k : ℕ) → labelled labels (path ++ (j ∷ [])) k ≡ set (labelled labels path k) j k
unfolding labelled
labelled-more [] labels j k = refl
labelled-more (q ∷ path) labels j k = labelled-more path (set labels q k) j k

-- The climb from step s stands at step j: what is passed has the label k, and from j down the labels are the first ones.
pub record Claiming (openers first : List ℕ) (s k : ℕ) (labels : List ℕ) (j : ℕ) : Type 0 where
  pub path : List ℕ
  pub way : Way openers first s path j
  pub marks : labels ≡ labelled first path k
  pub same : (x : ℕ) → x ≤ j → label_of labels x ≡ label_of first x
  pub size : length labels ≡ length first
  pub before : j < s

-- What the climb asks for.
module _ {openers first : List ℕ} {s k : ℕ}
    (given : (0 < s) × (s < length openers) × (length openers ≤ length first) × Upward openers) where
  pub claim_start : (j : ℕ) → j ≡ get_or openers s 0 → Claiming openers first s k first j
  unfolding labelled
  claim_start j e =
      record {
        path = [];
        way = sym e;
        marks = refl;
        same = λ x b. refl;
        size = refl;
        before = omega (arith, given.3 s given.0 given.1);
      }

  module _ {labels : List ℕ} {j : ℕ} (c : Claiming openers first s k labels j) where
    pub claim-room : (j < length openers) × (j < length labels)
    claim-room = omega (arith, c.before, c.size)

    -- What the code reads is the first label.
    claim-reads : get_or labels j 0 ≡ label_of first j
    claim-reads = label_read labels j claim-room.1 ∙ c.same j (omega arith)

    pub claim-less : (label_of first 0 ≡ free → ⊥) → get_or labels j 0 ≡ free → get_or openers j 0 < j
    claim-less root f =
        elim (ℕ_discrete j 0) [
          | yes z ↦ absurd (root (rw z at (sym claim-reads ∙ f)))
          | no n ↦ given.3 j (omega arith) claim-room.0
        ]

    pub claim-turn : (label_of first 0 ≡ free → ⊥) → get_or labels j 0 ≡ free
        → (next : ℕ) → next ≡ get_or openers j 0 → Claiming openers first s k (set labels j k) next
    unfolding label_of
    claim-turn root f next e =
        let less : next < j = omega (arith, claim-less root f) in
        record {
          path = c.path ++ (j ∷ []);
          way = way_more openers first c.path s j next c.way (sym claim-reads ∙ f) (sym e);
          marks = ap (λ (xs : List ℕ). set xs j k) c.marks ∙ sym (labelled-more c.path first j k);
          same = λ x b. get_or-set_other labels j x k free (λ z. omega arith) ∙ c.same x (omega arith);
          size = length-set labels j k ∙ c.size;
          before = omega (arith, c.before);
        }

    pub claim-end : (get_or labels j 0 ≡ free → ⊥) → Claimed openers first s k labels (get_or labels j 0)
    claim-end n =
        record {
          path = c.path;
          top = j;
          climb = way_climb openers first c.path s j c.way (λ f. n (claim-reads ∙ f));
          marks = c.marks;
          finds = claim-reads;
        }

-- ---- what taking a step comes to

pub free_past : (labels : List ℕ) (s : ℕ) → (label_of labels 0 ≡ free → ⊥) → s < length labels → get_or labels s 0 ≡ free → 0 < s
free_past labels s root l f =
    elim (ℕ_discrete s 0) [
      | yes z ↦ absurd (root (rw z at (sym (label_read labels s l) ∙ f)))
      | no n ↦ omega arith
    ]

module _ {openers labels : List ℕ} {s k : ℕ} (l : s < length labels) where
  pub take-labelled : (get_or labels s 0 ≡ free → ⊥) → (after : List ℕ) → Taking openers labels s k false after
  take-labelled n after = inl ((λ f. n (label_read labels s l ∙ f)), refl)

  pub take_claimed : get_or labels s 0 ≡ free → (after : List ℕ) (found : ℕ) → Claimed openers labels s k after found
      → Taking openers labels s k (eqb found k) after
  take_claimed f after found c = inr ((sym (label_read labels s l) ∙ f), (found, c, refl))
