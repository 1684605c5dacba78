-- Counting the children that a stretch of steps opens directly, as a loop does it: what it has counted and what the steps
-- ahead will add are together the children of the stretch, at its start, after each turn and at its end.
use Rattle.std.specs.Prelude.{ℕ, suc, pred, ◌+◌, ◌-◌, ◌≤◌, ◌<◌, ◌≡◌, cond, List, [], ◌∷◌, length, take, drop, eqb}
use Rattle.std.proofs.Math.Path.{refl, ap}
use Rattle.std.proofs.Common.{◌∙◌, add-one, drop-cons}
use native.Mathlib.Omega.{arith}
use borrow.Author.Tests.{ne_eqb}
use Rattle.rules.specs.Tree.{is_end, kind_at}
use Rattle.run_spec.specs.Ordinals.{children_in, children_between}

-- The kinds from step j to before step `to`.
unfoldable pub window : List ℕ → ℕ → ℕ → List ℕ
window ks j to = take (to - j) (drop j ks)

pub window_cons : (ks : List ℕ) (j to : ℕ) → j < to → to ≤ length ks → window ks j to ≡ kind_at ks j ∷ window ks (j + 1) to
unfolding window kind_at
window_cons ks j to h l =
    let more : to - j ≡ suc (to - suc j) = omega arith in
    rw (add-one, more, drop-cons ks j 0 (omega arith)) refl

pub window_end : (ks : List ℕ) (j to : ℕ) → to ≤ j → window ks j to ≡ []
unfolding window
window_end ks j to h =
    let none : to - j ≡ 0 = omega arith in
    rw none refl

-- At step j `depth` of the children opened since step `from` are open, and `children` were opened directly.
pub record Counted (ks : List ℕ) (from to j depth children : ℕ) : Type 0 where
  pub deep : depth + from ≤ j
  pub many : children + from ≤ j
  pub few : children ≤ to
  pub count : children + children_in depth (window ks j to) ≡ children_between ks from to

module _ (ks : List ℕ) (from to : ℕ) where
  pub counted_start : Counted ks from to from 0 0
  unfolding window children_between
  counted_start = record { deep = omega arith; many = omega arith; few = omega arith; count = omega arith }

  pub counted-done : (j depth children : ℕ) → Counted ks from to j depth children → to ≤ j
      → children ≡ children_between ks from to
  unfolding children_in
  counted-done j depth children c h =
      let none : children_in depth (window ks j to) ≡ 0 = ap (children_in depth) (window_end ks j to h) in
      omega (arith, c.count, none)

  module _ (j depth children : ℕ) (c : Counted ks from to j depth children) (h : j < to) (l : to ≤ length ks) where
    -- Over an end.
    ended : kind_at ks j ≡ 3 → children_in depth (window ks j to) ≡ children_in (pred depth) (window ks (j + 1) to)
    unfolding children_in is_end
    ended e = rw (window_cons ks j to h l, e) refl

    pub counted-end : kind_at ks j ≡ 3 → (next : ℕ) → pred depth ≡ next → Counted ks from to (j + 1) next children
    counted-end e next same =
        let turn = rw same at (ended e) in
        record {
          deep = omega (arith, c.deep);
          many = omega (arith, c.many);
          few = c.few;
          count = omega (arith, c.count, turn);
        }

    -- Over an opening.
    opened : (kind_at ks j ≡ 3 → ⊥)
        → children_in depth (window ks j to) ≡ cond (eqb depth 0) 1 0 + children_in (suc depth) (window ks (j + 1) to)
    unfolding children_in is_end
    opened e = rw (window_cons ks j to h l, ne_eqb (kind_at ks j) 3 e) refl

    pub counted-child : (kind_at ks j ≡ 3 → ⊥) → depth ≡ 0 → Counted ks from to (j + 1) 1 (children + 1)
    counted-child e z =
        let turn : children_in depth (window ks j to) ≡ 1 + children_in 1 (window ks (j + 1) to) = opened e ∙ rw z refl in
        record {
          deep = omega (arith, c.deep);
          many = omega (arith, c.many);
          few = omega (arith, c.many);
          count = omega (arith, c.count, turn);
        }

    pub counted-inner : (kind_at ks j ≡ 3 → ⊥) → (depth ≡ 0 → ⊥) → Counted ks from to (j + 1) (depth + 1) children
    counted-inner e n =
        let turn : children_in depth (window ks j to) ≡ 0 + children_in (depth + 1) (window ks (j + 1) to) =
        opened e ∙ rw (ne_eqb depth 0 n, add-one depth) refl in
        record {
          deep = omega (arith, c.deep);
          many = omega (arith, c.many);
          few = c.few;
          count = omega (arith, c.count, turn);
        }
