-- How the classes are charged with the weight of their steps: step by step, turn by turn of the loop; or all at once, where all
-- steps are of class 0.
use Prim.Native.Nat.{ℕ, zero, suc, ◌+◌, ◌*◌, ◌≤◌, ◌<◌}
use Rattle.std.specs.Prelude.{◌≡◌, Bool, length, get_or, set, replicate, eqb}
use Rattle.std.proofs.Math.Path.{refl, sym}
use Rattle.std.proofs.Common.{◌∙◌, add-one, length-set, eq-eqb, ne_eqb}
use Rattle.std.proofs.Math.Bool.{true, false, cond}
use mathlib.Core.List.{List, [], ◌∷◌, zip_with}
use Rattle.std.proofs.Math.Decide.{ℕ_discrete}
use native.Mathlib.Omega.{arith}
use Rattle.std.proofs.Math.ListN.{get_or-replicate}
use Rattle.rules.specs.Bytes.{count, sum}
use Rattle.rules.specs.Tree.{class_count}
use Rattle.rules.specs.Traces.{of_class}
use Rattle.tree.specs.Laws.Counts.{map_is}
use Rattle.tree.specs.Laws.Verdicts.{cond_same}
use Rattle.tree_tables.specs.Terms.{weight_before, classes_before}
use Rattle.tree_tables.proofs.Laws.Filling.{stored, weight-step}

-- What a step adds to class c.
pub of_class-at : (cs ws : List ℕ) → length cs ≡ length ws → (c j : ℕ)
    → get_or (of_class cs ws c) j 0 ≡ cond (eqb (get_or cs j 0) c) (get_or ws j 0) 0
unfolding of_class zip_with
of_class-at [] [] e c j = sym (cond_same (eqb 0 c) 0)
of_class-at [] (w ∷ ws) e c j = absurd (omega arith)
of_class-at (k ∷ cs) [] e c j = absurd (omega arith)
of_class-at (k ∷ cs) (w ∷ ws) e c zero = refl
of_class-at (k ∷ cs) (w ∷ ws) e c (suc j) = of_class-at cs ws (omega arith) c j

module _ (cs ws : List ℕ) (paired : length cs ≡ length ws) where
  class-step : (c j : ℕ)
      → weight_before (of_class cs ws c) (suc j) ≡ weight_before (of_class cs ws c) j + cond (eqb (get_or cs j 0) c) (get_or ws j 0) 0
  class-step c j = weight-step (of_class cs ws c) j ∙ rw (of_class-at cs ws paired c j) refl

  -- ---- a step at a time

  -- The classes are charged with what the steps before j weigh. A weight is below 2^32.
  pub record Charged (charges : List ℕ) (j : ℕ) : Type 0 where
    pub room : length charges ≡ class_count
    pub small : (c : ℕ) → c < class_count → get_or charges c 0 ≤ j * 4294967295
    pub shared : (c : ℕ) → c < class_count → get_or charges c 0 ≡ weight_before (of_class cs ws c) j

  pub charge_start : Charged (replicate class_count 0) 0
  unfolding weight_before count sum
  charge_start =
      record {
        room = refl;
        small = λ c h. rw (get_or-replicate {A = ℕ} class_count c 0 0 h) (omega arith);
        shared = λ c h. get_or-replicate {A = ℕ} class_count c 0 0 h;
      }

  module _ (charges : List ℕ) (k j w : ℕ) (same : k ≡ get_or cs j 0) (weighs : w ≡ get_or ws j 0) (few : k < class_count)
      (light : w < 4294967296) (a : Charged charges j) where
    within : k < length charges
    within = omega (arith, a.room)

    step-here : (c : ℕ) → weight_before (of_class cs ws c) (suc j) ≡ weight_before (of_class cs ws c) j + cond (eqb k c) w 0
    step-here c = rw (← same, ← weighs) at (class-step c j)

    turn-shared : (c : ℕ) → c < class_count → get_or (set charges k (get_or charges k 0 + w)) c 0 ≡ weight_before (of_class cs ws c) (suc j)
    turn-shared c h =
        stored (λ x. x ≡ weight_before (of_class cs ws c) (suc j)) charges k (get_or charges k 0 + w) c within
        (λ e. let here = step-here c in rw e (omega (arith, a.shared k few, rw (e, eq-eqb k k refl) at here)))
        (λ n. let here = step-here c in omega (arith, a.shared c h, rw (ne_eqb k c (λ e. n (sym e))) at here))

    pub charge-turn : Charged (set charges k (get_or charges k 0 + w)) (j + 1)
    charge-turn =
        record {
          room = rw length-set a.room;
          small = λ c h. stored (λ x. x ≤ (j + 1) * 4294967295) charges k (get_or charges k 0 + w) c within
              (λ e. omega (arith, a.small k few)) (λ n. omega (arith, a.small c h));
          shared = λ c h. rw add-one (turn-shared c h);
        }

  pub charged_all : (charges : List ℕ) (n : ℕ) → Charged charges n → charges ≡ classes_before cs ws n
  unfolding classes_before
  charged_all charges n a = map_is (λ c. weight_before (of_class cs ws c) n) class_count charges a.room a.shared

  -- ---- all at once

  -- Where all steps before n are of class 0, that class has all their weight and every other none.
  module _ (n : ℕ) (zeros : (i : ℕ) → i < n → get_or cs i 0 ≡ 0) where
    zeros-before : (c j : ℕ) → j ≤ n → weight_before (of_class cs ws c) j ≡ cond (eqb 0 c) (weight_before ws j) 0
    unfolding weight_before count sum
    zeros-before c zero h = sym (cond_same {A = ℕ} (eqb 0 c) 0)
    zeros-before c (suc j) h =
        let here = class-step c j in
        by (eqb 0 c) (zeros-before c j (omega arith)) (rw (zeros j h) at here)
      where
        by : (b : Bool) → weight_before (of_class cs ws c) j ≡ cond b (weight_before ws j) 0
            → weight_before (of_class cs ws c) (suc j) ≡ weight_before (of_class cs ws c) j + cond b (get_or ws j 0) 0
            → weight_before (of_class cs ws c) (suc j) ≡ cond b (weight_before ws (suc j)) 0
        by true e f = omega (arith, weight-step ws j)
        by false e f = omega arith

    pub zeros-all : classes_before cs ws n ≡ set (replicate class_count 0) 0 (weight_before ws n)
    unfolding classes_before
    zeros-all =
        sym
        (map_is (λ c. weight_before (of_class cs ws c) n) class_count _ refl (λ c h.
        stored (λ x. x ≡ weight_before (of_class cs ws c) n) (replicate class_count 0) 0 (weight_before ws n) c (omega arith)
        (λ e. sym (zeros-before c n (omega arith) ∙ rw e refl))
        (λ m. get_or-replicate {A = ℕ} class_count c 0 0 h
        ∙ sym (zeros-before c n (omega arith) ∙ rw (ne_eqb 0 c (λ e. m (sym e))) refl))))

-- ---- whether all are of class 0

-- Numbers that add up to 0 are all 0.
pub sum_zeros : (xs : List ℕ) (n : ℕ) → weight_before xs n ≡ 0 → (i : ℕ) → i < n → get_or xs i 0 ≡ 0
sum_zeros xs zero e i h = absurd (omega arith)
sum_zeros xs (suc n) e i h =
    elim (ℕ_discrete i n) [
      | yes same ↦ rw same (omega (arith, weight-step xs n))
      | no m ↦ sum_zeros xs n (omega (arith, weight-step xs n)) i (omega arith)
    ]
