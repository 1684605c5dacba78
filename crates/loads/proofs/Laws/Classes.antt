-- The loads of the classes: of phases that share the whole tree they are what its classes weigh; they add up to the loads of the
-- phases, as the loads of the workers do; and class 0 has all where there is no other. Of phases alone: a run's and a replayed trace's
-- alike.
use Prim.Native.Nat.{ℕ, zero, suc, ◌<◌}
use Rattle.std.specs.Prelude.{◌≡◌, Bool, List, [], ◌∷◌, map, length, eqb}
use Rattle.std.proofs.Math.Path.{refl, sym}
use Rattle.std.proofs.Common.{◌∙◌, arith, ne_eqb}
use Rattle.std.proofs.Math.Bool.{true, false, cond}
use Rattle.std.proofs.Math.ListN.{get_or, replicate, get_or-replicate}
use Rattle.rules.specs.Bytes.{count, sum}
use Rattle.rules.specs.Tree.{class_count}
use Rattle.rules.specs.Scheduling.{most_workers, Phase, phase_at}
use Rattle.rules.specs.Traces.{covers, phase_load, worker_load, loads, of_class, class_load, class_loads}
use Rattle.tree.specs.Laws.Counts.{length-count, count_at, map_is}
use Rattle.tree.specs.Laws.Verdicts.{cond_same}
use Rattle.tree_tables.specs.Terms.{classes_before, Classed}
use Rattle.tree_tables.proofs.Laws.Charging.{of_class-at}
use Rattle.run_invariant.proofs.Laws.Counts.{sum_same, sum_nothing, sum_exchange, keys_sum}
use Rattle.loads.specs.Terms.{Whole}

-- Where all loads together are the tree's weight, so are those of each class.
pub classes_are : (ks cs ws : List ℕ) (phs : List Phase) → Whole ks phs → class_loads ks cs ws phs ≡ classes_before cs ws (length ks)
unfolding class_loads class_load classes_before
classes_are ks cs ws phs whole = λ k. map (λ c. whole (of_class cs ws c) k) (count 0 class_count)

-- ---- sums by a key

sum_map : (f : ℕ → ℕ) (l : List ℕ) → sum (λ x. x) (map f l) ≡ sum f l
unfolding sum
sum_map f [] = refl
sum_map f (x ∷ l) = omega (arith, sum_map f l)

-- Each phase is a worker's of the sixteen.
abbrev pub Manned : List Phase → Type 0
Manned phs = (k : ℕ) → k < length phs → (phase_at phs k).worker < most_workers

-- The workers are the keys of the phases.
pub workers_sum : (ks ws : List ℕ) (phs : List Phase) → Manned phs → sum (λ x. x) (loads most_workers ks ws phs) ≡ sum (phase_load ks ws) phs
unfolding loads worker_load phase_at
workers_sum ks ws phs few =
    sum_map (worker_load ks ws phs) (count 0 most_workers)
    ∙ keys_sum (λ ph. ph.worker) (phase_load ks ws) most_workers (record { worker = 0; first = 0; stolen = [] }) phs few

-- Two tests, one inside the other, in either order.
cond_swap : (a b : Bool) (x : ℕ) → cond a (cond b x 0) 0 ≡ cond b (cond a x 0) 0
cond_swap true true x = refl
cond_swap true false x = refl
cond_swap false true x = refl
cond_swap false false x = refl

module _ (ks cs ws : List ℕ) (paired : length cs ≡ length ws) (classed : Classed cs (length ks)) where
  -- The classes are the keys of the steps, in each phase,
  module _ (ph : Phase) where
    class-share : (c j : ℕ)
        → cond (covers ks ph j) (get_or (of_class cs ws c) j 0) 0
        ≡ cond (eqb (get_or cs j 0) c) (cond (covers ks ph j) (get_or ws j 0) 0) 0
    class-share c j = rw (of_class-at cs ws paired c j) (cond_swap (covers ks ph j) (eqb (get_or cs j 0) c) (get_or ws j 0))

    class-at : (i : ℕ) → i < length (count 0 (length ks)) → get_or cs (get_or (count 0 (length ks)) i 0) 0 < class_count
    class-at i h =
        let within : i < length ks = omega (arith, length-count (length ks) 0) in
        let place : get_or (count 0 (length ks)) i 0 ≡ i = omega (arith, count_at (length ks) 0 i within) in
        rw place (classed i within)

    phase-sum : sum (λ c. phase_load ks (of_class cs ws c) ph) (count 0 class_count) ≡ phase_load ks ws ph
    unfolding phase_load
    phase-sum =
        (λ k. sum (λ c. sum (λ j. class-share c j k) (count 0 (length ks))) (count 0 class_count))
        ∙ keys_sum (λ j. get_or cs j 0) (λ j. cond (covers ks ph j) (get_or ws j 0) 0) class_count 0 (count 0 (length ks)) class-at

  -- so in all of them.
  pub classes_sum : (phs : List Phase) → sum (λ x. x) (class_loads ks cs ws phs) ≡ sum (phase_load ks ws) phs
  unfolding class_loads class_load
  classes_sum phs =
      sum_map (class_load ks cs ws phs) (count 0 class_count)
      ∙ (sum_exchange (λ c ph. phase_load ks (of_class cs ws c) ph) (count 0 class_count) phs ∙ sum_same _ _ phase-sum phs)

-- Where every step is of class 0, that class has the loads of all phases, and every other none.
module _ (ks cs ws : List ℕ) (paired : length cs ≡ length ws) (zeros : (j : ℕ) → get_or cs j 0 ≡ 0) where
  zeros_share : (c : ℕ) (ph : Phase) → phase_load ks (of_class cs ws c) ph ≡ cond (eqb 0 c) (phase_load ks ws ph) 0
  unfolding phase_load
  zeros_share c ph = (λ k. sum (λ j. at j k) (count 0 (length ks))) ∙ by (eqb 0 c)
    where
      at : (j : ℕ) → cond (covers ks ph j) (get_or (of_class cs ws c) j 0) 0 ≡ cond (covers ks ph j) (cond (eqb 0 c) (get_or ws j 0) 0) 0
      at j = rw (of_class-at cs ws paired c j, zeros j) refl

      by : (b : Bool)
          → sum (λ j. cond (covers ks ph j) (cond b (get_or ws j 0) 0) 0) (count 0 (length ks))
          ≡ cond b (sum (λ j. cond (covers ks ph j) (get_or ws j 0) 0) (count 0 (length ks))) 0
      by true = refl
      by false = (λ k. sum (λ j. cond_same {A = ℕ} (covers ks ph j) 0 k) (count 0 (length ks))) ∙ sum_nothing (count 0 (length ks))

  zeros_load : (phs : List Phase) (c : ℕ) → class_load ks cs ws phs c ≡ cond (eqb 0 c) (sum (phase_load ks ws) phs) 0
  unfolding class_load
  zeros_load phs c = (λ k. sum (λ ph. zeros_share c ph k) phs) ∙ by (eqb 0 c)
    where
      by : (b : Bool) → sum (λ ph. cond b (phase_load ks ws ph) 0) phs ≡ cond b (sum (phase_load ks ws) phs) 0
      by true = refl
      by false = sum_nothing phs

  pub zeros-loads : (phs : List Phase) → class_loads ks cs ws phs ≡ sum (phase_load ks ws) phs ∷ replicate 15 0
  unfolding class_loads
  zeros-loads phs = sym (map_is (class_load ks cs ws phs) class_count (sum (phase_load ks ws) phs ∷ replicate 15 0) refl by)
    where
      by : (c : ℕ) → c < class_count → get_or (sum (phase_load ks ws) phs ∷ replicate 15 0) c 0 ≡ class_load ks cs ws phs c
      by zero h = sym (zeros_load phs 0)
      by (suc c) h = get_or-replicate {A = ℕ} 15 c 0 0 (omega arith) ∙ sym (zeros_load phs (suc c) ∙ rw (ne_eqb 0 (suc c) (omega arith)) refl)
