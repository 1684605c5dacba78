-- The loop that looks for the heaviest worker: of the loads looked at it has the first of the largest.
use Rattle.std.specs.Prelude.{ℕ, zero, suc, ◌+◌, ◌≤◌, ◌<◌, ◌≡◌, List, [], ◌∷◌}
use Rattle.std.proofs.Common.{arith, eq-eqb, ne_eqb}
use Rattle.std.proofs.Math.ListN.{length, get_or}
use Rattle.rules.specs.Scheduling.{most_workers}
use Rattle.rules.specs.Traces.{largest, first_at, heaviest}
use Rattle.tree.specs.Laws.Largest.{largest_most, largest_least}

-- ---- where a load stands first

first_stands : (x : ℕ) (xs : List ℕ) (i b : ℕ) → b < length xs → get_or xs b 0 ≡ x → ((k : ℕ) → k < b → get_or xs k 0 < x)
    → first_at x i xs ≡ i + b
unfolding first_at
first_stands x [] i b l e h = omega arith
first_stands x (y ∷ ys) i zero l e h = rw (first_at, eq-eqb y x e) (omega arith)
first_stands x (y ∷ ys) i (suc b) l e h =
    let other : y < x = h 0 (omega arith) in
    rw (first_at, ne_eqb y x (λ q. omega arith))
    (omega (arith, first_stands x ys (suc i) b (omega arith) e (λ k m. h (suc k) (omega arith))))

-- ---- the loop

-- Of the loads below w, `best` has the first of the largest.
pub record Leads (ls : List ℕ) (best w : ℕ) : Type 0 where
  pub below : best < w
  pub within : w ≤ most_workers
  pub most : (k : ℕ) → k < w → get_or ls k 0 ≤ get_or ls best 0
  pub first : (k : ℕ) → k < best → get_or ls k 0 < get_or ls best 0

-- All workers are looked at.
pub leads_done : (ls : List ℕ) (best w : ℕ) → Leads ls best w → (w < most_workers → ⊥) → length ls ≡ most_workers → best ≡ heaviest ls
unfolding heaviest
leads_done ls best w s past e =
    let inside : best < length ls = omega (arith, s.below, s.within) in
    let top : largest ls ≤ get_or ls best 0 = largest_least ls (get_or ls best 0) (λ k l. s.most k (omega (arith, s.within))) in
    let same : get_or ls best 0 ≡ largest ls = omega (arith, largest_most ls best) in
    omega (arith, first_stands (largest ls) ls 0 best inside same (λ k l. omega (arith, s.first k l)))
