-- The largest number of a list: none is larger, it is at most what bounds each, and it stands in the list or is 0. Then of what a
-- function makes of the numbers of an interval.
use Rattle.std.specs.Prelude.{ℕ, zero, suc, ◌+◌, ◌-◌, ◌≤◌, ◌<◌, max, ◌≡◌, refl, List, [], ◌∷◌, map, ◌⊎◌, length, get_or}
use Rattle.std.proofs.Common.{sym, ◌∙◌, inl, inr, ⊎_elim, arith}
use Rattle.std.proofs.Math.Decide.{dec_le}
use Rattle.std.proofs.Math.Nat.{le-max_left, le-max_right, max-le, max-eq_left, max-eq_right}
use Rattle.rules.specs.Bytes.{count}
use Rattle.rules.specs.Traces.{largest}
use Rattle.tree.specs.Laws.Counts.{map_at, map-length}

pub max_either : (a b : ℕ) → (max a b ≡ a) ⊎ (max a b ≡ b)
max_either a b = elim (dec_le a b) [ yes l ↦ inr (max-eq_right l) | no n ↦ inl (max-eq_left (omega arith)) ]

pub largest_most : (xs : List ℕ) (k : ℕ) → get_or xs k 0 ≤ largest xs
unfolding largest
largest_most [] k = omega arith
largest_most (x ∷ xs) zero = le-max_left x (largest xs)
largest_most (x ∷ xs) (suc k) = omega (arith, le-max_right x (largest xs), largest_most xs k)

pub largest_least : (xs : List ℕ) (m : ℕ) → ((k : ℕ) → k < length xs → get_or xs k 0 ≤ m) → largest xs ≤ m
unfolding largest
largest_least [] m h = omega arith
largest_least (x ∷ xs) m h = max-le (h 0 (omega arith)) (largest_least xs m (λ k l. h (suc k) (omega arith)))

pub largest_stands : (xs : List ℕ) → (largest xs ≡ 0) ⊎ ((k : ℕ) × (k < length xs) × (get_or xs k 0 ≡ largest xs))
unfolding largest
largest_stands [] = inl refl
largest_stands (x ∷ xs) =
    ⊎_elim (λ s. inr (0, omega arith, sym s))
    (λ s. ⊎_elim (λ z. inl (s ∙ z)) (λ r. inr (suc r.0, omega (arith, r.1), r.2 ∙ sym s)) (largest_stands xs))
    (max_either x (largest xs))

-- Of the numbers that a function makes of those from `low` on, m of them.
module _ (f : ℕ → ℕ) (low m : ℕ) where
  pub made_most : (i : ℕ) → low ≤ i → i < low + m → f i ≤ largest (map f (count low m))
  made_most i l u =
      let place : low + (i - low) ≡ i = omega arith in
      let at = map_at f m low (i - low) (omega arith) in
      omega (arith, largest_most (map f (count low m)) (i - low), rw place at at)

  pub made_least : (b : ℕ) → ((i : ℕ) → low ≤ i → i < low + m → f i ≤ b) → largest (map f (count low m)) ≤ b
  made_least b h =
      largest_least (map f (count low m)) b
      (λ k l.
      let short : k < m = omega (arith, map-length f m low) in
      omega (arith, map_at f m low k short, h (low + k) (omega arith) (omega arith)))

  pub made_stands : (largest (map f (count low m)) ≡ 0)
      ⊎ ((i : ℕ) × (low ≤ i) × (i < low + m) × (f i ≡ largest (map f (count low m))))
  made_stands =
      ⊎_elim inl
      (λ r.
      let short : r.0 < m = omega (arith, r.1, map-length f m low) in
      inr (low + r.0, omega arith, omega arith, sym (map_at f m low r.0 short) ∙ r.2))
      (largest_stands (map f (count low m)))
