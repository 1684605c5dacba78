-- Document 02, #106: what is claimed of the table of limits, and of the bucket that a load goes to.
use Rattle.std.specs.Prelude.{ℕ, ◌≤◌, ◌<◌, ◌≡◌, length}
use Rattle.std.proofs.Math.Option.{none, some}
use Rattle.rules_histogram.specs.Limits.{limit_count, IsLimit, limits, limit, bucket, bucket_count, place}

-- "The highest k whose limit does not exceed it."
pub record GoesTo (load k : ℕ) : Type 0 where
  pub found : bucket load ≡ some k
  pub within : k < limit_count
  pub fits : limit k ≤ load
  pub highest : (j : ℕ) → j < limit_count → limit j ≤ load → j ≤ k

pub record Rule : Type 0 where
  -- "176 limits kept as a constant table."
  pub many : length limits ≡ limit_count
  -- "The rule is to hold for all 176."
  pub rule : (k : ℕ) → k < limit_count → IsLimit k (limit k)
  -- "A load goes to the highest k whose limit does not exceed it": every load but 0 does,
  pub goes : (load : ℕ) → 0 < load → (k : ℕ) × GoesTo load k
  -- and load 0 goes to none of them, but to "a bucket for load 0".
  pub zero : bucket 0 ≡ none
  -- The count of each load's bucket is one of the histogram's.
  pub within : (load : ℕ) → place load < bucket_count
