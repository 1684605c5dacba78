-- A load among the limits: the last power of 2 that it reaches, and which of the three limits above that it reaches too.
use Rattle.std.specs.Prelude.{ℕ, suc, ◌+◌, ◌-◌, ◌/◌, ◌^◌, ◌≤◌, ◌<◌, cond, leb}
use Rattle.rules_histogram.specs.Limits.{limit}

-- How many powers of 2 stand at every fourth place of the table: limit 4 b is 2 to the power b.
abbrev pub power_count : ℕ
power_count = 44

-- The last of these that does not exceed the load is 2 to the power b: b is its highest set bit, or 43 where that is higher.
pub record Near (load b : ℕ) : Type 0 where
  pub within : b < power_count
  pub fits : 2 ^ b ≤ load
  pub last : suc b < power_count → load < 2 ^ suc b

-- Limit 4 b + i, from one of the last four, 172 + i: halved once for each power of 2 between, and rounded down.
abbrev pub halved_limit : ℕ → ℕ → ℕ
halved_limit b i = limit (172 + i) / 2 ^ (43 - b)

-- 1 where a limit does not exceed the load, else 0.
unfoldable pub passes : ℕ → ℕ → ℕ
passes load x = cond (leb x load) 1 0
