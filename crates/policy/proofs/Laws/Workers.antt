-- The workers of a run by its count: as many as the count says, and never more than sixteen.
use Rattle.std.specs.Prelude.{ℕ, ◌≤◌, ◌<◌, ◌≡◌, refl, Bool, true, cond, ◌||◌, leb}
use Rattle.std.proofs.Math.Bool.{or-true}
use Rattle.std.proofs.Common.{arith}
use Rattle.policy.specs.Contract.{worker_limit}

pub limit_most : (c : ℕ) → worker_limit c ≤ 16
unfolding worker_limit
limit_most c = omega arith

pub limit-below : (c : ℕ) {w : ℕ} → w < worker_limit c → w < 16
limit-below c h = omega (arith, limit_most c)

pub limit_is : (c : ℕ) → c ≤ 16 → worker_limit c ≡ c
unfolding worker_limit
limit_is c h = omega arith

pub limit_beyond : (c : ℕ) → 16 ≤ c → worker_limit c ≡ 16
unfolding worker_limit
limit_beyond c h = omega arith

-- ---- a byte that names no worker

-- One of two bytes does,
module _ (c a b : ℕ) where
  pub first_far : leb (worker_limit c) a ≡ true → leb (worker_limit c) a || leb (worker_limit c) b ≡ true
  first_far e = rw e refl

  pub second_far : leb (worker_limit c) b ≡ true → leb (worker_limit c) a || leb (worker_limit c) b ≡ true
  second_far e = rw (e, or-true (leb (worker_limit c) a)) refl

-- and 8 is judged first, whatever would follow.
pub far_eight : (far : Bool) (rest : ℕ) → far ≡ true → 8 ≡ cond far 8 rest
far_eight far rest e = rw e refl
