-- A load's highest set bit, from its leading zeros, and a truth value as a number.
use Rattle.std.specs.Prelude.{ℕ, ◌-◌, ◌^◌, ◌≤◌, ◌<◌, ◌≡◌, refl, Bool, true, false, cond}
use Rattle.std.proofs.Common.{le_trans, arith, pow_mono}
use Rattle.std.specs.Int.Count.{count_leading_zeros}
use Rattle.std.proofs.lemmas.Nat.{leading_top}
use mir.Val.{bool_byte}
use Rattle.histogram_limits.specs.Terms.{power_count, Near}

-- ---- the highest set bit

module _ (load : ℕ) (some : 0 < load) (fits : load < 2 ^ 64) where
  pub leading_some : count_leading_zeros 64 load ≤ 63
  leading_some = let top = leading_top 64 load some fits in omega (arith, top.1)

  pub near_bit : 63 - count_leading_zeros 64 load < power_count → Near load (63 - count_leading_zeros 64 load)
  near_bit h =
      let top = leading_top 64 load some fits in
      let same : top.0 ≡ 63 - count_leading_zeros 64 load = omega (arith, top.1) in
      record { within = h; fits = rw same at top.2; last = λ l. rw same at top.3 }

  pub near_last : power_count ≤ 63 - count_leading_zeros 64 load → Near load 43
  near_last h =
      let top = leading_top 64 load some fits in
      let over : 43 ≤ top.0 = omega (arith, top.1) in
      record { within = omega arith; fits = le_trans (pow_mono over) top.2; last = λ l. absurd (omega arith) }

-- ---- a comparison counted

-- A truth value as a number.
pub bool_number : (x : Bool) → bool_byte x ≡ cond x 1 0
bool_number true = refl
bool_number false = refl
