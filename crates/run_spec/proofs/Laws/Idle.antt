-- The set of idle workers as a loop builds it from the last worker to the first, its count of ones and its trailing zeros.
use Prim.Native.Nat.{ℕ, zero, suc, ◌+◌, ◌-◌, ◌*◌, ◌/◌, ◌%◌, ◌^◌, ◌≤◌, ◌<◌}
use Rattle.std.specs.Prelude.{◌≡◌, Bool, cond, List, get_or}
use Rattle.std.proofs.Math.Path.{refl}
use Rattle.std.proofs.Common.{◌∙◌, lt_of_lt_of_le, pow-suc, pow_mono, le-leb}
use Rattle.std.proofs.Math.Bool.{true, false}
use native.Mathlib.Omega.{arith}
use Rattle.std.specs.Int.Count.{ones, ones_in, ones_step, count_trailing_zeros, under}
use Rattle.std.proofs.lemmas.Bool.{lt-leb}
use Rattle.run_spec.specs.Idle.{is_idle, idle_bits, idle_number, idle_first}

-- ---- ones and trailing zeros

-- The lowest bit of the set, and the rest.
low_bit : (b : Bool) (x : ℕ) → (cond b 1 0 + 2 * x) % 2 ≡ cond b 1 0
low_bit true x =
    let e : (1 + 2 * x) % 2 ≡ 1 = omega arith in
    e
low_bit false x =
    let e : (0 + 2 * x) % 2 ≡ 0 = omega arith in
    e

high_bits : (b : Bool) (x : ℕ) → (cond b 1 0 + 2 * x) / 2 ≡ x
high_bits true x =
    let e : (1 + 2 * x) / 2 ≡ x = omega arith in
    e
high_bits false x =
    let e : (0 + 2 * x) / 2 ≡ x = omega arith in
    e

lowest_by : (b : Bool) (i t rest : ℕ) → suc i + t ≡ rest → i + under (cond b 1 0) t ≡ cond b i rest
lowest_by true i t rest e =
    let z : i + 0 ≡ i = omega arith in
    z
lowest_by false i t rest e = omega arith

-- No bit is set.
none-set : (k : ℕ) → count_trailing_zeros k 0 ≡ k
unfolding count_trailing_zeros
none-set zero = refl
none-set (suc k) = rw (none-set k) refl

doubled : (b : Bool) (x bound : ℕ) → x < bound → cond b 1 0 + 2 * x < bound * 2
doubled true x bound h = omega arith
doubled false x bound h = omega arith

module _ (held : List ℕ) where
  pub ones-set : (m i : ℕ) → ones (idle_bits held i m) ≡ idle_number held i m
  unfolding idle_bits idle_number ones ones_in
  ones-set zero i = refl
  ones-set (suc m) i =
      let b = is_idle (get_or held i 0) in
      let rest = idle_bits held (suc i) m in
      ones_step (cond b 1 0 + 2 * rest) ∙ (rw (low_bit b rest, high_bits b rest, ones-set m (suc i)) refl)

  -- The lowest idle worker of the m from worker i on, in a set that has k bits for them.
  lowest_from : (m k i : ℕ) → m ≤ k → i + k ≡ 16 → i + count_trailing_zeros k (idle_bits held i m) ≡ idle_first held i m
  unfolding count_trailing_zeros idle_bits idle_first
  lowest_from zero k i h e = rw (none-set k) e
  lowest_from (suc m) zero i h e = absurd (omega arith)
  lowest_from (suc m) (suc k) i h e =
      let b = is_idle (get_or held i 0) in
      let rest = idle_bits held (suc i) m in
      rw (low_bit b rest, high_bits b rest)
      (lowest_by b i (count_trailing_zeros k rest) (idle_first held (suc i) m) (lowest_from m k (suc i) (omega arith) (omega arith)))

  pub lowest_set : (m : ℕ) → m ≤ 16 → count_trailing_zeros 16 (idle_bits held 0 m) ≡ idle_first held 0 m
  lowest_set m h = omega (arith, lowest_from m 16 0 h (omega arith))

  -- The set has bits for the m workers alone.
  pub set_below : (m i : ℕ) → idle_bits held i m < 2 ^ m
  unfolding idle_bits
  set_below zero i = omega arith
  set_below (suc m) i =
      let fits = set_below m (suc i) in
      rw (pow-suc 2 m) (doubled (is_idle (get_or held i 0)) (idle_bits held (suc i) m) (2 ^ m) fits)

  -- ---- the loop, over m workers

  -- From worker w on the set is built.
  pub record Built (m w set : ℕ) : Type 0 where
    pub within : w ≤ m
    pub same : set ≡ idle_bits held w (m - w)

  module _ (m : ℕ) where
    pub built-start : Built m m 0
    unfolding idle_bits
    built-start =
        let none_left : m - m ≡ 0 = omega arith in
        record { within = omega arith; same = rw none_left refl }

    -- The turn for worker w - 1.
    module _ (w set : ℕ) (some_left : 0 < w) (built : Built m w set) where
      turn : (b : Bool) (next : ℕ) → is_idle (get_or held (w - 1) 0) ≡ b → next ≡ cond b 1 0 + 2 * set → Built m (w - 1) next
      unfolding idle_bits
      turn b next e f =
          let more : m - (w - 1) ≡ suc (m - w) = omega (arith, built.within) in
          let back : suc (w - 1) ≡ w = omega arith in
          record { within = omega (arith, built.within); same = rw (more, idle_bits, e, back, ← built.same) f }

      -- The set fits sixteen bits all the while.
      pub built-fits : m ≤ 16 → 2 * set + 1 < 65536
      built-fits most =
          let few = pow_mono {i = m - w} {j = 15} (omega (arith, built.within)) in
          let small : set < 32768 = rw built.same (lt_of_lt_of_le (set_below (m - w) w) few) in
          omega arith

      pub built-idle : 4095 ≤ get_or held (w - 1) 0 → Built m (w - 1) (2 * set + 1)
      unfolding is_idle
      built-idle h = turn true (2 * set + 1) (le-leb 4095 (get_or held (w - 1) 0) h) (omega arith)

      pub built-busy : get_or held (w - 1) 0 < 4095 → Built m (w - 1) (2 * set)
      unfolding is_idle
      built-busy h = turn false (2 * set) (lt-leb 4095 (get_or held (w - 1) 0) h) (omega arith)

    pub built-done : (w set : ℕ) → w ≤ 0 → Built m w set → set ≡ idle_bits held 0 m
    built-done w set h built =
        let z : w ≡ 0 = omega arith in
        let all : m - 0 ≡ m = omega arith in
        rw (z, all) at built.same
