-- Square roots by binary digits: the root and the rest after each digit; and the root of the root of 2 to the power k is limit k.
use Rattle.std.specs.Prelude.{ℕ, ◌+◌, ◌*◌, ◌^◌, ◌≤◌, ◌<◌, ◌≡◌, refl, leb}
use Rattle.std.proofs.Common.{mul-add, add-mul, mul_comm, mul_assoc, one-mul, mul-le-mul, pow-suc, arith, le-leb}
use Rattle.std.proofs.Math.Nat.{pow-zero}
use Rattle.std.proofs.Math.Decide.{dec_le}
use Rattle.std.proofs.lemmas.Bool.{lt-leb}
use Rattle.rules_histogram.specs.Limits.{IsLimit}
use Rattle.limits_root.specs.declared.Root.{Root}
use Rattle.limits_root.specs.declared.Roots.{Roots}
use Rattle.limits_root.specs.Terms.{value, number, Fourth}

-- Two comparisons answer alike where each holds when the other does.
pub compared_alike : (a b c d : ℕ) → (a ≤ b → c ≤ d) → (b < a → d < c) → leb a b ≡ leb c d
compared_alike a b c d holds fails = elim (dec_le a b) [
  | yes l ↦ rw (le-leb a b l, le-leb c d (holds l)) refl
  | no n ↦ rw (lt-leb a b (omega arith), lt-leb c d (fails (omega arith))) refl
]

-- ---- squares

square_double : (x : ℕ) → (2 * x) * (2 * x) ≡ 4 * (x * x)
square_double x = rw (mul_assoc 2 x (2 * x), mul_comm x (2 * x), mul_assoc 2 x x) (omega arith)

square_next : (x : ℕ) → (x + 1) * (x + 1) ≡ x * x + (2 * x + 1)
square_next x = rw (mul-add (x + 1) x 1, add-mul x 1 x) (omega arith)

square_below : (x y : ℕ) → x * x < y * y → x < y
square_below x y h = elim (dec_le y x) [ yes l ↦ absurd (omega (arith, mul-le-mul l l)) | no n ↦ omega arith ]

-- ---- a root and its rest

-- Two more digits, `pair`, come behind a number and so behind the rest that its root x leaves. The root gets one more: where it
-- is 1, the rest loses the `step` by which the square of 2 x + 1 exceeds that of 2 x. The rest stays at most twice the root.
module _ (x rest pair all step longer : ℕ) (two : pair < 4) (less : rest ≤ 2 * x)
    (behind : all ≡ 4 * rest + pair) (exceeds : step ≡ 4 * x + 1) where
  pub digit_0 : longer ≡ 2 * x + 0 → all < step → (longer * longer + all ≡ 4 * (x * x + rest) + pair) × (all ≤ 2 * longer)
  digit_0 root short =
      let even : longer ≡ 2 * x = omega arith in
      (rw even (omega (arith, square_double x)), omega arith)

  pub digit_1 : (left : ℕ) → longer ≡ 2 * x + 1 → left + step ≡ all
      → (longer * longer + left ≡ 4 * (x * x + rest) + pair) × (left ≤ 2 * longer)
  digit_1 left root taken = (rw root (omega (arith, square_next (2 * x), square_double x)), omega arith)

-- A root whose rest is at most its double is the largest.
root-largest : (x rest y : ℕ) → rest ≤ 2 * x → y * y ≤ x * x + rest → y ≤ x
root-largest x rest y less fits =
    let below : y < x + 1 = square_below y (x + 1) (omega (arith, square_next x)) in
    omega arith

-- The root of a number below a square is below what is squared.
pub root_below : (r : Root) (b : ℕ) → number r < b * b → value r.root < b
unfolding number
root_below r b h = square_below (value r.root) b (omega arith)

-- ---- the root of the root

fourth_power : (x : ℕ) → x ^ 4 ≡ (x * x) * (x * x)
fourth_power x =
    let square : x ^ 2 ≡ x * x = rw (pow-suc x 1, pow-suc x 0, pow-zero x, one-mul x) refl in
    rw (pow-suc x 3, pow-suc x 2, square, mul_assoc (x * x) x x)

-- The root of the root of 2 to the power k is limit k: where a fourth power is at most that, the square is at most the root.
pub fourth_limit : (k : ℕ) (roots : Roots) → Fourth roots → number roots.square ≡ 2 ^ k
    → IsLimit k (value roots.fourth.root)
unfolding number
fourth_limit k roots f e =
    let s = value roots.square.root in
    let x = value roots.fourth.root in
    record {
      fits =
          let below : x * x ≤ s = omega arith in
          rw (fourth_power x) (omega (arith, mul-le-mul below below));
      largest = λ y h.
          let fits : (y * y) * (y * y) ≤ number roots.square = omega (arith, fourth_power y) in
          let square : y * y ≤ s = root-largest s (value roots.square.rest) (y * y) f.square.less fits in
          root-largest x (value roots.fourth.rest) y f.fourth.less (omega arith);
    }
