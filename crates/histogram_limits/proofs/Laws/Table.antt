-- The table of limits: one test that computes over all of it, and one lemma that makes of it the rule at each limit. From the
-- rule, limits rise. By two more tests, each fourth limit is a power of 2, and the limits between are the last of the table,
-- halved.
use Rattle.std.specs.Prelude.{ℕ, suc, ◌+◌, ◌*◌, ◌/◌, ◌%◌, ◌^◌, ◌≤◌, ◌<◌, ◌≡◌, refl, Bool, true, ◌&&◌, length, eqb, leb, ltb}
use Rattle.std.proofs.Math.Decide.{dec_le}
use Rattle.std.proofs.Math.Nat.{pow-le-pow_left, pow-le-pow_right}
use Rattle.std.proofs.Common.{le_trans, lt_of_le_of_lt, not-le_of_lt, arith, leb-true, ltb-true, eqb-true}
use Rattle.rules.specs.Bytes.{count, all}
use Rattle.run_invariant.proofs.Laws.Counts.{and_both, all_count}
use Rattle.rules_histogram.specs.Limits.{limit_count, IsLimit, limits, limit}
use Rattle.histogram_limits.specs.Terms.{power_count, halved_limit}

pub many : length limits ≡ limit_count
unfolding limits
many = refl

-- ---- the rule

-- The fourth power of x is at most 2 to the power k, and that of the next number is more.
unfoldable right : ℕ → ℕ → Bool
right k x = leb (x ^ 4) (2 ^ k) && ltb (2 ^ k) (suc x ^ 4)

all_right : all (λ k. right k (limit k)) (count 0 limit_count) ≡ true
unfolding limits all count right
all_right = refl

right-limit : (k x : ℕ) → right k x ≡ true → IsLimit k x
unfolding right
right-limit k x e =
    let both = and_both (leb (x ^ 4) (2 ^ k)) (ltb (2 ^ k) (suc x ^ 4)) e in
    let over : 2 ^ k < suc x ^ 4 = ltb-true (2 ^ k) (suc x ^ 4) both.1 in
    record {
      fits = leb-true (x ^ 4) (2 ^ k) both.0;
      largest = λ y h. elim (dec_le y x) [
        | yes l ↦ l
        | no n ↦ (let next : suc x ≤ y = omega arith in absurd (not-le_of_lt (lt_of_le_of_lt h over) (pow-le-pow_left next 4)))
      ];
    }

pub limit_rule : (k : ℕ) → k < limit_count → IsLimit k (limit k)
limit_rule k h = right-limit k (limit k) (all_count (λ k. right k (limit k)) limit_count 0 all_right k (omega arith) (omega arith))

-- ---- from one limit to others

pub limits_rise : (i k : ℕ) → i ≤ k → k < limit_count → limit i ≤ limit k
limits_rise i k l h =
    let two : 0 < 2 = omega arith in
    (limit_rule k h).largest (limit i) (le_trans (limit_rule i (omega arith)).fits (pow-le-pow_right two l))

all_fourths : all (λ b. eqb (limit (4 * b)) (2 ^ b)) (count 0 power_count) ≡ true
unfolding limits all count
all_fourths = refl

pub fourths : (b : ℕ) → b < power_count → limit (4 * b) ≡ 2 ^ b
fourths b h =
    eqb-true (limit (4 * b)) (2 ^ b)
    (all_count (λ b. eqb (limit (4 * b)) (2 ^ b)) power_count 0 all_fourths b (omega arith) (omega arith))

all_halved : all (λ k. eqb (limit k) (halved_limit (k / 4) (k % 4))) (count 0 limit_count) ≡ true
unfolding limits all count
all_halved = refl

pub halved : (b : ℕ) → b < power_count → (i : ℕ) → i < 4 → limit (4 * b + i) ≡ halved_limit b i
halved b h i l =
    let power : (4 * b + i) / 4 ≡ b = omega arith in
    let rest : (4 * b + i) % 4 ≡ i = omega arith in
    let test = all_count (λ k. eqb (limit k) (halved_limit (k / 4) (k % 4))) limit_count 0 all_halved (4 * b + i) in
    rw (power, rest) at (eqb-true (limit (4 * b + i)) _ (test (omega arith) (omega arith)))
