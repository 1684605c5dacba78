-- The highest number of an interval that passes a test: turn by turn, what is found and what is not, over an interval in two parts, and
-- that none is found exactly where all numbers fail.
use Prim.Native.Nat.{ℕ, zero, suc, ◌+◌, ◌-◌, ◌≤◌, ◌<◌}
use Rattle.std.specs.Prelude.{◌≡◌, Bool, ◌&&◌}
use Rattle.std.proofs.Math.Path.{refl, sym}
use Rattle.std.proofs.Common.{◌∙◌, lt_of_not-le}
use Rattle.std.proofs.Math.Bool.{true, false, cond, not}
use Rattle.std.proofs.Math.Option.{Option, none, some, none-ne-some}
use Rattle.std.proofs.Math.Decide.{ℕ_discrete, dec_le}
use native.Mathlib.Omega.{arith}
use Rattle.rules.specs.Bytes.{count, all, find, highest}
use Rattle.tree.specs.Laws.Counts.{count_high, count_none}

-- ---- turns

module _ (p : ℕ → Bool) (low : ℕ) where
  pub highest-turn : (j : ℕ) → low ≤ j → highest p low (suc j) ≡ cond (p j) (some j) (highest p low j)
  unfolding highest find
  highest-turn j h = rw (count_high low j h) refl

  pub highest-done : (j : ℕ) → j ≤ low → highest p low j ≡ none
  unfolding highest find
  highest-done j h = rw (count_none low j h) refl

-- ---- what is found

-- Number j passes, and none above it does.
pub record Highest (p : ℕ → Bool) (low end j : ℕ) : Type 0 where
  pub from : low ≤ j
  pub before : j < end
  pub passes : p j ≡ true
  pub above : (k : ℕ) → j < k → k < end → p k ≡ false

module _ (p : ℕ → Bool) (low : ℕ) where
  pub highest-is : (end j : ℕ) → highest p low end ≡ some j → Highest p low end j
  highest-is zero j e = absurd (none-ne-some j (sym (highest-done p low zero (omega arith)) ∙ e))
  highest-is (suc end) j e =
      elim (dec_le low end) [
        | yes h ↦ by h (p end) refl (sym (highest-turn p low end h) ∙ e) (λ found. highest-is end j found)
        | no n ↦ absurd (none-ne-some j (sym (highest-done p low (suc end) (lt_of_not-le n)) ∙ e))
      ]
    where
      by : low ≤ end → (b : Bool) → p end ≡ b → cond (p end) (some end) (highest p low end) ≡ some j
          → (highest p low end ≡ some j → Highest p low end j) → Highest p low (suc end) j
      by h true here found later =
          let same : some end ≡ some j = rw here at found in
          let is : end ≡ j = cc in
          record { from = omega arith; before = omega arith; passes = rw (← is) here; above = λ k l u. absurd (omega arith) }
      by h false here found later =
          let below = later (rw here at found) in
          record {
            from = below.from;
            before = omega (arith, below.before);
            passes = below.passes;
            above = λ k l u. elim (ℕ_discrete k end) [ yes s ↦ rw s here | no n ↦ below.above k l (omega arith) ];
          }

  pub highest-at : (end j : ℕ) → Highest p low end j → highest p low end ≡ some j
  highest-at zero j is = absurd (omega (arith, is.before))
  highest-at (suc end) j is =
      highest-turn p low end (omega (arith, is.from, is.before))
      ∙ (elim (ℕ_discrete end j) [
        | yes e ↦ rw (e, is.passes) refl
        | no n ↦ rw (is.above end (omega (arith, is.before)) (omega arith))
            (highest-at end j
            (record {
              from = is.from;
              before = omega (arith, is.before);
              passes = is.passes;
              above = λ k l u. is.above k l (omega arith);
            }))
      ])

  pub highest_fails : (end : ℕ) → highest p low end ≡ none → (j : ℕ) → low ≤ j → j < end → p j ≡ false
  highest_fails zero e j l u = absurd (omega arith)
  highest_fails (suc end) e j l u =
      by (p end) refl (sym (highest-turn p low end (omega arith)) ∙ e) (λ found less. highest_fails end found j l less)
    where
      by : (b : Bool) → p end ≡ b → cond (p end) (some end) (highest p low end) ≡ none
          → (highest p low end ≡ none → j < end → p j ≡ false) → p j ≡ false
      by true here found later = absurd (none-ne-some end (sym (rw here at found)))
      by false here found later =
          elim (ℕ_discrete j end) [ yes s ↦ rw s here | no n ↦ later (rw here at found) (omega arith) ]

  pub fails_highest : (end : ℕ) → ((j : ℕ) → low ≤ j → j < end → p j ≡ false) → highest p low end ≡ none
  fails_highest zero fails = highest-done p low zero (omega arith)
  fails_highest (suc end) fails =
      elim (dec_le low end) [
        | yes l ↦ highest-turn p low end l ∙ rw (fails end l (omega arith)) (fails_highest end (λ j x y. fails j x (omega arith)))
        | no n ↦ highest-done p low (suc end) (lt_of_not-le n)
      ]

-- ---- two tests that agree

pub highest_same : (p q : ℕ → Bool) (low end : ℕ) → ((j : ℕ) → low ≤ j → j < end → p j ≡ q j) → highest p low end ≡ highest q low end
highest_same p q low zero same = highest-done p low zero (omega arith) ∙ sym (highest-done q low zero (omega arith))
highest_same p q low (suc end) same =
    elim (dec_le low end) [
      | yes l ↦ highest-turn p low end l
          ∙ rw (same end l (omega arith), highest_same p q low end (λ j x y. same j x (omega arith))) (sym (highest-turn q low end l))
      | no n ↦ highest-done p low (suc end) (lt_of_not-le n) ∙ sym (highest-done q low (suc end) (lt_of_not-le n))
    ]

-- ---- two parts

-- What is found, or else another.
or_else : Option ℕ → Option ℕ → Option ℕ
or_else none o = o
or_else (some j) o = some j

-- What is found in the upper part is found in all, and where nothing is, what is found in the lower.
module _ (p : ℕ → Bool) (first low : ℕ) (h : first ≤ low) where
  by_parts : (m : ℕ) → highest p first (low + m) ≡ or_else (highest p low (low + m)) (highest p first low)
  unfolding or_else
  by_parts zero =
      let here : low + 0 ≡ low = omega arith in
      rw (here, highest-done p low low (omega arith)) refl
  by_parts (suc m) =
      let next : low + suc m ≡ suc (low + m) = omega arith in
      rw (next, highest-turn p first (low + m) (omega arith), highest-turn p low (low + m) (omega arith), by_parts m)
      (by (p (low + m)) (highest p low (low + m)))
    where
      by : (b : Bool) (o : Option ℕ)
          → cond b (some (low + m)) (or_else o (highest p first low)) ≡ or_else (cond b (some (low + m)) o) (highest p first low)
      by true o = refl
      by false o = refl

  parts : (end : ℕ) → low ≤ end → highest p first end ≡ or_else (highest p low end) (highest p first low)
  parts end l =
      let whole : low + (end - low) ≡ end = omega arith in
      rw whole at (by_parts (end - low))

  pub upper_none : (end : ℕ) → low ≤ end → highest p low end ≡ none → highest p first low ≡ highest p first end
  unfolding or_else
  upper_none end l e = sym (parts end l ∙ rw e refl)

  pub upper_some : (end j : ℕ) → low ≤ end → highest p low end ≡ some j → highest p low end ≡ highest p first end
  unfolding or_else
  upper_some end j l e = e ∙ sym (parts end l ∙ rw e refl)

-- ---- none

-- Whether nothing is found.
unfoldable pub nothing : Option ℕ → Bool
nothing none = true
nothing (some j) = false

-- Nothing is found exactly where all numbers pass the opposite test.
module _ (p q : ℕ → Bool) (opposite : (j : ℕ) → q j ≡ not (p j)) where
  by_all : (m low : ℕ) → all q (count low m) ≡ nothing (highest p low (low + m))
  unfolding all count nothing or_else
  by_all zero low = rw (highest-done p low (low + 0) (omega arith)) refl
  by_all (suc m) low =
      let next : low + suc m ≡ suc low + m = omega arith in
      rw (
        opposite low,
        by_all m (suc low),
        next,
        by_parts p low (suc low) (omega arith) m,
        highest-turn p low low (omega arith),
        highest-done p low low (omega arith),
      )
      (by (p low) (highest p (suc low) (suc low + m)))
    where
      by : (b : Bool) (o : Option ℕ) → not b && nothing o ≡ nothing (or_else o (cond b (some low) none))
      by true none = refl
      by true (some j) = refl
      by false none = refl
      by false (some j) = refl

  pub all_highest : (low end : ℕ) → all q (count low (end - low)) ≡ nothing (highest p low end)
  unfolding all nothing
  all_highest low end =
      elim (dec_le low end) [
        | yes l ↦ (let whole : low + (end - low) ≡ end = omega arith in rw whole at (by_all (end - low) low))
        | no n ↦ rw (count_none low end (omega arith), highest-done p low end (omega arith)) refl
      ]
