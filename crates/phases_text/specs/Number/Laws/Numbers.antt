-- Numbers in decimal digits: how many are printed, and the loop that writes them from the last to the first.
use Rattle.std.specs.Prelude.{ℕ, zero, suc, ◌+◌, ◌-◌, ◌*◌, ◌/◌, ◌%◌, ◌^◌, ◌≤◌, ◌<◌, ◌≡◌, List, [], ◌∷◌, ◌++◌, length, drop, set}
use Rattle.std.proofs.Math.Path.{refl}
use Rattle.std.proofs.Common.{sym, ap, ◌∙◌, pow-suc, length-append, length-set, lt-length-set, drop-cons, get_or-set_same, drop-set-lt, lt-ltb, le-ltb}
use Rattle.std.proofs.Math.Decide.{dec_lt}
use native.Mathlib.Omega.{arith}
use Rattle.std.proofs.Math.Seq.{append_snoc}
use Rattle.rules.specs.Program.{digits, decimal}
use Rattle.rules.specs.Calls.{written}

-- ---- how many

digits_small : (m x : ℕ) → x < 10 → digits (suc m) x ≡ (48 + x) ∷ []
unfolding digits
digits_small m x h = rw (lt-ltb x 10 h) refl

digits_large : (m x : ℕ) → 10 ≤ x → digits (suc m) x ≡ digits m (x / 10) ++ ((48 + x % 10) ∷ [])
unfolding digits
digits_large m x h = rw (le-ltb x 10 h) refl

many_small : (m x : ℕ) → x < 10 → length (digits (suc m) x) ≡ 1
many_small m x h = ap length (digits_small m x h)

many_large : (m x : ℕ) → 10 ≤ x → length (digits (suc m) x) ≡ suc (length (digits m (x / 10)))
many_large m x h =
    ap length (digits_large m x h) ∙ omega (arith, length-append (digits m (x / 10)) ((48 + x % 10) ∷ []))

many_most : (m x : ℕ) → length (digits m x) ≤ m
unfolding digits
many_most zero x = omega arith
many_most (suc m) x =
    elim (dec_lt x 10) [
      | yes h ↦ omega (arith, many_small m x h)
      | no n ↦ omega (arith, many_large m x (omega arith), many_most m (x / 10))
    ]

pub decimal_most : (x : ℕ) → length (decimal x) ≤ 5
unfolding decimal
decimal_most x = many_most 5 x

power_some : (m : ℕ) → 1 ≤ 10 ^ m
power_some zero = omega arith
power_some (suc m) = omega (arith, pow-suc 10 m, power_some m)

-- A number from 10 ^ m on, or any if m is 0, has m + 1 digits: if it is below 10 ^ (m + 1), or if there is room for no more.
many_between : (m room x : ℕ) → m < room → (0 < m → 10 ^ m ≤ x) → (suc m < room → x < 10 ^ suc m)
    → suc m ≡ length (digits room x)
unfolding digits
many_between m zero x some l h = absurd (omega arith)
many_between zero (suc room) x some l h =
    elim (dec_lt x 10) [
      | yes s ↦ sym (many_small room x s)
      | no n ↦
          elim (dec_lt 0 room) [
            | yes r ↦ absurd (omega (arith, h (omega arith)))
            | no z ↦ omega (arith, many_large room x (omega arith), many_most room (x / 10))
          ]
    ]
many_between (suc m) (suc room) x some l h =
    let least : 10 * 10 ^ m ≤ x = omega (arith, l (omega arith), pow-suc 10 m) in
    let most : suc m < room → x / 10 < 10 ^ suc m = λ r. omega (arith, h (omega arith), pow-suc 10 (suc m)) in
    omega (
      arith,
      many_large room x (omega (arith, power_some m)),
      many_between m room (x / 10) (omega arith) (λ s. omega arith) most,
    )

pub places_between : (m x : ℕ) → m < 5 → (0 < m → 10 ^ m ≤ x) → (suc m < 5 → x < 10 ^ suc m) → suc m ≡ length (decimal x)
unfolding decimal
places_between m x some l h = many_between m 5 x some l h

-- ---- from the last to the first

-- The last m digits of a number.
unfoldable pub last_digits : ℕ → ℕ → List ℕ
last_digits zero x = []
last_digits (suc m) x = last_digits m (x / 10) ++ ((48 + x % 10) ∷ [])

digits_last : (m x : ℕ) → digits m x ≡ last_digits (length (digits m x)) x
unfolding digits last_digits
digits_last zero x = refl
digits_last (suc m) x =
    elim (dec_lt x 10) [
      | yes h ↦
          let same : 48 + x ≡ 48 + x % 10 = omega arith in
          rw (many_small m x h, digits_small m x h, same) refl
      | no n ↦
          rw (many_large m x (omega arith), digits_large m x (omega arith))
          (ap (λ (l : List ℕ). l ++ ((48 + x % 10) ∷ [])) (digits_last m (x / 10)))
    ]

pub decimal-last : (x : ℕ) → decimal x ≡ last_digits (length (decimal x)) x
unfolding decimal
decimal-last x = digits_last 5 x

-- What stands from a place on, once a byte is stored there.
drop-stored : (l : List ℕ) (j a : ℕ) → j < length l → drop j (set l j a) ≡ a ∷ drop (suc j) l
drop-stored l j a h =
    let here : j < length (set l j a) = lt-length-set l j a h in
    rw (drop-cons (set l j a) j 0 here, get_or-set_same l j a 0 h, drop-set-lt (suc j) l j a (omega arith)) refl

-- ---- the loop

-- The digits of a number go over the front of the text `before`.
module _ (number : ℕ) (before : List ℕ) where
  -- With i digits to come, the last of those of `rest`.
  pub record Writing (text : List ℕ) (i rest : ℕ) : Type 0 where
    pub few : i ≤ 5
    pub room : length text ≡ length before
    pub same : last_digits i rest ++ drop i text ≡ written (decimal number) before

  pub writing_start : (count : ℕ) → count ≡ length (decimal number) → Writing before count number
  unfolding written
  writing_start count e =
      record { few = omega (arith, decimal_most number); room = refl; same = rw (e, ← decimal-last number) refl }

  turn : (text : List ℕ) (j rest : ℕ) → j < length text
      → last_digits (suc j) rest ++ drop (suc j) text ≡ last_digits j (rest / 10) ++ drop j (set text j (48 + rest % 10))
  unfolding last_digits
  turn text j rest h =
      rw (drop-stored text j (48 + rest % 10) h) (append_snoc (last_digits j (rest / 10)) (48 + rest % 10) (drop (suc j) text))

  pub writing_turn : 5 ≤ length before → (text : List ℕ) (i rest : ℕ) → Writing text i rest → 0 < i
      → Writing (set text (i - 1) (48 + rest % 10)) (i - 1) (rest / 10)
  writing_turn h text i rest w some =
      let next : i ≡ suc (i - 1) = omega arith in
      record {
        few = omega (arith, w.few);
        room = length-set text (i - 1) (48 + rest % 10) ∙ w.room;
        same = sym (turn text (i - 1) rest (omega (arith, w.few, w.room))) ∙ (rw next at w.same);
      }

  pub writing_done : (text : List ℕ) (i rest : ℕ) → Writing text i rest → i ≤ 0 → text ≡ written (decimal number) before
  unfolding last_digits
  writing_done text i rest w none =
      let all : i ≡ 0 = omega arith in
      rw all at w.same

-- The byte behind a number may be stored first.
pub behind_number : (number end : ℕ) (before : List ℕ) → 6 ≤ length before → (count : ℕ) → count ≡ length (decimal number)
    → written (decimal number) (set before count end) ≡ written (decimal number ++ (end ∷ [])) before
unfolding written
behind_number number end before h count e =
    let many : length (decimal number ++ (end ∷ [])) ≡ suc count = omega (arith, length-append (decimal number) (end ∷ [])) in
    let room : count < length before = omega (arith, decimal_most number) in
    rw (many, ← e, drop-stored before count end room) (sym (append_snoc (decimal number) end (drop (suc count) before)))
