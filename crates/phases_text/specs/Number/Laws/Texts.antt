-- The pieces of a text: numbers with a byte behind each, and lines of them.
use Rattle.std.specs.Prelude.{ℕ, suc, ◌*◌, ◌≤◌, ◌≡◌, List, [], ◌∷◌, ◌++◌, length}
use Rattle.std.proofs.Common.{ap, ◌∙◌, arith, length-append}
use Rattle.std.proofs.Math.Seq.{append_snoc}
use Rattle.rules.specs.Program.{decimal, line}
use Rattle.rules.specs.Calls.{written}
use Rattle.buffers.specs.Laws.Fronts.{Front}
use Rattle.phases_text.specs.Number.Laws.Numbers.{decimal_most}

-- A text by another name of its bytes.
pub text_is : (before text : List ℕ) (at : ℕ) {xs ys : List ℕ} → xs ≡ ys → (at ≡ length xs) × (text ≡ written xs before)
    → (at ≡ length ys) × (text ≡ written ys before)
text_is before text at same put = (put.0 ∙ ap length same, put.1 ∙ ap (λ (l : List ℕ). written l before) same)

pub front_is : {before xs text : List ℕ} {at : ℕ} → Front before xs text at → {ys : List ℕ} → xs ≡ ys
    → (at ≡ length ys) × (text ≡ written ys before)
front_is {before} {xs} {text} {at} front same = text_is before text at same (front.many, front.same)

-- A number and the byte behind it.
abbrev pub piece : ℕ → ℕ → List ℕ
piece x end = decimal x ++ (end ∷ [])

pub piece_most : (x end : ℕ) → length (piece x end) ≤ 6
piece_most x end = omega (arith, length-append (decimal x) (end ∷ []), decimal_most x)

-- A line, by its first number.
pub line-more : (x y : ℕ) (ys : List ℕ) → piece x 32 ++ line (y ∷ ys) ≡ line (x ∷ y ∷ ys)
unfolding line
line-more x y ys = append_snoc (decimal x) 32 (line (y ∷ ys))

pub line_most : (x : ℕ) (xs : List ℕ) → length (line (x ∷ xs)) ≤ 6 * suc (length xs)
unfolding line
line_most x [] = piece_most x 10
line_most x (y ∷ ys) =
    rw (← line-more x y ys)
    (omega (arith, length-append (piece x 32) (line (y ∷ ys)), piece_most x 32, line_most y ys))
