-- A buffer that is written piece by piece: each goes behind what is written, through the part of the buffer that begins there.
use Rattle.std.specs.Prelude.{ℕ, suc, ◌+◌, ◌-◌, ◌*◌, ◌≤◌, ◌≡◌}
use Rattle.std.proofs.Math.Path.{refl}
use Rattle.std.proofs.Common.{sym, ap, ◌∙◌, arith, length-drop, take_all, take_at, drop_at, drop-drop}
use mathlib.Core.List.{List, [], ◌∷◌, ◌++◌, append-nil, append_assoc}
use Rattle.std.proofs.Math.ListN.{length, take, drop, length-append, drop_of_length-le}
use Rattle.std.proofs.lemmas.List.Edits.{sets, sets-eq}
use Rattle.std.proofs.Math.Seq.{take-append_seam, drop-append-add}
use Rattle.rules.specs.Calls.{written}
use Rattle.buffers.specs.Terms.{event_put}

-- What fits a buffer leaves its length.
pub length-written : (bytes before : List ℕ) → length bytes ≤ length before → length (written bytes before) ≡ length before
unfolding written
length-written bytes before h =
    omega (arith, length-append bytes (drop (length bytes) before), length-drop (length bytes) before)

-- Bytes that are stored behind what is written.
pub sets-written : (bytes new before : List ℕ) → length bytes + length new ≤ length before
    → sets (written bytes before) (length bytes) new ≡ written (bytes ++ new) before
unfolding written
sets-written bytes new before room =
    let old = written bytes before in
    let front : take (length bytes) old ≡ bytes = take-append_seam bytes (drop (length bytes) before) in
    let rest : drop (length bytes + length new) old ≡ drop (length (bytes ++ new)) before =
    rw (length-append, drop-append-add) (drop-drop (length new) (length bytes) before) in
    sets-eq new old (length bytes) (omega (arith, length-written bytes before (omega arith))) ∙ rw (front, rest) refl

-- An event that is stored behind k others.
pub event_written : (bytes before : List ℕ) (k a b : ℕ) → length bytes ≡ 2 * k → 2 * k + 2 ≤ length before
    → event_put (written bytes before) k a b ≡ written (bytes ++ (a ∷ b ∷ [])) before
unfolding event_put
event_written bytes before k a b e room =
    let one : 2 * k + 1 ≡ suc (2 * k) = omega arith in
    rw (one, ← e) (sets-written bytes (a ∷ b ∷ []) before (omega arith))

-- The part of a buffer from `at` on, and the buffer once other bytes stand there.
abbrev pub part_of : List ℕ → ℕ → List ℕ
part_of text at = take (length text - at) (drop at text)

abbrev pub with_part : List ℕ → ℕ → List ℕ → List ℕ
with_part text at part = take at text ++ (part ++ drop (length text - at) (drop at text))

-- The bytes `xs` stand at the front of a buffer, up to `at`.
pub record Front (before xs text : List ℕ) (at : ℕ) : Type 0 where
  pub many : at ≡ length xs
  pub fits : at ≤ length before
  pub same : text ≡ written xs before

pub front_none : (before : List ℕ) → Front before [] before 0
unfolding written
front_none before = record { many = refl; fits = omega arith; same = refl }

pub front_first : (before xs text : List ℕ) (at : ℕ) → length xs ≤ length before
    → (at ≡ length xs) × (text ≡ written xs before) → Front before xs text at
front_first before xs text at h put = record { many = put.0; fits = omega (arith, put.0); same = put.1 }

module _ {before xs text : List ℕ} {at : ℕ} (front : Front before xs text at) where
  pub front_length : length text ≡ length before
  front_length = ap length front.same ∙ length-written xs before (omega (arith, front.many, front.fits))

  -- The part behind.
  rest_is : drop at text ≡ drop at before
  unfolding written
  rest_is = rw (front.same, front.many) (drop_at xs (drop (length xs) before) (length xs) refl)

  rest_length : length (drop at text) ≡ length text - at
  rest_length = length-drop at text

  part_is : part_of text at ≡ drop at before
  part_is = take_all (length text - at) (drop at text) (omega (arith, rest_length)) ∙ rest_is

  pub front_within : at ≤ length text
  front_within = omega (arith, front_length, front.fits)

  -- It has room for m bytes, where the buffer has.
  pub front_room : (m : ℕ) → at + m ≤ length before → m ≤ length (part_of text at)
  front_room m h = omega (arith, ap length part_is ∙ length-drop at before)

  -- One more piece is written through the part.
  pub front_next : (ys part : List ℕ) (n : ℕ) → at + length ys ≤ length before
      → (n ≡ length ys) × (part ≡ written ys (part_of text at))
      → Front before (xs ++ ys) (with_part text at part) (at + n)
  unfolding written
  front_next ys part n h put =
      let past : length (drop at text) ≤ length text - at = omega (arith, rest_length) in
      let none : drop (length text - at) (drop at text) ≡ [] = drop_of_length-le (drop at text) past in
      let first : take at text ≡ xs = rw front.same (take_at xs (drop (length xs) before) at (sym front.many)) in
      let both : length (xs ++ ys) ≡ at + length ys = omega (arith, length-append xs ys, front.many) in
      let wrote : part ≡ ys ++ drop (at + length ys) before =
      rw part_is at put.1 ∙ rw (drop-drop (length ys) at before) refl in
      record {
        many = omega (arith, both, put.0);
        fits = omega (arith, put.0);
        same = rw (none, append-nil part, first, both, append_assoc xs ys (drop (at + length ys) before))
            (ap (λ (l : List ℕ). xs ++ l) wrote);
      }
