-- The loop that copies bytes out, turn by turn: after i turns the first i bytes stand at the front of the buffer, and beyond them
-- its old bytes.
use Rattle.std.specs.Prelude.{ℕ, suc, ◌+◌, ◌≤◌, ◌<◌, ◌≡◌, List, ◌++◌, length, take, drop, get_or, set}
use Rattle.std.proofs.Math.Path.{refl}
use Rattle.std.proofs.Common.{zero-add, add-one, arith, length-take-le}
use Rattle.std.proofs.Math.Seq.{paste-suc}
use Rattle.std.proofs.lemmas.List.Edits.{length-paste}
use Rattle.rules.specs.Calls.{written}

module _ (from before : List ℕ) where
  -- The buffer after i turns.
  written_front : (i : ℕ) → i ≤ length from → written (take i from) before ≡ take i from ++ drop i before
  unfolding written
  written_front i h = rw (length-take-le i from)

  pub copy_start : before ≡ written (take 0 from) before
  unfolding written
  copy_start = refl

  pub copy_turn : (i : ℕ) → i < length from → i < length before → (to : List ℕ) → to ≡ written (take i from) before
      → set to i (get_or from i 0) ≡ written (take (i + 1) from) before
  copy_turn i f b to e =
      let less : i ≤ length from = omega arith in
      let more : suc i ≤ length from = omega arith in
      let room : 0 + i < length before = omega arith in
      rw (e, add-one, written_front i less, written_front (suc i) more) (simp zero-add at (paste-suc before 0 from i 0 room f))

  pub copy_length : (i : ℕ) → i ≤ length from → i ≤ length before → (to : List ℕ) → to ≡ written (take i from) before
      → length to ≡ length before
  copy_length i f b to e =
      let room : 0 + i ≤ length before = omega arith in
      rw (e, written_front i f) (simp zero-add at (length-paste before 0 from i room f))

  pub copy_done : (i count : ℕ) → i ≤ count → (i < count → ⊥) → (to : List ℕ) → to ≡ written (take i from) before
      → to ≡ written (take count from) before
  copy_done i count most past to e = let all : i ≡ count = omega arith in rw all at e
