-- The worker of a phase by the bytes of a trace, and the loop that writes a line for each record of a run list.
use Prim.Native.Nat.{ℕ, zero, suc, ◌+◌, ◌-◌, ◌*◌, ◌≤◌, ◌<◌}
use Rattle.std.specs.Prelude.{◌≡◌, length, get_or}
use Rattle.std.proofs.Math.Path.{refl}
use mathlib.Core.List.{List, [], ◌∷◌, ◌++◌, flatten}
use Rattle.std.proofs.Common.{zero-add, add-one}
use native.Mathlib.Omega.{arith}
use Rattle.std.proofs.Math.ListN.{length-append}
use Rattle.rules.specs.Bytes.{count}
use Rattle.rules.specs.Program.{line}
use Rattle.rules.specs.Calls.{written}
use Rattle.tree.specs.Laws.Counts.{count_snoc}
use Rattle.phases_text.specs.Contract.{most_line}
use Rattle.phases_text.specs.Line.Terms.{worker_by, line_of, lines_of}
use Rattle.buffers.specs.Terms.{number_at}
use Rattle.buffers.specs.Laws.Records.{flat-one}
use Rattle.buffers.specs.Laws.Fronts.{part_of, with_part, Front, front_none, front_next}
use Rattle.phases_text.specs.Number.Laws.Texts.{text_is, line_most}

pub worker-later : (trace : List ℕ) (k : ℕ) → 0 < k → get_or trace (4 * (k - 1)) 0 ≡ worker_by trace k
unfolding worker_by
worker-later trace zero h = absurd (omega arith)
worker-later trace (suc k) h =
    let same : suc k - 1 ≡ k = omega arith in
    rw same refl

-- A trace and a run list.
module _ (trace list : List ℕ) where
  line_few : (k : ℕ) → length (line_of trace list k) ≤ most_line
  unfolding line_of
  line_few k =
      let phase = number_at list (4 * k) in
      line_most phase (worker_by trace phase ∷ number_at list (4 * k + 2) ∷ [])

  lines_more : (k : ℕ) → lines_of trace list (suc k) ≡ lines_of trace list k ++ line_of trace list k
  unfolding lines_of
  lines_more k = rw (count_snoc k 0, zero-add) (flat-one (line_of trace list) (count 0 k) k)

  pub lines_most : (k : ℕ) → length (lines_of trace list k) ≤ most_line * k
  unfolding lines_of count flatten
  lines_most zero = omega arith
  lines_most (suc k) =
      rw (lines_more k) (omega (arith, length-append (lines_of trace list k) (line_of trace list k), line_few k, lines_most k))

-- The text `before`, a trace and a run list.
module _ (before trace list : List ℕ) where
  -- k records' lines are written.
  abbrev pub Listing : ℕ → List ℕ → ℕ → Type 0
  Listing k text at = Front before (lines_of trace list k) text at

  pub listing_start : Listing 0 before 0
  unfolding lines_of count flatten
  listing_start = front_none before

  module _ (k : ℕ) (text : List ℕ) (at : ℕ) (so : Listing k text at) where
    -- What is written so far is short.
    pub listing-few : at ≤ most_line * k
    listing-few = omega (arith, so.many, lines_most trace list k)

    next : most_line * (k + 1) ≤ length before → (part : List ℕ) (n : ℕ)
        → (n ≡ length (line_of trace list k)) × (part ≡ written (line_of trace list k) (part_of text at))
        → Listing (k + 1) (with_part text at part) (at + n)
    next room part n put =
        rw (add-one, lines_more trace list k)
        (front_next so (line_of trace list k) part n (omega (arith, listing-few, line_few trace list k)) put)

    -- By the numbers that the code reads.
    pub listing-turn : most_line * (k + 1) ≤ length before → (phase worker step : ℕ)
        → phase ≡ number_at list (4 * k) → worker ≡ worker_by trace phase → step ≡ number_at list (4 * k + 2)
        → (part : List ℕ) (n : ℕ)
        → let bytes = line (phase ∷ worker ∷ step ∷ []) in
        (n ≡ length bytes) × (part ≡ written bytes (part_of text at)) → Listing (k + 1) (with_part text at part) (at + n)
    unfolding line_of
    listing-turn room phase worker step p w s part n put =
        let same : line (phase ∷ worker ∷ step ∷ []) ≡ line_of trace list k = rw (w, p, s) refl in
        next room part n (text_is (part_of text at) part n same put)
