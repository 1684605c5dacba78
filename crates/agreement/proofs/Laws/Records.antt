-- Records as bytes, read back.
use Rattle.std.specs.Prelude.{ℕ, suc, ◌*◌, ◌<◌, ◌≡◌, refl, length, take, drop, get_or}
use Rattle.std.proofs.Common.{ap, arith}
use mathlib.Core.List.{List, [], ◌∷◌, ◌++◌, map, flatten}
use Rattle.std.proofs.Math.Seq.{take-append_seam}
use Rattle.rules.specs.Bytes.{two_bytes, cut}
use Rattle.rules.specs.Scheduling.{Entry, Steal}
use Rattle.rules.specs.Traces.{trace_bytes, entry_bytes}
use Rattle.rules.specs.Calls.{written}
use Rattle.tree.specs.Laws.Records.{number_back}
use Rattle.buffers.specs.Laws.Records.{length_trace}
use Rattle.agreement.specs.Agreement.{entries_of, replayed_workers, live_workers}

-- Phases and steps that fit two bytes each.
abbrev pub Small : List Entry → Type 0
Small entries = (i : ℕ) → i < length entries
    → ((get_or entries i (record { phase = 0; step = 0 })).phase < 65536)
    × ((get_or entries i (record { phase = 0; step = 0 })).step < 65536)

-- Whatever stands behind the records.
entries_front : (entries : List Entry) → Small entries → (rest : List ℕ)
    → entries_of (length entries) (entry_bytes entries ++ rest) ≡ entries
unfolding entries_of entry_bytes cut two_bytes flatten
entries_front [] small rest = refl
entries_front (e ∷ entries) small rest =
    let here = small 0 (omega arith) in
    let phase = number_back e.phase here.0 in
    let step = number_back e.step here.1 in
    let later = entries_front entries (λ i l. small (suc i) (omega arith)) rest in
    rw (phase, step, later) refl

-- What was written to a buffer is read back.
pub entries_back : (entries : List Entry) → Small entries → (buffer : List ℕ)
    → entries_of (length entries) (written (entry_bytes entries) buffer) ≡ entries
unfolding written
entries_back entries small buffer = entries_front entries small (drop (length (entry_bytes entries)) buffer)

pub trace_back : (p : ℕ) (ks : List ℕ) (steals : List Steal) (buffer : List ℕ)
    → take (4 * length steals) (written (trace_bytes p ks steals) buffer) ≡ trace_bytes p ks steals
unfolding written
trace_back p ks steals buffer =
    rw (← length_trace p ks steals)
    (take-append_seam (trace_bytes p ks steals) (drop (length (trace_bytes p ks steals)) buffer))

workers_front : (p : ℕ) (ks : List ℕ) (steals : List Steal) (rest : List ℕ)
    → map (λ r. get_or r 0 0) (cut 4 (length steals) (trace_bytes p ks steals ++ rest)) ≡ map (λ s. s.thief) steals
unfolding cut trace_bytes two_bytes flatten
workers_front p ks [] rest = refl
workers_front p ks (s ∷ steals) rest = ap (λ (l : List ℕ). s.thief ∷ l) (workers_front p ks steals rest)

pub workers_back : (p : ℕ) (ks : List ℕ) (steals : List Steal) (buffer : List ℕ)
    → replayed_workers (length steals) (written (trace_bytes p ks steals) buffer) ≡ live_workers steals
unfolding written replayed_workers live_workers
workers_back p ks steals buffer =
    ap (λ (l : List ℕ). 0 ∷ l) (workers_front p ks steals (drop (length (trace_bytes p ks steals)) buffer))
