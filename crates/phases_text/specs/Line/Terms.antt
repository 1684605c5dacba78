-- The lines of a run list, by the bytes of a trace and of the list.
use Rattle.std.specs.Prelude.{ℕ, zero, suc, ◌+◌, ◌*◌, ◌≤◌, ◌<◌, length, get_or}
use mathlib.Core.List.{List, [], ◌∷◌, map, flatten}
use Rattle.rules.specs.Bytes.{count}
use Rattle.rules.specs.Program.{line}
use Rattle.buffers.specs.Terms.{number_at}

-- The worker of a phase: worker 0 of phase 0, of a later one the thief of the trace record that began it.
unfoldable pub worker_by : List ℕ → ℕ → ℕ
worker_by trace zero = 0
worker_by trace (suc k) = get_or trace (4 * k) 0

-- The line of record k of a run list.
unfoldable pub line_of : List ℕ → List ℕ → ℕ → List ℕ
line_of trace list k =
    let phase = number_at list (4 * k) in
    line (phase ∷ worker_by trace phase ∷ number_at list (4 * k + 2) ∷ [])

-- The lines of the first m records.
unfoldable pub lines_of : List ℕ → List ℕ → ℕ → List ℕ
lines_of trace list m = flatten (map (line_of trace list) (count 0 m))

-- The phases of these records are phase 0 and those that the trace's records begin.
abbrev pub Phased : List ℕ → List ℕ → ℕ → Type 0
Phased trace list m = (k : ℕ) → k < m → 4 * number_at list (4 * k) ≤ length trace
