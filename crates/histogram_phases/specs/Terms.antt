-- The loads of the phases of a run list, as one pass over its bytes finds them.
use Rattle.std.specs.Prelude.{ℕ, ◌+◌, ◌*◌, true, false, List, [], ◌∷◌, map, ◌==◌, slice_index}
use Rattle.rules.specs.Bytes.{count}
use Rattle.rules.specs.Scheduling.{Entry}
use Rattle.buffers.specs.Terms.{number_at}

-- Record k of a run list.
unfoldable pub entry_read : List ℕ → ℕ → Entry
entry_read list k = record { phase = number_at list (4 * k); step = number_at list (4 * k + 2) }

-- Its first n records.
unfoldable pub entries_read : List ℕ → ℕ → List Entry
entries_read list n = map (entry_read list) (count 0 n)

-- The loads from a phase on, of which `load` has been added up: a record of another phase ends it, and so does the end.
unfoldable pub loads_from : List ℕ → ℕ → ℕ → List Entry → List ℕ
loads_from ws phase load [] = load ∷ []
loads_from ws phase load (e ∷ es) =
    elim (e.phase == phase) [
      | true ↦ loads_from ws phase (load + slice_index ws e.step) es
      | false ↦ load ∷ loads_from ws e.phase (slice_index ws e.step) es
    ]

-- The loads of all phases, where the records of each stand together and those of phase 0 come first.
unfoldable pub phase_loads : List ℕ → List Entry → List ℕ
phase_loads ws es = loads_from ws 0 0 es
