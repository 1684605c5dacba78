-- A number as it is read from bytes, and what storing a record leaves in an array.
use Rattle.std.specs.Prelude.{ℕ, ◌+◌, ◌*◌, ◌/◌, ◌%◌, List, get_or, set}

-- The number of the two bytes at a place.
unfoldable pub number_at : List ℕ → ℕ → ℕ
number_at bytes at = get_or bytes at 0 + 256 * get_or bytes (at + 1) 0

-- Record k of a log, a trace or a run list: two bytes and a number of two bytes.
unfoldable pub record_put : List ℕ → ℕ → ℕ → ℕ → ℕ → List ℕ
record_put bytes k first second number =
    set (set (set (set bytes (4 * k) first) (4 * k + 1) second) (4 * k + 2) (number % 256)) (4 * k + 3) (number / 256 % 256)

-- Event k of a list: two bytes.
unfoldable pub event_put : List ℕ → ℕ → ℕ → ℕ → List ℕ
event_put bytes k first second = set (set bytes (2 * k) first) (2 * k + 1) second
