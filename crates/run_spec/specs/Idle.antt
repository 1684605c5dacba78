-- The idle workers, by what a state has for the steps that its workers hold: the set as bits, how many, the lowest.
use Rattle.std.specs.Prelude.{ℕ, zero, suc, ◌+◌, ◌*◌, Bool, cond, List, get_or, leb}
use Rattle.rules.specs.Tree.{most_steps}
use Rattle.rules.specs.Scheduling.{most_workers}

-- A worker is idle where what it has for a held step is none of any tree.
unfoldable pub is_idle : ℕ → Bool
is_idle held = leb most_steps held

-- The idle ones of the m workers from worker i on as a set of bits, worker i's the lowest,
unfoldable pub idle_bits : List ℕ → ℕ → ℕ → ℕ
idle_bits held i zero = 0
idle_bits held i (suc m) = cond (is_idle (get_or held i 0)) 1 0 + 2 * idle_bits held (suc i) m

-- how many they are,
unfoldable pub idle_number : List ℕ → ℕ → ℕ → ℕ
idle_number held i zero = 0
idle_number held i (suc m) = cond (is_idle (get_or held i 0)) 1 0 + idle_number held (suc i) m

-- and the lowest of them, 16 where none is idle.
unfoldable pub idle_first : List ℕ → ℕ → ℕ → ℕ
idle_first held i zero = most_workers
idle_first held i (suc m) = cond (is_idle (get_or held i 0)) i (idle_first held (suc i) m)
