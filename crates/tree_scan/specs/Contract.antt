-- What the functions on steps and tasks answer, in the rules' words.
use Rattle.std.specs.Prelude.{ℕ, List}
use Rattle.rules.specs.Tree.{task, ordinal}
use Rattle.tree_scan.specs.declared.Task.{Task}

-- The task of a step and the step's ordinal in it.
unfoldable pub task_of : List ℕ → ℕ → Task
task_of ks i = record { first = record { 0 = task ks i }; ordinal = record { 0 = ordinal ks i } }
