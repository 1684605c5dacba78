-- The answers about a tree as C's flat structs of numbers.
use Rattle.std.specs.Prelude.{Some, None}
use Rattle.tree.specs.Steps.{MaybeStep}
use Rattle.std.specs.Prelude.{ℕ}
use Rattle.tree.specs.Contract.{Accepted}
use Rattle.tree_scan.specs.declared.Task.{Task}
use Rattle.policy.specs.declared.Running.{Running}
use Rattle.policy.specs.declared.Running.TheVariants.{Opens, Ends}
use Rattle.frame_tree.specs.declared.FrameTree.{FrameTree}
use Rattle.frame_tree.specs.declared.FrameTask.{FrameTask}
use Rattle.frame_tree.specs.declared.FrameRunning.{FrameRunning}

-- A refusal and its position, or the count of steps.
abbrev pub flat_tree : Accepted → FrameTree
flat_tree a = record { number = a.number; position = a.position; steps = a.steps }

-- A task by its first step, and an ordinal.
abbrev pub flat_task : Task → FrameTask
flat_task t = record { first = t.first.0; ordinal = t.ordinal.0 }

-- A child's first step is never 0, so 0 says that there is none.
abbrev pub flat_child : MaybeStep → ℕ
flat_child (Some first) = first.0
flat_child None = 0

-- What is held and pushed, with a 1 before; an end is all 0.
abbrev pub flat_running : Running → FrameRunning
flat_running (Opens hold push) = record { opens = 1; hold = hold.0; push = push.0 }
flat_running Ends = record { opens = 0; hold = 0; push = 0 }
