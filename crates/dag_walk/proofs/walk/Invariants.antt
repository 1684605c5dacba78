-- What is written and the walk from the step on are together the walk from the root.
use Rattle.std.proofs.Common.{◌-◌, length}
use Rattle.rules.specs.Tree.{kinds, weights}
use Rattle.dag_walk.specs.Terms.{Walking}
use Rattle.dag_walk.proofs.walk.Given as goal

abbrev pub invariant-loop-left : goal.invariant-loop-left
invariant-loop-left l = Walking (kinds l.tree) (weights l.tree) l.fn.chain l.chain l.step.0 l.left l.count

abbrev pub decreases-loop-left : goal.decreases-loop-left
decreases-loop-left l = length (kinds l.tree) - l.step.0
