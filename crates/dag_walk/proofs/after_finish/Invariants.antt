-- The climb has passed the ends of tasks that are no finish children.
use Rattle.std.proofs.Common.{◌-◌, length}
use Rattle.rules.specs.Tree.{kinds}
use Rattle.dag_chain.specs.Terms.{Climbing}
use Rattle.dag_walk.proofs.after_finish.Given as goal

abbrev pub invariant-loop-next : goal.invariant-loop-next
invariant-loop-next l = Climbing (kinds l.tree) l.from l.next

abbrev pub decreases-loop-next : goal.decreases-loop-next
decreases-loop-next l = length (kinds l.tree) - l.next
