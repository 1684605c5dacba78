-- Going back, the ends on the way whose openings are still to come are counted, and the children that the task opened there.
use Rattle.rules.specs.Tree.{kinds}
use Rattle.tree_scan.specs.Laws.Scans.{Backward}
use Rattle.tree_scan.proofs.task_of.Given as goal

abbrev pub invariant-loop-j : goal.invariant-loop-j
invariant-loop-j l = Backward (kinds l.tree) l.fn.step.0 l.j l.ended l.children
