-- The scan waits for the ends of the tasks that are open in the child, of which there is one at least.
use Rattle.std.proofs.Common.{◌<◌}
use Rattle.rules.specs.Tree.{kinds}
use Rattle.tree_scan.specs.Laws.Scans.{Forward}
use Rattle.tree_scan.proofs.children.cont.Given as goal

abbrev pub invariant-loop-j : goal.invariant-loop-j
invariant-loop-j l = record { some : 0 < l.left; forward : Forward (kinds l.tree) l.i l.j l.left }
