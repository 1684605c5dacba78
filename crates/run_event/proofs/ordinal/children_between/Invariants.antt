-- What has been counted and what the steps ahead will add are together the children of the stretch; so many children are open.
use Rattle.rules.specs.Tree.{kinds}
use Rattle.run_spec.proofs.Laws.Children.{Counted}
use Rattle.run_event.proofs.ordinal.children_between.Given as goal

abbrev pub invariant-loop-j : goal.invariant-loop-j
invariant-loop-j l = Counted (kinds l.tree) l.fn.from.0 l.fn.to.0 l.j l.depth l.children
