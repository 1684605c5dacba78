-- What is still to be added leads to the counts that all loads lead to.
use Rattle.rules.specs.Tree.{weights}
use Rattle.histogram_phases.proofs.Laws.Passes.{Adding}
use Rattle.histogram_phases.proofs.add_phases.Given as goal

abbrev pub invariant-loop-i : goal.invariant-loop-i
invariant-loop-i l = Adding (weights l.tree) l.list l.n l.fn.counts l.i l.phase l.load l.counts
