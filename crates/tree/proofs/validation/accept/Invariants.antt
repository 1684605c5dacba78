-- At each record as many tasks are open as the rules' walk has there.
use Rattle.tree.specs.Laws.Acceptance.{Walking}
use Rattle.tree.proofs.validation.accept.Given as goal

abbrev pub invariant-loop-i : goal.invariant-loop-i
invariant-loop-i l = Walking l.tree l.i l.depth
