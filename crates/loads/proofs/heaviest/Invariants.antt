-- Of the workers looked at, `best` is the first of the heaviest, since only a heavier one takes its place.
use Rattle.loads.proofs.Laws.Heaviest.{Leads}
use Rattle.loads.proofs.heaviest.Given as goal

abbrev pub invariant-loop-w : goal.invariant-loop-w
invariant-loop-w l = Leads l.loads l.best l.w
