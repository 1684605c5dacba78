-- No step that the walk has passed has the mark, so the highest step with it is still to come.
use Rattle.std.proofs.Common.{◌≡◌}
use Rattle.run_spec.specs.Deques.{newest_mark}
use Rattle.run_deques.proofs.scan.Given as goal

abbrev pub invariant-loop-j : goal.invariant-loop-j
invariant-loop-j l = newest_mark l.place l.mark l.fn.low.0 l.j ≡ newest_mark l.place l.mark l.fn.low.0 l.fn.end.0
