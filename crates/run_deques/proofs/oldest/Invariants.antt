-- No step that the scan has passed is marked with the worker, so the lowest that is marked is still to come.
use Rattle.std.proofs.Common.{◌≡◌}
use Rattle.run_spec.specs.Deques.{oldest_mark}
use Rattle.run_deques.proofs.oldest.Given as goal

abbrev pub invariant-loop-j : goal.invariant-loop-j
invariant-loop-j l = oldest_mark l.place l.worker l.j l.end ≡ oldest_mark l.place l.worker l.fn.low.0 l.end
