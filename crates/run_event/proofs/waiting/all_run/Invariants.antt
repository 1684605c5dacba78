-- The count is 0 while every step that it has passed has run, and is no more than those steps.
use Rattle.run_spec.proofs.Laws.Waiting.{Counted}
use Rattle.run_event.proofs.waiting.all_run.Given as goal

abbrev pub invariant-loop-k : goal.invariant-loop-k
invariant-loop-k l = Counted l.place l.fn.first.0 l.fn.end.0 l.k l.unrun
