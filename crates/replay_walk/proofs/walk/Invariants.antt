-- After the records so far, none of them refused, the tables show the rules' phases.
use Rattle.replay_walk.specs.Laws.Retracing.{Retracing}
use Rattle.replay_walk.proofs.walk.Given as goal

abbrev pub invariant-loop-at : goal.invariant-loop-at
invariant-loop-at l =
    Retracing l.setup.workers l.setup.policy l.tree l.trace l.at l.labels l.firsts l.bases l.ordinals l.latest l.loads
