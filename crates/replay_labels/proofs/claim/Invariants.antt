-- The climb has labelled the free steps that it has passed, and stands at an opener before them.
use Rattle.replay_spec.proofs.Laws.Claims.{Claiming}
use Rattle.replay_labels.proofs.claim.Given as goal

abbrev pub invariant-loop-labels : goal.invariant-loop-labels
invariant-loop-labels l = Claiming l.openers l.fn.labels l.from l.label l.labels l.j

abbrev pub decreases-loop-labels : goal.decreases-loop-labels
decreases-loop-labels l = l.j
