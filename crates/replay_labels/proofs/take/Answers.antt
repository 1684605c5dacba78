-- A labelled step can be stolen no more, and a free one is in the phase of the first labelled step above it, which the climb finds.
use Rattle.std.proofs.Common.{arith}
use Rattle.replay_spec.proofs.Laws.Claims.{free_past, take-labelled, take_claimed}
use Rattle.replay_labels.proofs.take.Goals as goal

pub returns-then-labels-at : goal.returns-then-labels-at
returns-then-labels-at c = take-labelled (omega arith) c.if-labels-at.true _

pub claim-found-requires-clause-step : goal.claim-found-requires-clause-step
claim-found-requires-clause-step c =
    let pre = c.requires.step in
    (free_past _ _ c.requires.phase.1 (omega arith) c.if-labels-at.false, pre.0, pre.1, pre.2)

pub returns : goal.returns
returns c = rw c.eq.ensures (take_claimed (omega arith) c.if-labels-at.false _ _ c.claim-found.ensures)
