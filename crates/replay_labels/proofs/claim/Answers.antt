-- Each opener stands before its step and step 0 is labelled, so the climb ends; it has labelled the free steps on its way and no others.
use Rattle.std.proofs.Common.{arith}
use Rattle.replay_spec.proofs.Laws.Claims.{claim_start, claim-less, claim-turn, claim-end}
use Rattle.replay_labels.proofs.claim.Goals as goal

pub loop-labels-init : goal.loop-labels-init
loop-labels-init c = claim_start c.requires.step c.wide-j.result c.wide-j.ensures

pub loop-labels-smaller : goal.loop-labels-smaller
loop-labels-smaller c =
    omega (arith, claim-less c.requires.step c.loop-labels.invariant c.requires.phase.1 c.loop-labels-test.true)

pub loop-labels-preserved : goal.loop-labels-preserved
loop-labels-preserved c =
    let opener = c.wide-j-in-loop-labels in
    claim-turn c.requires.step c.loop-labels.invariant c.requires.phase.1 c.loop-labels-test.true opener.result opener.ensures

pub returns : goal.returns
returns c = rw c.wide.ensures (claim-end c.requires.step c.loop-labels.invariant c.loop-labels-test.false)
