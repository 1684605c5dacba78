use Rattle.std.proofs.Common.{refl, ◌∙◌, arith}
use Rattle.replay_spec.proofs.Laws.Lists.{Turn, listing_start, listing_done, phase_writable, count_fits, phase-listed}
use Rattle.replay_list.proofs.write_list.Goals as goal
use Rattle.replay_list.proofs.write_list.Goals.{After-wide}

-- The phase's first step has been read.
turn : (c : After-wide)
    → let a = c.args in
    let l = c.loop-k in
    Turn a.policy a.tree.now a.labels.now a.firsts.now a.phases a.list.now l.list l.stack l.k l.at c.wide.result
turn c = record { so = c.loop-k.invariant; more = c.loop-k-test.true; begins = c.wide.ensures }

pub loop-k-init : goal.loop-k-init
loop-k-init c = listing_start c.requires.accepted.0 c.requires.listable refl

pub write_phase-count-requires-clause-writable : goal.write_phase-count-requires-clause-writable
write_phase-count-requires-clause-writable c = phase_writable (turn (goal.at.write_phase-count-requires-clause-writable c).After-wide)

-- Its records fit too.
pub overflow_mul-at : goal.overflow_mul-at
overflow_mul-at c = omega (arith, count_fits (turn (goal.at.overflow_mul-at c).After-wide) c.write_phase-count.ensures.counts)

pub overflow_add-at : goal.overflow_add-at
overflow_add-at c = omega (arith, count_fits (turn (goal.at.overflow_add-at c).After-wide) c.write_phase-count.ensures.counts)

pub loop-k-preserved : goal.loop-k-preserved
loop-k-preserved c =
    let wrote = c.write_phase-count.ensures in
    phase-listed (turn (goal.at.loop-k-preserved c).After-wide) wrote.counts wrote.list
    (c.write_phase-count.auto.stack ∙ c.loop-k.invariant.room)

pub returns : goal.returns
returns c = listing_done c.loop-k.invariant (λ l. omega (arith, c.loop-k-test.false))
