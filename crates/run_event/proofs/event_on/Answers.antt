-- On equal bytes an event is by definition a run by that worker, on different ones a steal by the first from the second.
use Rattle.run_spec.specs.Moves.{Fields, fields_of}
use Rattle.run_spec.proofs.Laws.Moves.{event_run, event_steal}
use Rattle.run_event.proofs.event_on.Goals as goal
use Rattle.run_event.proofs.event_on.Goals.{Start}

-- The fields that are lent.
abbrev lent : Start → Fields
lent c =
    let a = c.args in
    fields_of a.place.now a.held.now a.phase.now a.low.now a.base.now a.steals.now a.setup

pub returns-then-event : goal.returns-then-event
returns-then-event c =
    let a = c.args in
    let runs = event_run (lent (goal.at.returns-then-event c).Start) a.tree.now a.event.first a.event.second c.if-event.true in
    rw (← runs) (c.run_on.ensures a.base.now a.steals.now)

pub returns : goal.returns
returns c =
    let a = c.args in
    let steals = event_steal (lent (goal.at.returns c).Start) a.tree.now a.event.first a.event.second c.if-event.false in
    rw (← steals) c.steal_on.ensures
