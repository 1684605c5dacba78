-- Replay is told whether there is room, and promises the rules' answer and list; where it refuses, the histogram is the one given; else
-- the list is the run list, and `add_phases` promises the counts with the load of each of its phases.
use Rattle.std.specs.Prelude.{Ok, Err, ◌+◌, refl}
use Rattle.std.proofs.Common.{arith}
use Rattle.std.proofs.lemmas.Result.{err_from_is_err_and}
use Rattle.refusals.specs.Laws.Numbers.{number-some}
use Rattle.histogram.specs.Laws.Results.{Meets, refused-meets, listed, room, added-meets}
use Rattle.histogram.proofs.Histogram.add_in_place.Goals as goal
use Rattle.histogram.proofs.Histogram.add_in_place.Goals.{In_err-replayed, After-add_phases}

-- ---- a refusal

refused : (c : In_err-replayed)
    → let a = c.args in
    let e = c.in_err-replayed.field-0.0 in
    Meets a.setup.workers a.setup.policy a.tree.now a.trace.now a.list.now a.self.now (Err e) a.self.now c.replay_unless.new.list
refused c =
    let a = c.args in
    let e = c.in_err-replayed.field-0.0 in
    let told = c.in_err-replayed.ensures in
    refused-meets _ _ a.tree.now a.trace.now a.list.now a.self.now (Err e) c.replay_unless.new.list told.answers told.list
    (λ z. omega (arith, number-some e.refusal))

pub returns-in_err-replayed-clause-answers : goal.returns-in_err-replayed-clause-answers
returns-in_err-replayed-clause-answers c =
    let p = err_from_is_err_and c.from_residual.result c.from_residual.ensures.1 in
    rw (p.1, p.2) (refused (goal.at.returns-in_err-replayed-clause-answers c).In_err-replayed).0

pub returns-in_err-replayed-clause-histogram : goal.returns-in_err-replayed-clause-histogram
returns-in_err-replayed-clause-histogram c = (refused (goal.at.returns-in_err-replayed-clause-histogram c).In_err-replayed).1

pub returns-in_err-replayed-clause-list : goal.returns-in_err-replayed-clause-list
returns-in_err-replayed-clause-list c = (refused (goal.at.returns-in_err-replayed-clause-list c).In_err-replayed).2

-- ---- a trace is added

pub add_phases-requires : goal.add_phases-requires
add_phases-requires c =
    let a = c.args in
    let told = c.in_ok-replayed.ensures in
    rw c.steps.ensures
    (listed _ _ a.tree.now a.trace.now a.list.now a.self.now (Ok c.in_ok-replayed.replayed) _ told.answers told.list refl)

pub overflow_add-self : goal.overflow_add-self
overflow_add-self c =
    let a = c.args in
    let told = c.in_ok-replayed.ensures in
    let some = room _ _ a.tree.now a.trace.now a.list.now a.self.now (Ok c.in_ok-replayed.replayed) _ told.answers told.list refl in
    record { fits = omega (arith, some) }

added : (c : After-add_phases)
    → let a = c.args in
    Meets a.setup.workers a.setup.policy a.tree.now a.trace.now a.list.now a.self.now (Ok c.in_ok-replayed.replayed)
    (record { traces = a.self.now.traces + 1; counts = c.add_phases.new.counts }) c.replay_unless.new.list
added c =
    let a = c.args in
    let told = c.in_ok-replayed.ensures in
    added-meets _ _ a.tree.now a.trace.now a.list.now a.self.now (Ok c.in_ok-replayed.replayed) _ told.answers told.list refl
    c.add_phases.new.counts (rw (← c.steps.ensures) c.add_phases.ensures)

pub returns-clause-answers : goal.returns-clause-answers
returns-clause-answers c = (added (goal.at.returns-clause-answers c).After-add_phases).0

pub returns-clause-histogram : goal.returns-clause-histogram
returns-clause-histogram c = (added (goal.at.returns-clause-histogram c).After-add_phases).1

pub returns-clause-list : goal.returns-clause-list
returns-clause-list c = (added (goal.at.returns-clause-list c).After-add_phases).2
