-- The rules judge what the call is given before its events, as the code does, and the answer is on the first that is refused, or on
-- the run.
use Rattle.std.proofs.Common.{refl}
use Rattle.std.proofs.lemmas.Result.{err_from_is_err_and}
use Rattle.record.specs.Laws.Cases.{record-ready, ready_admitted}
use Rattle.record.specs.Laws.Results.{given-refusal, event-refusal, all-answered}
use Rattle.record.proofs.record.Goals as goal

pub returns-in_err-steps : goal.returns-in_err-steps
returns-in_err-steps c =
    let a = c.args in
    let p = err_from_is_err_and c.from_residual.result c.from_residual.ensures.1 in
    let so = given-refusal _ _ a.tree.now a.events.now a.log.now a.trace.now _ c.in_err-steps.ensures in
    record { answers = rw (p.1, p.2) so.0; log = so.1.0; trace = so.1.1 }

pub run-requires : goal.run-requires
run-requires c =
    let a = c.args in
    let ready = record-ready _ _ a.tree.now a.events.now a.log.now a.trace.now _ c.in_ok-steps.ensures refl in
    record { admitted = ready_admitted a.events.now ready; zeroed = refl }

pub returns-in_err-walked : goal.returns-in_err-walked
returns-in_err-walked c =
    let a = c.args in
    let p = err_from_is_err_and c.from_residual-in_err-walked.result c.from_residual-in_err-walked.ensures.1 in
    let so = event-refusal _ _ a.tree.now a.events.now a.log.now a.trace.now _ c.in_ok-steps.ensures _ _ _ _ c.in_err-walked.ensures in
    record { answers = rw (p.1, p.2) so.0; log = so.1.0; trace = so.1.1 }

pub returns : goal.returns
returns c =
    let a = c.args in
    let so = all-answered _ _ a.tree.now a.events.now a.log.now a.trace.now _ c.in_ok-steps.ensures _ _ _ _ c.in_ok-walked.ensures
    _ c.totals_of.ensures in
    record { answers = so.0; log = so.1.0; trace = so.1.1 }
