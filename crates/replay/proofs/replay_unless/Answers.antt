-- The call is judged in the order of the rules' refusals, first what it is given, then the trace record by record, then whether the
-- caller is full, and the list is left as it was unless nothing is refused.
use Rattle.std.specs.Prelude.{Err, refl}
use Rattle.std.proofs.lemmas.Result.{err_from_is_err_and}
use Rattle.replay.specs.Terms.{replay_unless}
use Rattle.replay.specs.Laws.Cases.{replay-ready}
use Rattle.replay.specs.Laws.Results.{Meets, given-refusal, walk-refused, walk-answered}
use Rattle.replay.proofs.replay_unless.Goals as goal
use Rattle.replay.proofs.replay_unless.Goals.{In_err-steps, In_err-ended}

-- ---- the call is refused for what it is given

given : (c : In_err-steps)
    → let a = c.args in
    let call = replay_unless a.full a.setup.workers a.setup.policy a.tree.now a.trace.now a.list.now in
    Meets call (Err c.in_err-steps.field-0.0) a.list.now
given c =
    let a = c.args in
    given-refusal a.full _ _ a.tree.now a.trace.now a.list.now c.in_err-steps.field-0.0 c.in_err-steps.ensures

pub returns-in_err-steps-clause-answers : goal.returns-in_err-steps-clause-answers
returns-in_err-steps-clause-answers c =
    let p = err_from_is_err_and c.from_residual.result c.from_residual.ensures.1 in
    rw (p.1, p.2) (given (goal.at.returns-in_err-steps-clause-answers c).In_err-steps).0

pub returns-in_err-steps-clause-list : goal.returns-in_err-steps-clause-list
returns-in_err-steps-clause-list c = (given (goal.at.returns-in_err-steps-clause-list c).In_err-steps).1

-- ---- the walk over the trace's records

pub run-requires-clause-admitted : goal.run-requires-clause-admitted
run-requires-clause-admitted c =
    let a = c.args in
    replay-ready _ _ a.tree.now a.trace.now a.list.now _ c.in_ok-steps.ensures refl

walked : (c : In_err-ended)
    → let a = c.args in
    let call = replay_unless a.full a.setup.workers a.setup.policy a.tree.now a.trace.now a.list.now in
    Meets call (Err c.in_err-ended.field-0.0) c.run.new.list
walked c =
    let a = c.args in
    walk-refused a.full _ _ a.tree.now a.trace.now a.list.now c.in_ok-steps.ensures c.in_err-ended.field-0.0 c.in_err-ended.ensures

pub returns-in_err-ended-clause-answers : goal.returns-in_err-ended-clause-answers
returns-in_err-ended-clause-answers c =
    let p = err_from_is_err_and c.from_residual-in_err-ended.result c.from_residual-in_err-ended.ensures.1 in
    rw (p.1, p.2) (walked (goal.at.returns-in_err-ended-clause-answers c).In_err-ended).0

pub returns-in_err-ended-clause-list : goal.returns-in_err-ended-clause-list
returns-in_err-ended-clause-list c = (walked (goal.at.returns-in_err-ended-clause-list c).In_err-ended).1

-- ---- nothing is refused

pub returns-clause-answers : goal.returns-clause-answers
returns-clause-answers c =
    let a = c.args in
    (walk-answered a.full _ _ a.tree.now a.trace.now a.list.now c.in_ok-steps.ensures c.in_ok-ended.ensures
    c.totals_of-heaviest.result c.totals_of-heaviest.ensures).0

pub returns-clause-list : goal.returns-clause-list
returns-clause-list c =
    let a = c.args in
    (walk-answered a.full _ _ a.tree.now a.trace.now a.list.now c.in_ok-steps.ensures c.in_ok-ended.ensures
    c.totals_of-heaviest.result c.totals_of-heaviest.ensures).1
