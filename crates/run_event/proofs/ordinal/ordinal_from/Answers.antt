-- Under work-first each child that the task opens raises the ordinal by one, the pusher's own among them; under help-first none is counted.
use Rattle.run_spec.proofs.Laws.Ordinals.{ordinal-counted, ordinal_uncounted}
use Rattle.run_event.proofs.ordinal.ordinal_from.Goals as goal

pub returns-then-policy-eq-WORK_FIRST-clause-ordinal : goal.returns-then-policy-eq-WORK_FIRST-clause-ordinal
returns-then-policy-eq-WORK_FIRST-clause-ordinal c =
    ordinal-counted _ _ _ _ _ c.if-policy-eq-WORK_FIRST.true _ c.children_between.ensures.value

pub returns-clause-ordinal : goal.returns-clause-ordinal
returns-clause-ordinal c = ordinal_uncounted _ _ _ _ _ c.if-policy-eq-WORK_FIRST.false
