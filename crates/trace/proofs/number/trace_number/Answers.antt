-- A trace names a stolen step by its ordinal under work-first, and by its serial number under every other policy.
use Rattle.trace.specs.Laws.Numbers.{number-ordinal, number_serial}
use Rattle.trace.proofs.number.trace_number.Goals as goal

pub returns-then-policy-eq-WORK_FIRST : goal.returns-then-policy-eq-WORK_FIRST
returns-then-policy-eq-WORK_FIRST c = number-ordinal c.args.policy c.args.ordinal c.args.step.0 c.if-policy-eq-WORK_FIRST.true

pub returns : goal.returns
returns c = number_serial c.args.policy c.args.ordinal.0 c.args.step c.if-policy-eq-WORK_FIRST.false
