-- The walk over children finds the step of an ordinal, which must be above that of the base; a serial number is asked whether its
-- step can have been pushed.
use Rattle.std.proofs.Common.{ap, not, arith}
use Rattle.rules.specs.Tree.{kinds}
use Rattle.replay_spec.proofs.Laws.Naming.{name_own, name_hopped, name_past, name-other, name-itself}
use Rattle.replay_steal.proofs.number.step_named.Goals as goal

pub returns-then-to-from : goal.returns-then-to-from
returns-then-to-from c =
    let a = c.args in
    rw c.in-ByOrdinal.is (name_own (kinds a.tree.now) a.base.0 a.ordinal.0 c.in-ByOrdinal.wanted (omega arith))

pub returns-else-to-from : goal.returns-else-to-from
returns-else-to-from c =
    let a = c.args in
    rw c.in-ByOrdinal.is
    (name_hopped (kinds a.tree.now) a.base.0 a.ordinal.0 c.in-ByOrdinal.wanted (omega arith) c.hop.result c.hop.ensures)

pub returns-then-steps-s : goal.returns-then-steps-s
returns-then-steps-s c =
    let a = c.args in
    rw c.in-BySerial.is
    (name_past (kinds a.tree.now) a.base.0 a.ordinal.0 c.in-BySerial.step (omega (arith, c.steps.ensures)))

pub returns-then-not-async_or_after_finish : goal.returns-then-not-async_or_after_finish
returns-then-not-async_or_after_finish c =
    let a = c.args in
    let asked = c.async_or_after_finish in
    rw c.in-BySerial.is
    (name-other (kinds a.tree.now) a.base.0 a.ordinal.0 c.in-BySerial.step asked.result asked.ensures
    (ap not c.if-not-async_or_after_finish.true))

pub returns-else-not-async_or_after_finish : goal.returns-else-not-async_or_after_finish
returns-else-not-async_or_after_finish c =
    let a = c.args in
    let asked = c.async_or_after_finish in
    rw c.in-BySerial.is
    (name-itself (kinds a.tree.now) a.base.0 a.ordinal.0 c.in-BySerial.step asked.result asked.ensures
    (omega (arith, c.steps.ensures)) (ap not c.if-not-async_or_after_finish.false))
