-- `newest` finds the deque's highest pusher, which stands before the step and so in the array; its mark is taken away, the step is marked
-- as run, and nothing else changes.
use Rattle.std.proofs.Common.{refl, arith}
use Rattle.tree.specs.Laws.Highest.{highest-is}
use Rattle.tree.specs.Laws.Steps.{found_at, found_nothing}
use Rattle.run_spec.specs.Deques.{marked}
use Rattle.run_spec.proofs.Laws.Marks.{popped-at, popped-nothing}
use Rattle.run_deques.proofs.pop.Goals as goal

pub bounds-place-p : goal.bounds-place-p
bounds-place-p c =
    let a = c.args in
    let q = c.in-Some.q in
    omega (arith, (highest-is (marked a.place.now a.worker) a.low.0 a.step.0 q.0 (found_at _ _ c.in-Some.ensures q refl)).before)

pub returns-in-Some-clause-marks : goal.returns-in-Some-clause-marks
returns-in-Some-clause-marks c =
    let a = c.args in
    popped-at a.place.now a.worker a.low.0 a.step.0 c.in-Some.q.0 (found_at _ _ c.in-Some.ensures c.in-Some.q refl)

pub returns-in-None-clause-marks : goal.returns-in-None-clause-marks
returns-in-None-clause-marks c =
    let a = c.args in
    popped-nothing a.place.now a.worker a.low.0 a.step.0 (found_nothing _ _ c.in-None.ensures refl)
