-- `oldest` finds the deque's lowest pusher, which stands before `end` and so in the array; its mark is taken away and nothing else
-- changes.
use Rattle.std.proofs.Common.{refl, arith}
use Rattle.tree.specs.Laws.Steps.{found_at, found_nothing}
use Rattle.run_spec.proofs.Laws.Marks.{oldest_before, robbed-at, robbed-nothing}
use Rattle.run_deques.proofs.take.Goals as goal

pub bounds-place-p : goal.bounds-place-p
bounds-place-p c =
    let a = c.args in
    omega (arith, oldest_before a.place.now a.victim a.low.0 a.end c.in-Some.q.0 (found_at _ _ c.in-Some.ensures c.in-Some.q refl))

pub returns-in-Some-clause-marks : goal.returns-in-Some-clause-marks
returns-in-Some-clause-marks c =
    let a = c.args in
    robbed-at a.place.now a.victim a.low.0 a.end c.in-Some.q.0 (found_at _ _ c.in-Some.ensures c.in-Some.q refl)

pub returns-in-None-clause-marks : goal.returns-in-None-clause-marks
returns-in-None-clause-marks c =
    let a = c.args in
    robbed-nothing a.place.now a.victim a.low.0 a.end (found_nothing _ _ c.in-None.ensures refl)
