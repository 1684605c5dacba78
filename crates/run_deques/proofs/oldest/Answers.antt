-- The first step that is marked is the lowest; where the scan ends, there is none.
use Rattle.std.proofs.Common.{arith}
use Rattle.run_spec.proofs.Laws.Marks.{oldest_hit, oldest_miss, oldest_end}
use Rattle.run_deques.proofs.oldest.Goals as goal

pub returns-then-place-j : goal.returns-then-place-j
returns-then-place-j c =
    let a = c.args in
    oldest_hit a.place.now a.worker a.low.0 a.end c.loop-j.j (omega arith) c.loop-j.invariant c.if-place-j.true

pub loop-j-preserved : goal.loop-j-preserved
loop-j-preserved c =
    let a = c.args in
    oldest_miss a.place.now a.worker a.low.0 a.end c.loop-j.j (omega arith) c.loop-j.invariant c.if-place-j.false

pub returns : goal.returns
returns c =
    let a = c.args in
    oldest_end a.place.now a.worker a.low.0 a.end c.loop-j.j (omega arith) c.loop-j.invariant
