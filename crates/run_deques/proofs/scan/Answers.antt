-- The first step that has the mark is the highest; where the walk ends, there is none.
use Rattle.std.proofs.Common.{arith}
use Rattle.run_spec.proofs.Laws.Marks.{newest_hit, newest_miss, newest_end}
use Rattle.run_deques.proofs.scan.Goals as goal

pub returns-then-place-j : goal.returns-then-place-j
returns-then-place-j c =
    let a = c.args in
    newest_hit a.place.now a.mark a.low.0 a.end.0 c.loop-j.j (omega arith) c.loop-j.invariant c.if-place-j.true

pub loop-j-preserved : goal.loop-j-preserved
loop-j-preserved c =
    let a = c.args in
    newest_miss a.place.now a.mark a.low.0 a.end.0 c.loop-j.j (omega arith) c.loop-j.invariant c.if-place-j.false

pub returns : goal.returns
returns c =
    let a = c.args in
    newest_end a.place.now a.mark a.low.0 a.end.0 c.loop-j.j (omega arith) c.loop-j.invariant
