-- Between a step on the way and its opener no step is marked with the worker, since the task of such a step would end too early; so the
-- first opener that is marked is the highest marked step.
use Rattle.std.proofs.Common.{arith, rules}
use Rattle.run_spec.proofs.Laws.Marks.{newest_end, climb-below, climb-hit, climb-miss}
use Rattle.run_deques.proofs.climb.Goals as goal

pub returns-then-j-from : goal.returns-then-j-from
returns-then-j-from c =
    let a = c.args in
    let loop = c.loop-j in
    climb-below a.openers.now a.place.now a.worker a.low.0 a.end.0 c.requires.2 loop.j (omega arith) loop.invariant.within
    c.requires.1 loop.invariant.same c.wide-j.result c.wide-j.ensures c.if-j-from.true

pub returns-then-place-j : goal.returns-then-place-j
returns-then-place-j c =
    let a = c.args in
    let loop = c.loop-j in
    climb-hit a.openers.now a.place.now a.worker a.low.0 a.end.0 c.requires.2 loop.j (omega arith) loop.invariant.within
    c.requires.1 loop.invariant.same c.wide-j.result c.wide-j.ensures (omega arith) c.if-place-j.true

pub loop-j-preserved : goal.loop-j-preserved
loop-j-preserved c =
    let a = c.args in
    let loop = c.loop-j in
    record {
      within = search rules;
      same =
          climb-miss a.openers.now a.place.now a.worker a.low.0 a.end.0 c.requires.2 loop.j (omega arith) loop.invariant.within
          c.requires.1 loop.invariant.same c.wide-j.result c.wide-j.ensures (omega arith) c.if-place-j.false;
    }

pub returns : goal.returns
returns c =
    let a = c.args in
    newest_end a.place.now a.worker a.low.0 a.end.0 c.loop-j.j (omega arith) c.loop-j.invariant.same
