-- A block that has all run is passed, and in another the highest step that has not run is the one that is looked for.
use Rattle.std.proofs.Common.{sym, ◌∙◌, arith}
use Rattle.run_spec.proofs.Laws.Marks.{newest_end}
use Rattle.run_spec.proofs.Laws.Waiting.{block_run, block_unrun}
use Rattle.run_event.proofs.waiting.last_unrun.Goals as goal

pub returns-then-not-all_run : goal.returns-then-not-all_run
returns-then-not-all_run c =
    let low = c.block_before-low.ensures in
    let unrun = sym c.all_run.ensures ∙ c.if-not-all_run.true in
    let found = block_unrun c.args.place.now _ _ _ low.0 (omega (arith, low.1)) unrun in
    rw (← c.loop-j.invariant.1, ← found) c.scan.ensures

pub loop-j-preserved : goal.loop-j-preserved
loop-j-preserved c =
    let low = c.block_before-low.ensures in
    let run = sym c.all_run.ensures ∙ c.if-not-all_run.false in
    let passed = block_run c.args.place.now _ _ _ low.0 (omega (arith, low.1)) run in
    (omega (arith, c.loop-j.invariant.0, low.1), passed ∙ c.loop-j.invariant.1)

pub returns : goal.returns
returns c = newest_end _ _ _ _ c.loop-j.j (omega arith) c.loop-j.invariant.1
