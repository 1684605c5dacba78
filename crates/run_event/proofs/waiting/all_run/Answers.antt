-- A step that has not run is counted, and all have run where the count ends at 0.
use Rattle.std.proofs.Common.{arith}
use Rattle.run_spec.proofs.Laws.Waiting.{counted-unrun, counted-run, counted-done}
use Rattle.run_event.proofs.waiting.all_run.Goals as goal
use Rattle.run_event.proofs.waiting.all_run.Goals.{then-place-k-eq-NOT_RUN, else-place-k-eq-NOT_RUN}

pub loop-k-preserved : goal.loop-k-preserved
loop-k-preserved c =
    let a = c.args in
    let loop = c.loop-k in
    elim c.if-place-k-eq-NOT_RUN.branch [
      | then-place-k-eq-NOT_RUN w ↦
          rw w.unrun-is
          (counted-unrun a.place.now a.first.0 a.end.0 loop.k loop.unrun (omega arith) loop.invariant w.if-place-k-eq-NOT_RUN.true)
      | else-place-k-eq-NOT_RUN w ↦
          rw w.unrun-is
          (counted-run a.place.now a.first.0 a.end.0 loop.k loop.unrun (omega arith) loop.invariant w.if-place-k-eq-NOT_RUN.false)
    ]

pub returns : goal.returns
returns c =
    let a = c.args in
    counted-done a.place.now a.first.0 a.end.0 c.loop-k.k c.loop-k.unrun (omega arith) c.loop-k.invariant
