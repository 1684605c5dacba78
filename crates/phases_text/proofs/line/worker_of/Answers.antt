-- Phase 0 is worker 0's, and a later phase is that of the thief whose byte the trace record before it begins with.
use Rattle.std.proofs.Common.{refl, arith}
use Rattle.phases_text.specs.Line.Terms.{worker_by}
use Rattle.phases_text.specs.Line.Laws.Lines.{worker-later}
use Rattle.phases_text.proofs.line.worker_of.Goals as goal

pub returns-then-k-eq0 : goal.returns-then-k-eq0
unfolding worker_by
returns-then-k-eq0 c = rw c.if-k-eq0.true refl

pub returns : goal.returns
returns c = worker-later c.args.trace.now c.args.phase.0 (omega arith)
