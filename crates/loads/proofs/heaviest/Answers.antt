use Rattle.std.proofs.Common.{arith}
use Rattle.loads.proofs.Laws.Heaviest.{leads_done}
use Rattle.loads.proofs.heaviest.Goals as goal

pub returns : goal.returns
returns c =
    let loop = c.loop-w in
    leads_done c.args.loads.now loop.best loop.w loop.invariant (omega arith) c.requires
