-- Each turn adds one worker's, and at the end all have had theirs.
use Rattle.std.proofs.Common.{◌≡◌, arith}
use Rattle.schedule.specs.Laws.Rounding.{round-begins, round_goes_on}
use Rattle.schedule.proofs.rounds.round.Goals as goal

pub loop-worker-init : goal.loop-worker-init
loop-worker-init c = round-begins

pub loop-worker-preserved : goal.loop-worker-preserved
loop-worker-preserved c = round_goes_on c.loop-worker.invariant c.turn-turned.ensures

pub returns : goal.returns
returns c =
    let all : c.loop-worker.worker ≡ c.args.setup.workers = omega arith in
    rw all at c.loop-worker.invariant
