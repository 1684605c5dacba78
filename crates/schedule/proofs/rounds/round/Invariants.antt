-- Whatever list the arrays showed at first, they show it after the turns of the workers so far.
use Rattle.schedule_turn.specs.Terms.{arrays_of}
use Rattle.schedule.specs.Terms.{FirstTurns}
use Rattle.schedule.proofs.rounds.round.Given as goal

abbrev pub invariant-loop-worker : goal.invariant-loop-worker
invariant-loop-worker l =
    let first = l.initial in
    FirstTurns l.setup l.tree l.worker
    (arrays_of first.place first.held first.phase first.low first.base first.sizes first.awaited first.events l.setup first.turned)
    (arrays_of l.place l.held l.phase l.low l.base l.sizes l.awaited l.events l.setup l.turned)
