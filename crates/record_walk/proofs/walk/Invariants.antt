-- After each event that is not refused the arrays show the rules' run so far, and the log, the trace and the loads are that run's.
use Rattle.run_spec.specs.Moves.{fields_of}
use Rattle.record_walk.specs.Laws.Recording.{Recording}
use Rattle.record_walk.proofs.walk.Given as goal

abbrev pub invariant-loop-at : goal.invariant-loop-at
invariant-loop-at l =
    let state = fields_of l.place l.held l.latest l.low l.base l.steals l.setup in
    Recording l.setup.workers l.setup.policy l.tree l.events l.at state l.log l.trace l.loads l.logs l.steals
