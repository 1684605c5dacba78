-- It lends the arrays of its state to `run_event::run_on`, so the state then has the fields that the run leaves; of the empty tables
-- that it lends nothing is asked.
use Rattle.run_spec.proofs.Laws.Moves.{no_hints}
use Rattle.run_state.specs.Laws.Cases.{run_answers}
use Rattle.run_state.proofs.RunState.run.Goals as goal

pub run_on-outcome-requires : goal.run_on-outcome-requires
run_on-outcome-requires c =
    let s = c.args.self in
    no_hints c.args.tree.now s.place s.held s.low

pub returns : goal.returns
returns c =
    let a = c.args in
    let s = a.self in
    run_answers s a.tree.now a.worker _ (rw c.setup-setup.ensures at (c.run_on-outcome.ensures s.base s.steals))
