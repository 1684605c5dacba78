-- It lends the arrays of its state to `run_event::steal_on`, so the state then has the fields that the steal leaves.
use Rattle.run_state.specs.Laws.Cases.{steal-answers}
use Rattle.run_state.proofs.RunState.steal.Goals as goal

pub returns : goal.returns
returns c =
    let a = c.args in
    steal-answers a.self a.tree.now a.thief a.victim _ (rw c.setup-setup.ensures at c.steal_on-outcome.ensures)
