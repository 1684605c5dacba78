-- Worker w is bit w of the set, so its ones are as many as the idle workers and its trailing zeros are the number of the lowest, 16
-- where there is none.
use Rattle.run_state.specs.Laws.Cases.{idle_answers}
use Rattle.run_state.proofs.RunState.idle.Goals as goal

pub returns : goal.returns
returns c = idle_answers c.args.self c.idle_set-set.result c.idle_set-set.ensures
