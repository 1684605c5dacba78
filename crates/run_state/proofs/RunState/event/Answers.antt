-- An event of equal bytes is that worker's run, one of different bytes the first's steal from the second.
use Rattle.std.proofs.Common.{◌∙◌}
use Rattle.run_state.specs.Laws.Cases.{equal_runs, different_steals}
use Rattle.run_state.proofs.RunState.event.Goals as goal

pub returns-then-first-second : goal.returns-then-first-second
returns-then-first-second c =
    let a = c.args in
    c.run.ensures ∙ equal_runs a.self a.tree.now a.first a.second c.if-first-second.true

pub returns : goal.returns
returns c =
    let a = c.args in
    c.steal.ensures ∙ different_steals a.self a.tree.now a.first a.second c.if-first-second.false
