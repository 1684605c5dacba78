-- `rest` walks back from step to earlier step. A task's rest begins at its end, so `task` counts one more there.
use Rattle.std.proofs.Common.{◌+◌, ◌*◌}
use Rattle.rules.specs.Tree.{kinds}
use Rattle.dag_lasting.specs.Terms.{Tabled}
use Rattle.dag_lasting.specs.Laws.Filling.{Passed}
use Rattle.dag_lasting.proofs.+rest_task.Given as goal

abbrev pub decreases-rest : goal.decreases-rest
decreases-rest l = 2 * l.from.0

abbrev pub decreases-task : goal.decreases-task
decreases-task l = 2 * l.end.0 + 1

abbrev pub invariant-rest-loop-at : goal.invariant-rest-loop-at
invariant-rest-loop-at l = record {
  passed : Passed l.tree l.fn.lasting l.lasting l.fn.from.0 l.at;
  tabled : Tabled (kinds l.tree) l.fn.ends l.fn.openers l.ends l.openers l.at;
}

abbrev pub decreases-rest-loop-at : goal.decreases-rest-loop-at
decreases-rest-loop-at l = l.at
