-- The schedule maker, #102 of document 02: for every worker count, policy, tree, seed and lent list with which a call is accepted.
use Rattle.std.specs.Prelude.{ℕ, ◌≡◌, List}
use Rattle.rules_schedule.specs.Schedules.{schedule_call}
use Rattle.schedule_invariant.specs.Schedule.{Schedule}
use Rattle.schedule_invariant.proofs.Laws.Lists.{list_made}

pub every_list_made : (w p : ℕ) (tree : List ℕ) (seed : ℕ) (lent : List ℕ) → (schedule_call w p tree seed lent).verdict.number ≡ 0
    → Schedule w p tree seed lent
every_list_made = list_made
