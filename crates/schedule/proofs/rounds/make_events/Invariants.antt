-- After each round the arrays show a list in the making from which the rounds that are left lead to the list made. A round runs a step,
-- so what has not run falls.
use Rattle.std.proofs.Common.{◌≡◌, ◌-◌, length}
use Rattle.schedule_turn.specs.Terms.{arrays_of}
use Rattle.schedule.specs.Terms.{Underway}
use Rattle.schedule.proofs.rounds.make_events.Given as goal

abbrev pub invariant-loop-turned : goal.invariant-loop-turned
invariant-loop-turned l =
    (length l.events ≡ length l.fn.events)
    × Underway l.setup l.tree l.fn.events l.seed
    (arrays_of l.place l.held l.phase l.low l.base l.sizes l.awaited l.events l.setup l.turned)

abbrev pub decreases-loop-turned : goal.decreases-loop-turned
decreases-loop-turned l = l.n - l.turned.runs
