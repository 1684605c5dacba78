-- The walk goes down from the end, and what is found before the step where it stands is what is found in all.
use Rattle.std.proofs.Common.{◌≡◌, ◌≤◌}
use Rattle.run_spec.specs.Deques.{unrun_mark, newest_mark}
use Rattle.run_event.proofs.waiting.last_unrun.Given as goal

abbrev pub invariant-loop-j : goal.invariant-loop-j
invariant-loop-j l =
    (l.j ≤ l.fn.end.0) × (newest_mark l.place unrun_mark l.fn.first.0 l.j ≡ newest_mark l.place unrun_mark l.fn.first.0 l.fn.end.0)

abbrev pub decreases-loop-j : goal.decreases-loop-j
decreases-loop-j l = l.j
