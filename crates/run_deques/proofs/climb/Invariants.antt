-- The walk stands at a step up to the end, and the highest marked step before it is the highest before the end.
use Rattle.std.proofs.Common.{ℕ, ◌≤◌, ◌≡◌, List}
use Rattle.run_spec.specs.Deques.{newest_mark}
use Rattle.run_deques.proofs.climb.Given as goal

pub record Climbing (place : List ℕ) (worker low end j : ℕ) : Type 0 where
  pub within : j ≤ end
  pub same : newest_mark place worker low j ≡ newest_mark place worker low end

abbrev pub invariant-loop-j : goal.invariant-loop-j
invariant-loop-j l = Climbing l.place l.worker l.fn.low.0 l.fn.end.0 l.j

abbrev pub decreases-loop-j : goal.decreases-loop-j
decreases-loop-j l = l.j
