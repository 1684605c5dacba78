-- What holds of a list in the making after any turns: the terms in which the maker's functions and laws speak of it. `w` is the run's
-- count of workers, `p` the policy and `ks` the tree's kinds.
use Rattle.std.specs.Prelude.{ℕ, ◌+◌, ◌≡◌, true, List, length, eqb}
use Rattle.rules.specs.Bytes.{all, accepted}
use Rattle.rules.specs.Calls.{record_walk}
use Rattle.rules_schedule.specs.Schedules.{Making}
use Rattle.run_invariant.specs.Invariant.{Invariant}

pub record Going (w p : ℕ) (ks : List ℕ) (m : Making) : Type 0 where
  -- Its run is one that events lead to.
  pub invariant : Invariant p ks m.run
  -- Recording accepts the events so far, and they lead to its run.
  pub walked : record_walk w p ks m.events ≡ record { verdict = accepted; state = m.run }
  -- Each event has run a step or stolen one.
  pub counted : length m.events ≡ length m.run.log + length m.run.steals
  -- Each has two bytes.
  pub pairs : all (λ e. eqb (length e) 2) m.events ≡ true
  -- The run keeps its count.
  pub workers : length m.run.workers ≡ w
