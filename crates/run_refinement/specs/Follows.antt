-- What is claimed of single events, for a run of w workers. From an accepted start on, whatever events follow, refused ones
-- included: each event's outcome is the rules' word on it, the state then shows the rules' run, and its idle answers are the rules'.
-- `outcomes` and `state_reached` are folds of `event_answer`, which is what the contract of `event` gives; `start_answer` and
-- `idle_answer` are what those of `start` and `idle` give.
use Rattle.std.specs.Prelude.{ℕ, ◌≡◌, List}
use Rattle.rules.specs.Tree.{kinds}
use Rattle.rules.specs.Scheduling.{Run, start, idle_set, idle_count, idle_lowest}
use Rattle.rules.specs.Calls.{after_events}
use Rattle.run_invariant.specs.Invariant.{Invariant}
use Rattle.run_state.specs.declared.RunState.{RunState}
use Rattle.run_state.specs.Contract.{fields, start_answer, idle_answer}
use Rattle.run_refinement.specs.Tie.{Shows, told_all, outcomes, state_reached}

module _ (w p : ℕ) (tree : List ℕ) (es : List (List ℕ)) where
  -- The rules' run of the events, and the state after their calls.
  unfoldable pub ruled : Run
  ruled = after_events p (kinds tree) (start w) es

  unfoldable pub reached : RunState
  reached = state_reached tree (start_answer w p tree).state es

  pub record Follows : Type 0 where
    pub invariant : Invariant p (kinds tree) ruled
    pub tells : outcomes tree (start_answer w p tree).state es ≡ told_all p (kinds tree) (start w) es
    pub shows : Shows p (kinds tree) (fields reached) ruled
    pub idle_as : (idle_answer reached).set ≡ idle_set ruled.workers
    pub idle_many : (idle_answer reached).count ≡ idle_count ruled.workers
    pub idle_from : (idle_answer reached).lowest ≡ idle_lowest 0 ruled.workers
