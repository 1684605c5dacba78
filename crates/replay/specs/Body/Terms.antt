-- What an admitted replay comes to, by the rules.
use Rattle.std.specs.Prelude.{ℕ, ◌*◌, ◌≤◌, ◌≡◌, Bool, true, List, length, Result}
use Rattle.std.specs.Result.{IfOk, OnErr}
use Rattle.rules.specs.Bytes.{whole_records}
use Rattle.rules.specs.Tree.{kinds, classes, weights}
use Rattle.rules.specs.Scheduling.{most_workers}
use Rattle.rules.specs.Traces.{entry_bytes, run_list, loads, class_loads}
use Rattle.rules.specs.Calls.{most_trace_records, written, start_verdict}
use Rattle.refusals.specs.declared.Refused.{Refused}
use Rattle.refusals.specs.Numbers.{verdict_in}
use Rattle.replay_walk.specs.declared.Ended.{Ended}
use Rattle.replay_walk.specs.Terms.{ruled}
use Rattle.replay.specs.Terms.{unless_full}

-- The call is not refused for policy, worker count and tree, the trace's length and the room in the lent list; n is the count of steps.
pub record Admitted (w p : ℕ) (tree trace : List ℕ) (n : ℕ) (list : List ℕ) : Type 0 where
  pub started : (start_verdict w p tree).number ≡ 0
  pub traced : whole_records 4 most_trace_records trace ≡ true
  pub steps : n ≡ length (kinds tree)
  pub fits : 4 * length (kinds tree) ≤ length list

-- Nothing is refused: the phases are answered, their run list stands at the front of the lent list, and the classes are charged with
-- their loads.
pub record Listed (w p : ℕ) (tree trace list : List ℕ) (ended : Ended) (after charges : List ℕ) : Type 0 where
  pub phases : ended.phases ≡ length (ruled w p tree trace).state
  pub loaded : ended.loads ≡ loads most_workers (kinds tree) (weights tree) (ruled w p tree trace).state
  pub listed : after ≡ written (entry_bytes (run_list p (kinds tree) (ruled w p tree trace).state)) list
  pub classed : charges ≡ class_loads (kinds tree) (classes tree) (weights tree) (ruled w p tree trace).state

-- The verdict on the trace's records, then 17 where the caller is full; a refusal leaves the lent list as it was.
pub record Outcome (full : Bool) (w p : ℕ) (tree trace list : List ℕ) (r : Result Ended Refused) (after charges : List ℕ) : Type 0 where
  pub verdict : verdict_in r ≡ unless_full full (ruled w p tree trace).verdict
  pub same : OnErr r (after ≡ list)
  pub listed : IfOk r (λ ended. Listed w p tree trace list ended after charges)
