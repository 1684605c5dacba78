-- What an admitted recording comes to, by the rules, of a run of w workers.
use Rattle.std.specs.Prelude.{ℕ, ◌-◌, ◌*◌, ◌≤◌, ◌≡◌, List, length, ◌==◌, Result, IfOk, OnErr}
use Rattle.rules.specs.Bytes.{records}
use Rattle.rules.specs.Tree.{kinds, classes, weights}
use Rattle.rules.specs.Scheduling.{most_workers, Run}
use Rattle.rules.specs.Traces.{trace_bytes, entry_bytes, loads, class_loads}
use Rattle.rules.specs.Calls.{written, start_verdict, record_walk, finished}
use Rattle.refusals.specs.declared.Refused.{Refused}
use Rattle.refusals.specs.Numbers.{verdict_in}
use Rattle.record_walk.specs.declared.Ended.{Ended}

-- The call is not refused for policy, count and tree, and log and trace have room.
pub record Admitted (w p : ℕ) (tree log trace : List ℕ) : Type 0 where
  pub started : (start_verdict w p tree).number ≡ 0
  pub log_fits : 4 * length (kinds tree) ≤ length log
  pub trace_fits : 2 * (length (kinds tree) - 1) ≤ length trace

-- A run is answered, every step has run exactly when as many have as the tree has, the run's log and trace stand at the front of the
-- lent ones, and the classes are charged with their loads.
pub record Told (p : ℕ) (tree : List ℕ) (s : Run) (log trace : List ℕ) (r : Ended) (log-after trace-after charges : List ℕ) : Type 0 where
  pub logs : r.logs ≡ length s.log
  pub steals : r.steals ≡ length s.steals
  pub finished : (r.logs == length (kinds tree)) ≡ finished (kinds tree) s
  pub loaded : r.loads ≡ loads most_workers (kinds tree) (weights tree) s.phases
  pub logged : log-after ≡ written (entry_bytes s.log) log
  pub traced : trace-after ≡ written (trace_bytes p (kinds tree) s.steals) trace
  pub classed : charges ≡ class_loads (kinds tree) (classes tree) (weights tree) s.phases

-- The verdict on the events; then either log and trace are as they were, or the run of the events is answered.
pub record Answered (w p : ℕ) (tree events log trace : List ℕ) (r : Result Ended Refused) (log-after trace-after charges : List ℕ)
    : Type 0 where
  pub verdict : verdict_in r ≡ (record_walk w p (kinds tree) (records 2 events)).verdict
  pub same : OnErr r ((log-after ≡ log) × (trace-after ≡ trace))
  pub told : IfOk r (λ ended.
      Told p tree (record_walk w p (kinds tree) (records 2 events)).state log trace ended log-after trace-after charges)
