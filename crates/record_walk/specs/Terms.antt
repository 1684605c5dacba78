-- What the walk over the events comes to, of a run of w workers.
use Rattle.std.specs.Prelude.{ℕ, ◌≡◌, List, length, take, Result, IfOk}
use Rattle.rules.specs.Bytes.{records}
use Rattle.rules.specs.Tree.{kinds, weights}
use Rattle.rules.specs.Scheduling.{most_workers, Run}
use Rattle.rules.specs.Traces.{trace_bytes, entry_bytes, loads}
use Rattle.rules.specs.Calls.{record_walk}
use Rattle.refusals.specs.declared.Refused.{Refused}
use Rattle.refusals.specs.Numbers.{verdict_in}
use Rattle.run_invariant.specs.Invariant.{Invariant}
use Rattle.loads.specs.Terms.{Whole}
use Rattle.record_walk.specs.declared.Ended.{Ended}

-- The bytes stand at the front of an array.
abbrev pub Front : List ℕ → List ℕ → Type 0
Front bytes buffer = take (length bytes) buffer ≡ bytes

-- The walk has come to the run s, of which log and trace stand at the front of the walk's arrays.
pub record Reached (p : ℕ) (tree : List ℕ) (s : Run) (r : Ended) (log trace : List ℕ) : Type 0 where
  pub invariant : Invariant p (kinds tree) s
  pub logs : r.logs ≡ length s.log
  pub steals : r.steals ≡ length s.steals
  pub loaded : r.loads ≡ loads most_workers (kinds tree) (weights tree) s.phases
  pub whole : Whole (kinds tree) s.phases
  pub logged : Front (entry_bytes s.log) log
  pub traced : Front (trace_bytes p (kinds tree) s.steals) trace

-- The rules' verdict and, where no event is refused, the rules' run.
pub record Walks (w p : ℕ) (tree events : List ℕ) (r : Result Ended Refused) (log trace : List ℕ) : Type 0 where
  pub verdict : verdict_in r ≡ (record_walk w p (kinds tree) (records 2 events)).verdict
  pub reached : IfOk r (λ ended. Reached p tree (record_walk w p (kinds tree) (records 2 events)).state ended log trace)
