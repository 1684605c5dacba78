-- What is answered of what a call is given, before its records are walked or made: the policy, the worker count and the tree of each
-- call, the events of a record call and the trace of a replay call, the room of the lent outputs.
use Rattle.std.specs.Prelude.{ℕ, ◌-◌, ◌*◌, Bool, true, cond, not, ◌||◌, List, [], ◌∷◌, length, eqb, ltb}
use Rattle.rules.specs.Bytes.{whole_records, Verdict, refused_if, first_refused}
use Rattle.rules.specs.Tree.{kinds}
use Rattle.rules.specs.Calls.{most_events, most_trace_records, start_verdict}
use Rattle.rules_schedule.specs.Schedules.{most_made}
use Rattle.tree.specs.Contract.{Accepted}

-- The refusal and position of a policy, a worker count and a tree, or the tree's count of steps; what is not answered is 0.
unfoldable pub start_judged : ℕ → ℕ → List ℕ → Accepted
start_judged w p tree =
    record {
      number = (start_verdict w p tree).number;
      position = (start_verdict w p tree).position;
      steps = cond (eqb (start_verdict w p tree).number 0) (length (kinds tree)) 0;
    }

-- Refusals 1 to 7 and 16 of a call, by whether its records are whole and not too many, and whether a lent output is short.
unfoldable pub given_verdict : ℕ → ℕ → List ℕ → Bool → Bool → Verdict
given_verdict w p tree whole short = first_refused (start_verdict w p tree ∷ refused_if (not whole) 6 0 ∷ refused_if short 7 0 ∷ [])

-- The refusal and position, or the tree's count of steps; what is not answered is 0.
unfoldable pub given_judged : ℕ → ℕ → List ℕ → Bool → Bool → Accepted
given_judged w p tree whole short =
    let v = given_verdict w p tree whole short in
    record { number = v.number; position = v.position; steps = cond (eqb v.number 0) (length (kinds tree)) 0 }

-- "A lent output is short: 4 × n bytes for log or run list, 2 × (n - 1) for a trace", by the lengths of log and trace.
unfoldable pub too_short : ℕ → ℕ → ℕ → Bool
too_short n log trace = ltb log (4 * n) || ltb trace (2 * (n - 1))

-- What is answered of a record call whose lent log and trace have so many bytes,
unfoldable pub record_judged : ℕ → ℕ → List ℕ → List ℕ → ℕ → ℕ → Accepted
record_judged w p tree events log trace =
    given_judged w p tree (whole_records 2 most_events events) (too_short (length (kinds tree)) log trace)

-- and of a replay call whose lent run list has so many.
unfoldable pub replay_judged : ℕ → ℕ → List ℕ → List ℕ → ℕ → Accepted
replay_judged w p tree trace list = given_judged w p tree (whole_records 4 most_trace_records trace) (ltb list (4 * length (kinds tree)))

-- "The lent list needs 2 bytes for each of these", by its length.
unfoldable pub list_short : ℕ → ℕ → Bool
list_short n events = ltb events (2 * most_made n)

-- A schedule call has no records to judge: what is answered of one whose lent list has so many bytes.
unfoldable pub schedule_judged : ℕ → ℕ → List ℕ → ℕ → Accepted
schedule_judged w p tree events = given_judged w p tree true (list_short (length (kinds tree)) events)

-- A refusal that names no position.
abbrev pub refusal : ℕ → Accepted
refusal number = record { number = number; position = 0; steps = 0 }

-- Refusals 6 and 7 behind the answer on policy, count and tree.
unfoldable pub judged : Accepted → Bool → Bool → Accepted
judged start whole short = cond (eqb start.number 0) (cond whole (cond short (refusal 7) start) (refusal 6)) start
