-- Document 01, "Refusals": what whole calls answer and write, from their arguments alone. `w` is the run's count of workers,
-- which is document 02's, #101, as are the class loads, #103; `p` is the policy's byte. "A refused call returns the number and the
-- position (0 where none is named), all other results 0, and changes no buffer."
use Rattle.std.specs.Prelude.{ℕ, ◌-◌, ◌*◌, Bool, false, cond, ◌&&◌, ◌||◌, not, List, [], ◌∷◌, ◌++◌, length, drop, replicate, eqb, ltb, leb}
use Rattle.rules.specs.Bytes.{records, whole_records, count, all, Verdict, accepted, refused_if, first_refused, Walked, walk}
use Rattle.rules.specs.Tree.{class_count, kinds, classes, weights, tree_verdict}
use Rattle.rules.specs.Scheduling.{work_first, help_first, most_workers, Phase, Run, start, has_run, judge_event, next_run}
use Rattle.rules.specs.Traces.{trace_bytes, entry_bytes, replay_walk, run_list, loads, heaviest, class_loads}

abbrev pub most_events : ℕ
most_events = 8192

abbrev pub most_trace_records : ℕ
most_trace_records = 2047

--     1  "The policy is neither 1 (work-first) nor 2 (help-first)."
unfoldable pub policy_verdict : ℕ → Verdict
policy_verdict p = refused_if (not (eqb p work_first || eqb p help_first)) 1 0

--    16  "A count outside 1 to 16, judged directly after 1."
unfoldable pub count_verdict : ℕ → Verdict
count_verdict w = refused_if (not (leb 1 w && leb w most_workers)) 16 0

--     2 to 5  by the tree.
unfoldable pub start_verdict : ℕ → ℕ → List ℕ → Verdict
start_verdict w p tree = first_refused (policy_verdict p ∷ count_verdict w ∷ tree_verdict tree ∷ [])

-- ---- single events

-- What a single event answers, with the state that it hands back.
pub record Evented : Type 0 where
  pub verdict : Verdict
  pub state : Run

-- "A refused single event hands back the state it got, with position 0."
unfoldable pub event_call : ℕ → List ℕ → Run → List ℕ → Evented
event_call p ks s e =
    let next = next_run p ks s e in
    cond (eqb (judge_event ks s e) 0) (record { verdict = accepted; state = next })
    (record { verdict = record { number = judge_event ks s e; position = 0 }; state = s })

-- The state after a list of events: the first gets a state, "each later one the state that the one before it handed back, refused
-- or not".
unfoldable pub after_events : ℕ → List ℕ → Run → List (List ℕ) → Run
after_events p ks s [] = s
after_events p ks s (e ∷ es) = after_events p ks (event_call p ks s e).state es

-- ---- lent buffers

-- A lent buffer with the records at its front and, beyond them, its old bytes.
unfoldable pub written : List ℕ → List ℕ → List ℕ
written bytes buffer = bytes ++ drop (length bytes) buffer

-- "A lent output is short: 4 × n bytes for log or run list, 2 × (n - 1) for a trace": of recording, log or trace,
abbrev pub short_outputs : List ℕ → List ℕ → List ℕ → Bool
short_outputs tree log trace = ltb (length log) (4 * length (kinds tree)) || ltb (length trace) (2 * (length (kinds tree) - 1))

-- and of replay the run list.
abbrev pub short_list : List ℕ → List ℕ → Bool
short_list tree list = ltb (length list) (4 * length (kinds tree))

-- ---- record

-- What a record call answers, with the lent log and trace as it leaves them.
pub record Recorded : Type 0 where
  pub verdict : Verdict
  pub log_count : ℕ
  pub trace_count : ℕ
  pub finished : Bool
  pub loads : List ℕ
  pub heaviest : ℕ
  pub class_loads : List ℕ
  pub log : List ℕ
  pub trace : List ℕ

-- The walk over the events' records.
unfoldable pub record_walk : ℕ → ℕ → List ℕ → List (List ℕ) → Walked Run
record_walk w p ks es = walk (judge_event ks) (next_run p ks) 0 (start w) es

--     6  "The events or the trace are not whole records or too many", here the events.
--     7  "A lent output is short", here log or trace.
--     8 to 12  by the events, in one walk.
unfoldable pub record_verdict : ℕ → ℕ → List ℕ → List ℕ → List ℕ → List ℕ → Verdict
record_verdict w p tree events log trace =
    first_refused
    (start_verdict w p tree
    ∷ refused_if (not (whole_records 2 most_events events)) 6 0
    ∷ refused_if (short_outputs tree log trace) 7 0
    ∷ (record_walk w p (kinds tree) (records 2 events)).verdict
    ∷ [])

-- "Whether every step has run."
unfoldable pub finished : List ℕ → Run → Bool
finished ks s = all (has_run s.log) (count 0 (length ks))

-- Sixteen loads, whatever the count: a worker that the run does not have has no phase, and its load is 0.
unfoldable pub record_of : ℕ → List ℕ → Run → List ℕ → List ℕ → Recorded
record_of p tree s log trace =
    let ks = kinds tree in
    let ls = loads most_workers ks (weights tree) s.phases in
    record {
      verdict = accepted;
      log_count = length s.log;
      trace_count = length s.steals;
      finished = finished ks s;
      loads = ls;
      heaviest = heaviest ls;
      class_loads = class_loads ks (classes tree) (weights tree) s.phases;
      log = written (entry_bytes s.log) log;
      trace = written (trace_bytes p ks s.steals) trace;
    }

unfoldable pub record_refused : Verdict → List ℕ → List ℕ → Recorded
record_refused refusal log trace =
    record {
      verdict = refusal;
      log_count = 0;
      trace_count = 0;
      finished = false;
      loads = replicate most_workers 0;
      heaviest = 0;
      class_loads = replicate class_count 0;
      log = log;
      trace = trace;
    }

unfoldable pub record_call : ℕ → ℕ → List ℕ → List ℕ → List ℕ → List ℕ → Recorded
record_call w p tree events log trace =
    let answer = record_of p tree (record_walk w p (kinds tree) (records 2 events)).state log trace in
    let refusal = record_verdict w p tree events log trace in
    cond (eqb refusal.number 0) answer (record_refused refusal log trace)

-- ---- replay

-- What a replay call answers, with the lent run list as it leaves it.
pub record Replayed : Type 0 where
  pub verdict : Verdict
  pub phase_count : ℕ
  pub loads : List ℕ
  pub heaviest : ℕ
  pub class_loads : List ℕ
  pub list : List ℕ

--     6  as for record, here the trace.
--     7  as for record, here the run list.
--     8, 13 to 15  by the trace, in one walk.
unfoldable pub replay_verdict : ℕ → ℕ → List ℕ → List ℕ → List ℕ → Verdict
replay_verdict w p tree trace list =
    first_refused
    (start_verdict w p tree
    ∷ refused_if (not (whole_records 4 most_trace_records trace)) 6 0
    ∷ refused_if (short_list tree list) 7 0
    ∷ (replay_walk w p (kinds tree) (records 4 trace)).verdict
    ∷ [])

unfoldable pub replay_of : ℕ → List ℕ → List Phase → List ℕ → Replayed
replay_of p tree phs list =
    let ks = kinds tree in
    let ls = loads most_workers ks (weights tree) phs in
    record {
      verdict = accepted;
      phase_count = length phs;
      loads = ls;
      heaviest = heaviest ls;
      class_loads = class_loads ks (classes tree) (weights tree) phs;
      list = written (entry_bytes (run_list p ks phs)) list;
    }

unfoldable pub replay_refused : Verdict → List ℕ → Replayed
replay_refused refusal list =
    let none : List ℕ = replicate class_count 0 in
    record { verdict = refusal; phase_count = 0; loads = replicate most_workers 0; heaviest = 0; class_loads = none; list = list }

unfoldable pub replay_call : ℕ → ℕ → List ℕ → List ℕ → List ℕ → Replayed
replay_call w p tree trace list =
    let answer = replay_of p tree (replay_walk w p (kinds tree) (records 4 trace)).state list in
    let refusal = replay_verdict w p tree trace list in
    cond (eqb refusal.number 0) answer (replay_refused refusal list)
