-- Document 01, "Contracts and proofs", demand 3: whatever the scheduler does, the live run and the replay of its trace have the
-- same phases. One statement about the whole list of events, over the calls that it compares: single events from a first state,
-- recording and replay. `entries` are the library's, by the functions that the contracts of the four entries give their results by:
-- `start_answer` (start), `event_answer` (a single event), `record_call` (record) and `replay_call` (replay). Each argument of the start
-- is the same in all of them. Nothing is assumed but an accepted start and, where document 01 says so, outputs that are not short.
use Rattle.std.specs.Prelude.{ℕ, suc, ◌-◌, ◌*◌, ◌/◌, ◌≤◌, ◌<◌, ◌≡◌, true, false, cond, length, take, drop, get_or, eqb}
use mathlib.Core.List.{List, [], ◌∷◌, ◌++◌, map, flatten}
use Rattle.std.proofs.Math.Option.{Option, none, some}
use Rattle.rules.specs.Bytes.{little_endian, cut, sum}
use Rattle.rules.specs.Tree.{kinds}
use Rattle.rules.specs.Scheduling.{Entry, Steal}
use Rattle.rules.specs.Calls.{short_outputs, short_list, Recorded, record_call, Replayed, replay_call}
use Rattle.run_invariant.specs.Invariant.{log_of, self}
use Rattle.run_state.specs.declared.RunState.{RunState}
use Rattle.run_spec.specs.declared.Event.{Event}
use Rattle.run_spec.specs.Outcomes.{Outcome, Ran, Stole, Refused}
use Rattle.run_state.specs.Contract.{start_answer, event_answer}

-- ---- the live run, by the calls of single events

-- The list of events as bytes.
unfoldable pub event_bytes : List Event → List ℕ
event_bytes es = flatten (map (λ e. e.first ∷ e.second ∷ []) es)

-- What an event's call tells, on states of any kind: the number of its refusal, 0 for none; the step taken, where it is a steal; and
-- the state that it hands back.
pub record Called (S : Type 0) : Type 0 where
  pub number : ℕ
  pub took : Option ℕ
  pub state : S

-- A steal by an event, where a step was taken: the thief, the victim, and that step.
unfoldable pub steal_by : Event → Option ℕ → List Steal
steal_by e none = []
steal_by e (some step) = record { thief = e.first; victim = e.second; step = step } ∷ []

module _ {S : Type 0} (call : S → Event → Called S) where
  -- "The first gets the state that the start, itself accepted, returned, each later one the state that the one before it handed
  -- back, refused or not."
  unfoldable pub state_after : S → List Event → S
  state_after s [] = s
  state_after s (e ∷ es) = state_after (call s e).state es

  -- "The accepted events, in their order, are the live run."
  unfoldable pub live_run : S → List Event → List Event
  live_run s [] = []
  live_run s (e ∷ es) =
      let rest = live_run (call s e).state es in
      cond (eqb (call s e).number 0) (e ∷ rest) rest

  -- Its steals, in order.
  unfoldable pub live_steals : S → List Event → List Steal
  live_steals s [] = []
  live_steals s (e ∷ es) = steal_by e (call s e).took ++ live_steals (call s e).state es

-- "Live, phase 0 is worker 0's, from step 0; a later phase k is the thief's in the k-th accepted steal, from the step taken."
unfoldable pub live_workers : List Steal → List ℕ
live_workers steals = 0 ∷ map (λ s. s.thief) steals

unfoldable pub live_firsts : List Steal → List ℕ
live_firsts steals = 0 ∷ map (λ s. s.step) steals

-- How many of some events are runs: both bytes are equal.
unfoldable pub runs_in : List Event → ℕ
runs_in es = sum (λ e. cond (eqb e.first e.second) 1 0) es

-- ---- logs, traces and run lists, as bytes

-- The first m records of a log or a run list.
unfoldable pub entries_of : ℕ → List ℕ → List Entry
entries_of m bytes = map (λ r. record { phase = little_endian (take 2 r); step = little_endian (drop 2 r) }) (cut 4 m bytes)

-- "Replayed, phase 0 is worker 0's, a later phase k the thief's of the trace record at position k - 1."
unfoldable pub replayed_workers : ℕ → List ℕ → List ℕ
replayed_workers m trace = 0 ∷ map (λ r. get_or r 0 0) (cut 4 m trace)

-- "A leading part of a list is its first entries, none to all, in the same order."
abbrev pub Leads : List ℕ → List ℕ → Type 0
Leads part whole = (rest : List ℕ) × (part ++ rest ≡ whole)

-- ---- the calls that are compared

-- Single events, as calls on a state from a first state on; recording, of events with a log and a trace lent; replay, of a trace with
-- a run list lent.
pub record Compared (S : Type 0) : Type 0 where
  pub call : S → Event → Called S
  pub first : S
  pub recording : List ℕ → List ℕ → List ℕ → Recorded
  pub replaying : List ℕ → List ℕ → Replayed

-- The number of an outcome's refusal, 0 for none.
unfoldable pub refusal_of : Outcome → ℕ
refusal_of (Ran phase step) = 0
refusal_of (Stole number) = 0
refusal_of (Refused number) = number

-- The step taken, where the outcome is a steal: the thief holds it in the state that the call hands back.
unfoldable pub took_of : Outcome → ℕ → Option ℕ
took_of (Ran phase step) held = none
took_of (Stole number) held = some held
took_of (Refused number) held = none

unfoldable pub entry_call : List ℕ → RunState → Event → Called RunState
entry_call tree s e =
    let answer = event_answer s tree e.first e.second in
    record {
      number = refusal_of answer.outcome;
      took = took_of answer.outcome (get_or answer.state.held e.first 0);
      state = answer.state;
    }

-- The entries, for a worker count, a policy and a tree.
unfoldable pub entries : ℕ → ℕ → List ℕ → Compared RunState
entries w p tree =
    record {
      call = entry_call tree;
      first = (start_answer w p tree).state;
      recording = record_call w p tree;
      replaying = replay_call w p tree;
    }

-- ---- the statement

module _ {S : Type 0} (calls : Compared S) (tree : List ℕ) (es : List Event) where
  -- The live run of some events after the start, and its steals.
  unfoldable pub live : List Event
  live = live_run calls.call calls.first es

  unfoldable pub steals : List Steal
  steals = live_steals calls.call calls.first es

  module _ (log trace : List ℕ) where
    -- Recording it, with these buffers lent; the trace and the log's records that this leaves.
    unfoldable pub recorded : Recorded
    recorded = calls.recording (event_bytes live) log trace

    unfoldable pub traced : List ℕ
    traced = take (4 * recorded.trace_count) recorded.trace

    unfoldable pub logged : List Entry
    logged = entries_of recorded.log_count recorded.log

    module _ (list : List ℕ) where
      -- Replaying that trace, and the run list's records.
      unfoldable pub replayed : Replayed
      replayed = calls.replaying traced list

      unfoldable pub listed : List Entry
      listed = entries_of (length (kinds tree)) replayed.list

      -- Both accepted, with no lent output short: the counts, and the same phases.
      pub record Same : Type 0 where
        pub log_count : recorded.log_count ≡ runs_in live
        pub trace_count : recorded.trace_count ≡ length steals
        pub few_steals : length steals ≤ (length (kinds tree) - 1) / 2
        -- As many phases live and replayed,
        pub phase_count : replayed.phase_count ≡ suc (length steals)
        -- with the same worker,
        pub workers : replayed_workers recorded.trace_count traced ≡ live_workers steals
        -- and the same first step: "each starts with the step of its first run-list record".
        pub firsts : (k : ℕ) → k < replayed.phase_count → Leads (get_or (live_firsts steals) k 0 ∷ []) (log_of k listed)
        -- What phase k ran live is a leading part of what it runs replayed;
        pub leads : (k : ℕ) → Leads (log_of k logged) (log_of k listed)
        -- all of it, in every phase, exactly when the run has finished: when accepted run events have run all n steps.
        pub finished : recorded.finished ≡ eqb (runs_in live) (length (kinds tree))
        pub whole : recorded.finished ≡ true → (k : ℕ) → log_of k logged ≡ log_of k listed
        pub only : ((k : ℕ) → log_of k logged ≡ log_of k listed) → recorded.finished ≡ true
        -- The run list has every step of the tree exactly once.
        pub once : (j : ℕ) → j < length (kinds tree) → sum (λ e. self j e.step) listed ≡ 1

pub record Agreement {S : Type 0} (calls : Compared S) (tree : List ℕ) (es : List Event) : Type 0 where
  -- "An event's call refuses it exactly when recording, its outputs not short, refuses the accepted events before it followed
  -- by this one; the number is the same."
  pub number : (before after : List Event) (e : Event) → es ≡ before ++ (e ∷ after)
      → (log trace : List ℕ) → short_outputs tree log trace ≡ false
      → (calls.call (state_after calls.call calls.first before) e).number
      ≡ (calls.recording (event_bytes (live calls tree before ++ (e ∷ []))) log trace).verdict.number
  -- "Recording the live run and replaying its trace give 7 where a lent output is short and are accepted otherwise."
  pub recording : (log trace : List ℕ) → (recorded calls tree es log trace).verdict.number ≡ cond (short_outputs tree log trace) 7 0
  pub replaying : (log trace list : List ℕ) → short_outputs tree log trace ≡ false
      → (replayed calls tree es log trace list).verdict.number ≡ cond (short_list tree list) 7 0
  pub same : (log trace list : List ℕ) → short_outputs tree log trace ≡ false → short_list tree list ≡ false
      → Same calls tree es log trace list
