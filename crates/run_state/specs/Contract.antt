-- What each call answers, and every field of the state that it hands back: functions of the state, the tree's bytes and the event
-- alone, for any of them. What an event does to the fields of a state is said in `Moves` of `run_spec`.
use Rattle.std.specs.Prelude.{ℕ, cond, List, replicate, eqb, Result, Ok, Err}
use Rattle.rules.specs.Tree.{most_steps}
use Rattle.rules.specs.Scheduling.{most_workers}
use Rattle.rules.specs.Calls.{start_verdict}
use Rattle.refusals.specs.declared.Refused.{Refused}
use Rattle.refusals.specs.Numbers.{number_of}
use Rattle.policy.specs.Contract.{worker_limit}
use Rattle.run_spec.specs.Outcomes.{Outcome, outcome_of}
use Rattle.run_spec.specs.Moves.{Fields, Move, fresh, run_move, steal_move, event_move}
use Rattle.run_spec.specs.Idle.{idle_bits, idle_number, idle_first}
use Rattle.run_state.specs.declared.RunState.{RunState}
use Rattle.run_state.specs.declared.Answer.{Answer}
use Rattle.run_state.specs.declared.Idle.{Idle}

-- The fields of a state,
abbrev pub fields : RunState → Fields
fields s =
    record {
      place = s.place;
      held = s.held;
      phase = s.phase;
      low = s.low;
      base = s.base;
      steals = s.steals;
      setup = record { policy = s.policy; workers = s.workers };
    }

-- a state of such fields,
abbrev pub state_of : Fields → RunState
state_of f =
    record {
      place = f.place;
      policy = f.setup.policy;
      held = f.held;
      phase = f.phase;
      low = f.low;
      base = f.base;
      steals = f.steals;
      workers = f.setup.workers;
    }

-- an event's outcome with the next state,
pub record Answered : Type 0 where
  pub outcome : Outcome
  pub state : RunState

-- that of an event that did such a move,
abbrev pub answer_of : Move → Answered
answer_of m = record { outcome = m.outcome; state = state_of m.after }

-- and that which a call answers, its refusal by the number.
abbrev pub answered : Answer → Answered
answered a = record { outcome = outcome_of a.outcome; state = a.state }

-- ---- the start

-- "All other results 0": the state beside a refusal.
unfoldable pub zeros : RunState
zeros =
    record {
      place = replicate most_steps 0;
      policy = 0;
      held = replicate most_workers 0;
      phase = replicate most_workers 0;
      low = replicate most_workers 0;
      base = replicate most_workers 0;
      steals = 0;
      workers = 0;
    }

-- Refusals 1 to 5 and 16 with their position, or the first state, which keeps the count for the events.
pub record Started : Type 0 where
  pub number : ℕ
  pub position : ℕ
  pub state : RunState

unfoldable pub start_answer : ℕ → ℕ → List ℕ → Started
start_answer w p tree =
    let refusal = start_verdict w p tree in
    record {
      number = refusal.number;
      position = refusal.position;
      state = cond (eqb refusal.number 0) (state_of (fresh (record { policy = p; workers = w }))) zeros;
    }

-- It is answered by the first state or a refusal.
abbrev pub started_of : Result RunState Refused → Started
started_of (Ok state) = record { number = 0; position = 0; state = state }
started_of (Err e) = record { number = number_of e.refusal; position = e.position; state = zeros }

-- ---- events

unfoldable pub run_answer : RunState → List ℕ → ℕ → Answered
run_answer s tree w = answer_of (run_move (fields s) tree w)

unfoldable pub steal_answer : RunState → List ℕ → ℕ → ℕ → Answered
steal_answer s tree t v = answer_of (steal_move (fields s) tree t v)

unfoldable pub event_answer : RunState → List ℕ → ℕ → ℕ → Answered
event_answer s tree a b = answer_of (event_move (fields s) tree a b)

-- ---- the idle workers

-- Those below the count.
unfoldable pub idle_answer : RunState → Idle
idle_answer s =
    record {
      set = idle_bits s.held 0 (worker_limit s.workers);
      count = idle_number s.held 0 (worker_limit s.workers);
      lowest = idle_first s.held 0 (worker_limit s.workers);
      state = s;
    }
