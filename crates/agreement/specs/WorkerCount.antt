-- Document 02, request #101, the run's own worker count, sentence by sentence, over the functions that the contracts of the entries give
-- their results by. `w` is a count, `p` a policy's byte; neither need be one that a start accepts.
use Rattle.std.specs.Prelude.{ℕ, ◌^◌, ◌≤◌, ◌<◌, ◌≡◌, Bool, ◌||◌, List, [], ◌∷◌, ◌⊎◌, length, get_or, eqb, leb}
use Rattle.rules.specs.Bytes.{first_refused}
use Rattle.rules.specs.Tree.{kinds, tree_verdict}
use Rattle.rules.specs.Scheduling.{most_workers, Phase, Run, judge_event}
use Rattle.rules.specs.Traces.{judge_trace_record}
use Rattle.rules.specs.Calls.{policy_verdict, start_verdict, record_walk, record_verdict, record_call, replay_verdict, replay_call}
use Rattle.policy.specs.Contract.{worker_limit}
use Rattle.run_state.specs.declared.RunState.{RunState}
use Rattle.run_state.specs.Contract.{start_answer, event_answer, idle_answer}
use Rattle.agreement.specs.Agreement.{refusal_of}

-- "A worker at or above that count": one of two bytes, of an event or of a trace record, names it.
unfoldable pub names_none : ℕ → ℕ → ℕ → Bool
names_none count a b = leb count a || leb count b

pub record WorkerCount (p : ℕ) (tree : List ℕ) : Type 0 where
  -- "Recording, the start of a run and replay take a count from 1 to 16." "Errors: 16, a count outside 1 to 16, judged directly after 1."
  pub policy_first : (w : ℕ) → ((policy_verdict p).number ≡ 0 → ⊥) → start_verdict w p tree ≡ policy_verdict p
  pub outside : (w : ℕ) → (policy_verdict p).number ≡ 0 → (w < 1) ⊎ (most_workers < w)
      → start_verdict w p tree ≡ record { number = 16; position = 0 }
  -- Within, 16 among them, the start is judged by policy and tree alone: "With 16 all earlier cases keep their results."
  pub within : (w : ℕ) → 1 ≤ w → w ≤ most_workers → start_verdict w p tree ≡ first_refused (policy_verdict p ∷ tree_verdict tree ∷ [])
  -- Recording and replay are judged by the start first.
  pub record_starts : (w : ℕ) (events log trace : List ℕ) → ((start_verdict w p tree).number ≡ 0 → ⊥)
      → record_verdict w p tree events log trace ≡ start_verdict w p tree
  pub replay_starts : (w : ℕ) (trace list : List ℕ) → ((start_verdict w p tree).number ≡ 0 → ⊥)
      → replay_verdict w p tree trace list ≡ start_verdict w p tree
  -- "The run's state keeps it for single events": the start stores it, and every event leaves it, refused or not, of any state.
  pub stored : (w : ℕ) → (start_verdict w p tree).number ≡ 0 → (start_answer w p tree).state.workers ≡ w
  pub kept : (s : RunState) (a b : ℕ) → (event_answer s tree a b).state.workers ≡ s.workers
  -- A recording keeps it too, as the length of the run's list of workers.
  pub record_kept : (w : ℕ) (es : List (List ℕ)) → length (record_walk w p (kinds tree) es).state.workers ≡ w
  -- "Condition 8 of document 01 now means a worker at or above that count, in every walk that checks one": exactly then it is given to
  -- a single event on any state, to an event of a recording, and to a record of a trace.
  pub eight : (s : RunState) (a b : ℕ)
      → eqb (refusal_of (event_answer s tree a b).outcome) 8 ≡ names_none (worker_limit s.workers) a b
  pub eight_recorded : (r : Run) (e : List ℕ)
      → eqb (judge_event (kinds tree) r e) 8 ≡ names_none (length r.workers) (get_or e 0 0) (get_or e 1 0)
  pub eight_replayed : (w : ℕ) (phs : List Phase) (r : List ℕ)
      → eqb (judge_trace_record w p (kinds tree) phs r) 8 ≡ names_none w (get_or r 0 0) (get_or r 1 0)
  -- "The idle set has bits only below it, and its lowest is 16 still when it is empty."
  pub idle_below : (s : RunState) → (idle_answer s).set < 2 ^ worker_limit s.workers
  pub idle_none : (s : RunState) → (idle_answer s).set ≡ 0 → (idle_answer s).lowest ≡ most_workers
  -- Sixteen loads, whatever the count: those of workers that the run does not have are 0.
  pub record_loads : (w : ℕ) (events log trace : List ℕ) → length (record_call w p tree events log trace).loads ≡ most_workers
  pub record_beyond : (w : ℕ) (events log trace : List ℕ) (u : ℕ) → w ≤ u → get_or (record_call w p tree events log trace).loads u 0 ≡ 0
  pub replay_loads : (w : ℕ) (trace list : List ℕ) → length (replay_call w p tree trace list).loads ≡ most_workers
  pub replay_beyond : (w : ℕ) (trace list : List ℕ) (u : ℕ) → w ≤ u → get_or (replay_call w p tree trace list).loads u 0 ≡ 0
