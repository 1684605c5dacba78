-- Document 01, "Scheduling": what running a step holds and pushes, when a step waits, running and stealing, refusals 8 to
-- 12, and the idle workers. `p` is the policy, 1 or 2, and `ks` the tree's kinds.
use Rattle.std.specs.Prelude.{ℕ, suc, ◌+◌, ◌-◌, ◌*◌, Bool, true, false, cond, ◌&&◌, ◌||◌, not, length, get_or, set, replicate, eqb, leb}
use mathlib.Core.List.{List, [], ◌∷◌, ◌++◌, drop_last}
use Rattle.std.proofs.Math.Option.{Option, none, some}
use Rattle.rules.specs.Bytes.{count, all, any, highest}
use Rattle.rules.specs.Tree.{kind_at, is_async, is_end, cont, finish_before}

abbrev pub work_first : ℕ
work_first = 1

abbrev pub help_first : ℕ
help_first = 2

-- A run has at most sixteen workers. How many it has is its own count.
abbrev pub most_workers : ℕ
most_workers = 16

-- ---- what running a step holds and pushes

-- A held step, where there is one, and a deque of steps, newest first.
pub record Hand : Type 0 where
  pub held : Option ℕ
  pub deque : List ℕ

-- Whether running an opening step of kind k pushes the child and goes on with the parent. Nothing else tells the policies
-- apart in a run.
unfoldable pub pushes_child : ℕ → ℕ → Bool
pushes_child p k = eqb p help_first && is_async k

-- "Work-first, kind 1 or 2: push the step after the child's end; hold step i + 1."
-- "Help-first, kind 1: push step i + 1; hold the step after the child's end. Kind 2: as work-first."
unfoldable pub holds : ℕ → List ℕ → ℕ → ℕ
holds p ks i = cond (pushes_child p (kind_at ks i)) (cont ks i) (suc i)

unfoldable pub pushes : ℕ → List ℕ → ℕ → ℕ
pushes p ks i = cond (pushes_child p (kind_at ks i)) (suc i) (cont ks i)

-- "Pop the newest pushed step and hold it; if the deque is empty the phase ends and the worker is idle."
unfoldable pub pop : List ℕ → Hand
pop [] = record { held = none; deque = [] }
pop (x ∷ xs) = record { held = some x; deque = xs }

-- Running step i over a deque. A pushed step that is `gone` is dropped: a live run drops none.
unfoldable pub after_run : (ℕ → Bool) → ℕ → List ℕ → ℕ → List ℕ → Hand
after_run gone p ks i xs =
    cond (is_end (kind_at ks i)) (pop xs)
    (record { held = some (holds p ks i); deque = cond (gone (pushes p ks i)) xs (pushes p ks i ∷ xs) })

-- ---- phases

-- A phase: its worker, its first step, and the steps stolen from it, in the order of the steals.
pub record Phase : Type 0 where
  pub worker : ℕ
  pub first : ℕ
  pub stolen : List ℕ

-- "Worker 0 holds step 0 and that begins phase 0."
unfoldable pub first_phases : List Phase
first_phases = record { worker = 0; first = 0; stolen = [] } ∷ []

-- What stands at phase k, or no phase.
unfoldable pub phase_at : List Phase → ℕ → Phase
phase_at phs k = get_or phs k (record { worker = 0; first = 0; stolen = [] })

-- The thief takes step s from phase k, "and a new phase begins. Phase k begins at the k-th steal."
unfoldable pub begin : List Phase → ℕ → ℕ → ℕ → List Phase
begin phs thief k s =
    set phs k (record { worker = (phase_at phs k).worker; first = (phase_at phs k).first; stolen = (phase_at phs k).stolen ++ (s ∷ []) })
    ++ (record { worker = thief; first = s; stolen = [] } ∷ [])

-- ---- the run's state

-- A worker: what it holds, and the number of its latest phase.
pub record Worker : Type 0 where
  pub hand : Hand
  pub phase : ℕ

-- A step run: the phase and the step.
pub record Entry : Type 0 where
  pub phase : ℕ
  pub step : ℕ

-- A step stolen: thief, victim, step.
pub record Steal : Type 0 where
  pub thief : ℕ
  pub victim : ℕ
  pub step : ℕ

-- The state of a run: each worker, the phases, and what has been run and stolen so far, in order.
pub record Run : Type 0 where
  pub workers : List Worker
  pub phases : List Phase
  pub log : List Entry
  pub steals : List Steal

-- An idle worker holds no step.
unfoldable pub idle_worker : Worker
idle_worker = record { hand = record { held = none; deque = [] }; phase = 0 }

-- "Worker 0 holds step 0 and that begins phase 0. The other 15 workers are idle: they hold no step." Here of w workers: the run
-- keeps its count as the length of its list.
unfoldable pub start : ℕ → Run
start w =
    record {
      workers = set (replicate w idle_worker) 0 (record { hand = record { held = some 0; deque = [] }; phase = 0 });
      phases = first_phases;
      log = [];
      steals = [];
    }

unfoldable pub worker_at : Run → ℕ → Worker
worker_at s w = get_or s.workers w idle_worker

-- ---- waiting

unfoldable pub has_run : List Entry → ℕ → Bool
has_run log j = any (λ e. eqb e.step j) log

-- "A step that follows the end of a finish child may run only when all steps of that child and its descendants have run."
-- Those are the steps from the child's first step to its end, which stands just before step i.
unfoldable pub waits : List ℕ → List Entry → ℕ → Bool
waits ks log i = elim (finish_before ks i) [ none ↦ false | some first ↦ not (all (has_run log) (count first (i - first))) ]

-- Document 02, #104: what such a step waits for, "the highest unrun one of the child and its descendants", or none where all of
-- them have run or no finish child ends before step i. "Walk the child backwards from its end and stop at the first unrun step
-- found."
unfoldable pub awaited : List ℕ → List Entry → ℕ → Option ℕ
awaited ks log i = elim (finish_before ks i) [ none ↦ none | some first ↦ highest (λ j. not (has_run log j)) first i ]

-- ---- events

-- "An event is 2 bytes. Equal bytes: that worker runs its step. Different bytes: the first steals from the second."
unfoldable pub is_run : List ℕ → Bool
is_run e = eqb (get_or e 0 0) (get_or e 1 0)

-- Worker w runs its step.
--     9  "A run event names an idle worker."
--    10  "A run event names a worker that waits."
unfoldable pub judge_run : List ℕ → Run → ℕ → ℕ
judge_run ks s w = elim (worker_at s w).hand.held [ none ↦ 9 | some i ↦ cond (waits ks s.log i) 10 0 ]

unfoldable pub run_step : ℕ → List ℕ → Run → ℕ → Run
run_step p ks s w =
    elim (worker_at s w).hand.held [
      | none ↦ s
      | some i ↦ record {
        workers =
            set s.workers w
            (record { hand = after_run (λ x. false) p ks i (worker_at s w).hand.deque; phase = (worker_at s w).phase });
        phases = s.phases;
        log = s.log ++ (record { phase = (worker_at s w).phase; step = i } ∷ []);
        steals = s.steals;
      }
    ]

-- The thief steals from the victim.
--    11  "A steal's thief holds a step."
--    12  "A steal's victim has an empty deque."
unfoldable pub holds_step : Worker → Bool
holds_step w = elim w.hand.held [ none ↦ false | some i ↦ true ]

unfoldable pub judge_steal : Run → ℕ → ℕ → ℕ
judge_steal s thief victim =
    cond (holds_step (worker_at s thief)) 11 (cond (eqb (length (worker_at s victim).hand.deque) 0) 12 0)

-- "A steal takes the oldest step of the victim's deque."
unfoldable pub oldest : List ℕ → ℕ
oldest [] = 0
oldest (x ∷ []) = x
oldest (x ∷ y ∷ ys) = oldest (y ∷ ys)

-- "The thief holds it and a new phase begins."
unfoldable pub steal : Run → ℕ → ℕ → Run
steal s thief victim =
    let v = worker_at s victim in
    let taken = oldest v.hand.deque in
    record {
      workers =
          set
          (set s.workers victim (record { hand = record { held = v.hand.held; deque = drop_last v.hand.deque }; phase = v.phase }))
          thief
          (record { hand = record { held = some taken; deque = [] }; phase = length s.phases });
      phases = begin s.phases thief v.phase taken;
      log = s.log;
      steals = s.steals ++ (record { thief = thief; victim = victim; step = taken } ∷ []);
    }

-- An event's refusal, 0 for none.
--     8  "A record names worker 16 or higher", which "now means a worker at or above that count".
unfoldable pub judge_event : List ℕ → Run → List ℕ → ℕ
judge_event ks s e =
    cond (leb (length s.workers) (get_or e 0 0) || leb (length s.workers) (get_or e 1 0)) 8
    (cond (is_run e) (judge_run ks s (get_or e 0 0)) (judge_steal s (get_or e 0 0) (get_or e 1 0)))

-- The next state, for an event that is not refused.
unfoldable pub next_run : ℕ → List ℕ → Run → List ℕ → Run
next_run p ks s e = cond (is_run e) (run_step p ks s (get_or e 0 0)) (steal s (get_or e 0 0) (get_or e 1 0))

-- ---- the idle workers

-- "The set of idle workers as sixteen bits (worker w is bit w)", which "has bits only below" the run's count.
unfoldable pub idle_set : List Worker → ℕ
idle_set [] = 0
idle_set (w ∷ ws) = cond (holds_step w) 0 1 + 2 * idle_set ws

-- "How many they are."
unfoldable pub idle_count : List Worker → ℕ
idle_count [] = 0
idle_count (w ∷ ws) = cond (holds_step w) 0 1 + idle_count ws

-- "The lowest, which is 16 if there are none", of those from worker i on: "16 still when it is empty", whatever the count.
unfoldable pub idle_lowest : ℕ → List Worker → ℕ
idle_lowest i [] = most_workers
idle_lowest i (w ∷ ws) = cond (holds_step w) (idle_lowest (suc i) ws) i
