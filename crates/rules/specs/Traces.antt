-- Document 01, "Trace, log, run list": trace and log records, how replay reads a steal, what a phase covers, its running
-- order, the run list, loads. Document 02, #103: the loads of the classes. `p` is the policy, `ks` the tree's kinds, `cs` its
-- classes and `ws` its weights.
use Rattle.std.specs.Prelude.{ℕ, zero, suc, pred, ◌-◌, max, Bool, true, false, cond, ◌&&◌, ◌||◌, not, length, get_or, drop, eqb, ltb, leb}
use mathlib.Core.List.{List, [], ◌∷◌, ◌++◌, map, flatten, zip_with}
use Rattle.std.proofs.Math.Option.{Option, none, some}
use Rattle.rules.specs.Bytes.{little_endian, two_bytes, count, all, any, sum, Walked, walk}
use Rattle.rules.specs.Tree.{class_count, kind_at, is_async, task, ordinal, task_end, cont, finish_before}
use Rattle.rules.specs.Scheduling.{work_first, Hand, after_run, Phase, first_phases, phase_at, begin, Entry, Steal}

-- ---- trace and log

-- "Work-first: the number is the stolen step's ordinal. Help-first: its serial number."
unfoldable pub trace_number : ℕ → List ℕ → ℕ → ℕ
trace_number p ks step = cond (eqb p work_first) (ordinal ks step) step

-- "A trace record is 4 bytes: thief, victim, number (2 bytes); records stand in order of the steals."
unfoldable pub trace_bytes : ℕ → List ℕ → List Steal → List ℕ
trace_bytes p ks steals = flatten (map (λ s. s.thief ∷ s.victim ∷ two_bytes (trace_number p ks s.step)) steals)

-- "A log record is 4 bytes: phase, step (2 bytes each), one for each run event in order. The run list has the same records."
unfoldable pub entry_bytes : List Entry → List ℕ
entry_bytes entries = flatten (map (λ e. two_bytes e.phase ++ two_bytes e.step) entries)

-- ---- what a phase covers

-- "Its first step up to the end of that step's task": whether step j is among these, for the first step i.
unfoldable pub from_step : List ℕ → ℕ → ℕ → Bool
from_step ks i j = leb i j && ltb j (task_end ks i)

-- "The phase covers its first step up to the end of that step's task, less what was stolen."
unfoldable pub covers : List ℕ → Phase → ℕ → Bool
covers ks ph j = from_step ks ph.first j && not (any (λ s. from_step ks s j) ph.stolen)

-- ---- how replay reads a steal

-- The number of the worker's latest phase, among those from number k on.
unfoldable pub latest_phase : ℕ → ℕ → List Phase → Option ℕ
latest_phase w k [] = none
latest_phase w k (ph ∷ phs) =
    elim (latest_phase w (suc k) phs) [ some later ↦ some later | none ↦ cond (eqb ph.worker w) (some k) none ]

-- The step last stolen from a phase.
unfoldable pub last_stolen : List ℕ → Option ℕ
last_stolen [] = none
last_stolen (s ∷ []) = some s
last_stolen (s ∷ t ∷ ts) = last_stolen (t ∷ ts)

-- Document 01's "frontier task": "at the phase's first steal, the task of its first step; later, the child whose end stands
-- just before the step last stolen." An end's step belongs to the task that it ends.
unfoldable pub frontier : List ℕ → Phase → ℕ
frontier ks ph = elim (last_stolen ph.stolen) [ none ↦ task ks ph.first | some s ↦ task ks (pred s) ]

-- "The task's count of children": the ordinal of its last step, which is its end. A task is named by its first step.
unfoldable pub child_count : List ℕ → ℕ → ℕ
child_count ks first = ordinal ks (pred (task_end ks first))

-- "That task's step of this ordinal": each is the step after the end of the child that the one before it opens.
unfoldable pub task_step : List ℕ → ℕ → ℕ → ℕ
task_step ks first zero = first
task_step ks first (suc o) = cont ks (task_step ks first o)

-- Work-first: "It is at least 1, at most the task's count of children, and at a phase's first steal greater than the ordinal
-- of its first step."
unfoldable pub ordinal_allowed : List ℕ → Phase → ℕ → Bool
ordinal_allowed ks ph number =
    leb 1 number && leb number (child_count ks (frontier ks ph))
    && elim (last_stolen ph.stolen) [ none ↦ ltb (ordinal ks ph.first) number | some s ↦ true ]

-- "The first step of an async child."
unfoldable pub starts_async : List ℕ → ℕ → Bool
starts_async ks zero = false
starts_async ks (suc opener) = is_async (kind_at ks opener)

-- "The step after a finish child."
unfoldable pub follows_finish : List ℕ → ℕ → Bool
follows_finish ks s = elim (finish_before ks s) [ none ↦ false | some first ↦ true ]

-- Help-first: "The number is the first step of an async child, or the step after a finish child. It is not the phase's
-- first step. All steps from it to the end of its own task are still in the phase."
unfoldable pub serial_allowed : List ℕ → Phase → ℕ → Bool
serial_allowed ks ph s =
    ltb s (length ks) && (starts_async ks s || follows_finish ks s) && not (eqb s ph.first)
    && all (covers ks ph) (count s (task_end ks s - s))

-- Whether the number keeps the policy's rule, and the step that it names.
unfoldable pub number_allowed : ℕ → List ℕ → Phase → ℕ → Bool
number_allowed p ks ph number = cond (eqb p work_first) (ordinal_allowed ks ph number) (serial_allowed ks ph number)

unfoldable pub stolen_step : ℕ → List ℕ → Phase → ℕ → ℕ
stolen_step p ks ph number = cond (eqb p work_first) (task_step ks (frontier ks ph) number) number

-- The two-byte number of a trace record.
unfoldable pub record_number : List ℕ → ℕ
record_number r = little_endian (drop 2 r)

-- "Replay reads a steal against the victim's latest phase."
--    14  "In a trace, the victim has had no phase."
--    15  "In a trace, the number breaks the rule above."
unfoldable pub judge_read : ℕ → List ℕ → List Phase → ℕ → ℕ → ℕ
judge_read p ks phs victim number =
    elim (latest_phase victim 0 phs) [ none ↦ 14 | some k ↦ cond (number_allowed p ks (phase_at phs k) number) 0 15 ]

-- A trace record, where the run has w workers.
--     8  "A record names worker 16 or higher", which "now means a worker at or above that count".
--    13  "In a trace, thief and victim are equal."
unfoldable pub judge_trace_record : ℕ → ℕ → List ℕ → List Phase → List ℕ → ℕ
judge_trace_record w p ks phs r =
    cond (leb w (get_or r 0 0) || leb w (get_or r 1 0)) 8
    (cond (eqb (get_or r 0 0) (get_or r 1 0)) 13 (judge_read p ks phs (get_or r 1 0) (record_number r)))

-- The phases after a trace record that is not refused.
unfoldable pub next_phases : ℕ → List ℕ → List Phase → List ℕ → List Phase
next_phases p ks phs r =
    elim (latest_phase (get_or r 1 0) 0 phs) [
      | none ↦ phs
      | some k ↦ begin phs (get_or r 0 0) k (stolen_step p ks (phase_at phs k) (record_number r))
    ]

-- The walk over a trace's records.
unfoldable pub replay_walk : ℕ → ℕ → List ℕ → List (List ℕ) → Walked (List Phase)
replay_walk w p ks rs = walk (judge_trace_record w p ks) (next_phases p ks) 0 first_phases rs

-- ---- running order and run list

-- Running alone from a held step and a deque, for at most `fuel` steps: each step that is `gone` is dropped when pushed, and
-- no step waits.
unfoldable pub run_alone : (ℕ → Bool) → ℕ → List ℕ → ℕ → Hand → List ℕ
run_alone gone p ks zero h = []
run_alone gone p ks (suc fuel) h =
    elim h.held [ none ↦ [] | some i ↦ i ∷ run_alone gone p ks fuel (after_run gone p ks i h.deque) ]

-- "The phase's running order is that of running it alone, each stolen step dropped when pushed and no step waiting for a
-- finish child." A phase has at most the tree's steps.
unfoldable pub running_order : ℕ → List ℕ → Phase → List ℕ
running_order p ks ph =
    run_alone (λ x. any (eqb x) ph.stolen) p ks (length ks) (record { held = some ph.first; deque = [] })

-- "Phase 0 first, then phase 1 and so on, each phase in running order."
unfoldable pub run_list : ℕ → List ℕ → List Phase → List Entry
run_list p ks phs =
    flatten
    (zip_with (λ k ph. map (λ i. record { phase = k; step = i }) (running_order p ks ph)) (count 0 (length phs)) phs)

-- ---- loads

-- The sum of weights of the steps that a phase covers.
unfoldable pub phase_load : List ℕ → List ℕ → Phase → ℕ
phase_load ks ws ph = sum (λ j. cond (covers ks ph j) (get_or ws j 0) 0) (count 0 (length ks))

-- "For each worker the sum of weights of all steps its phases cover at the end."
unfoldable pub worker_load : List ℕ → List ℕ → List Phase → ℕ → ℕ
worker_load ks ws phs w = sum (λ ph. cond (eqb ph.worker w) (phase_load ks ws ph) 0) phs

unfoldable pub loads : ℕ → List ℕ → List ℕ → List Phase → List ℕ
loads w ks ws phs = map (worker_load ks ws phs) (count 0 w)

unfoldable pub largest : List ℕ → ℕ
largest [] = 0
largest (x ∷ xs) = max x (largest xs)

-- Where x stands first, counted from i.
unfoldable pub first_at : ℕ → ℕ → List ℕ → ℕ
first_at x i [] = i
first_at x i (y ∷ ys) = cond (eqb y x) i (first_at x (suc i) ys)

-- "The heaviest worker, the lowest numbered among equals."
unfoldable pub heaviest : List ℕ → ℕ
heaviest ls = first_at (largest ls) 0 ls

-- The weights of the steps of class c; every other step has none.
unfoldable pub of_class : List ℕ → List ℕ → ℕ → List ℕ
of_class cs ws c = zip_with (λ k weight. cond (eqb k c) weight 0) cs ws

-- "The load for each class": the sum of weights of all steps of the class that phases cover at the end.
unfoldable pub class_load : List ℕ → List ℕ → List ℕ → List Phase → ℕ → ℕ
class_load ks cs ws phs c = sum (phase_load ks (of_class cs ws c)) phs

unfoldable pub class_loads : List ℕ → List ℕ → List ℕ → List Phase → List ℕ
class_loads ks cs ws phs = map (class_load ks cs ws phs) (count 0 class_count)
