-- Document 01, "Tree S and its schedules": P1 to P12 as one theorem, a table of cases against the rules, closed by
-- computation. Calls are made in bytes, with 16 workers and lent buffers exactly as long as asked. Where document 01 names no
-- policy, the case stands for both.
use Rattle.std.specs.Prelude.{ℕ, zero, suc, ◌-◌, ◌*◌, ◌/◌, ◌%◌, ◌≡◌, refl, Bool, true, false, cond, length, take, drop, replicate, eqb}
use mathlib.Core.List.{List, [], ◌∷◌, ◌++◌, map, flatten, zip_with}
use Rattle.rules.specs.Bytes.{little_endian, two_bytes, cut, records, whole_records, count, all, any, sum, Verdict, accepted}
use Rattle.rules.specs.Bytes.{refused_if, first_refused, walk}
use Rattle.rules.specs.Tree.{tree_records, kind, is_async, is_finish, is_end, class, weight, kinds, classes, weights, kind_at}
use Rattle.rules.specs.Tree.{root, innermost, leave, enter, open_tasks, task_at, task, ordinal, open_after, after_ends, task_end}
use Rattle.rules.specs.Tree.{cont, finish_child, finish_before, has_kind, well_formed, judge_tree_record, next_open, tree_walk}
use Rattle.rules.specs.Tree.{wrong_length, tree_verdict}
use Rattle.rules.specs.Scheduling.{work_first, help_first, most_workers, pushes_child, holds, pushes, pop, after_run}
use Rattle.rules.specs.Scheduling.{first_phases, phase_at, begin, Run, idle_worker, start, worker_at, has_run, waits, is_run}
use Rattle.rules.specs.Scheduling.{judge_run, run_step, holds_step, judge_steal, oldest, steal, judge_event, next_run, idle_set}
use Rattle.rules.specs.Scheduling.{idle_count, idle_lowest}
use Rattle.rules.specs.Traces.{trace_number, trace_bytes, entry_bytes, from_step, covers, latest_phase, last_stolen, frontier}
use Rattle.rules.specs.Traces.{child_count, task_step, ordinal_allowed, starts_async, follows_finish, serial_allowed}
use Rattle.rules.specs.Traces.{number_allowed, stolen_step, record_number, judge_read, judge_trace_record, next_phases, replay_walk}
use Rattle.rules.specs.Traces.{run_alone, running_order, run_list, phase_load, worker_load, loads, largest, first_at, heaviest}
use Rattle.rules.specs.Traces.{of_class, class_load, class_loads}
use Rattle.rules.specs.Calls.{policy_verdict, count_verdict, start_verdict, event_call, written, Recorded, record_walk}
use Rattle.rules.specs.Calls.{record_verdict, finished, record_of, record_refused, record_call, Replayed, replay_verdict}
use Rattle.rules.specs.Calls.{replay_of, replay_refused, replay_call}

-- ---- cases and answers

pub data Case : Type 0 where
  -- record: policy, tree, events
  recording : ℕ → List ℕ → List ℕ → Case
  -- replay: policy, tree, trace
  replaying : ℕ → List ℕ → List ℕ → Case
  -- the idle workers once the events have been accepted: policy, tree, events
  idling : ℕ → List ℕ → List ℕ → Case

pub data Answer : Type 0 where
  -- recorded: whether every step has run, and the trace
  ran : Bool → List ℕ → Answer
  -- replayed: the steps of each phase in running order
  phases : List (List ℕ) → Answer
  -- whether every step has run, the idle set, how many, the lowest
  idle : Bool → ℕ → ℕ → ℕ → Answer
  -- number and position
  refused : ℕ → ℕ → Answer

unfoldable pub if_accepted : Verdict → Answer → Answer
if_accepted v a = cond (eqb v.number 0) a (refused v.number v.position)

-- The steps of the run list's records with phase k, in list order.
unfoldable pub steps_of : ℕ → List (List ℕ) → List ℕ
steps_of k rs = flatten (map (λ r. cond (eqb (little_endian (take 2 r)) k) (little_endian (drop 2 r) ∷ []) []) rs)

unfoldable pub record_answer : Recorded → Answer
record_answer r = if_accepted r.verdict (ran r.finished (take (4 * r.trace_count) r.trace))

unfoldable pub replay_answer : Replayed → Answer
replay_answer r = if_accepted r.verdict (phases (map (λ k. steps_of k (records 4 r.list)) (count 0 r.phase_count)))

unfoldable pub idle_answer : List ℕ → Run → Answer
idle_answer ks s = idle (finished ks s) (idle_set s.workers) (idle_count s.workers) (idle_lowest 0 s.workers)

-- What a run of w workers answers. Whoever unfolds it unfolds all the rules.
unfoldable pub answer_with : ℕ → Case → Answer
unfolding idle_answer replay_answer record_answer steps_of if_accepted little_endian two_bytes cut records whole_records count all
    any sum accepted refused_if first_refused walk tree_records kind is_async is_finish is_end class weight kinds classes weights
    kind_at root innermost leave enter open_tasks task_at task ordinal open_after after_ends task_end cont finish_child finish_before
    has_kind well_formed judge_tree_record next_open tree_walk wrong_length tree_verdict pushes_child holds pushes pop after_run
    first_phases phase_at begin idle_worker start worker_at has_run waits is_run judge_run run_step holds_step judge_steal oldest steal
    judge_event next_run idle_set idle_count idle_lowest trace_number trace_bytes entry_bytes from_step covers latest_phase last_stolen
    frontier child_count task_step ordinal_allowed starts_async follows_finish serial_allowed number_allowed stolen_step record_number
    judge_read judge_trace_record next_phases replay_walk run_alone running_order run_list phase_load worker_load loads largest first_at
    heaviest of_class class_load class_loads policy_verdict count_verdict start_verdict event_call written record_walk record_verdict
    finished record_of record_refused record_call replay_verdict replay_of replay_refused replay_call flatten zip_with
answer_with w (recording p tree events) =
    record_answer
    (record_call w p tree events (replicate (4 * length (kinds tree)) 0) (replicate (2 * (length (kinds tree) - 1)) 0))
answer_with w (replaying p tree trace) = replay_answer (replay_call w p tree trace (replicate (4 * length (kinds tree)) 0))
answer_with w (idling p tree events) = idle_answer (kinds tree) (record_walk w p (kinds tree) (records 2 events)).state

-- With sixteen.
unfoldable pub answer : Case → Answer
unfolding answer_with
answer c = answer_with most_workers c

-- A case and what is said of it.
pub record Row : Type 0 where
  pub given : Case
  pub says : Answer

unfoldable pub row : Case → Answer → Row
row c a = record { given = c; says = a }

-- ---- bytes and trees

-- The n bytes that a numeral of 2 n hexadecimal digits shows, in reading order.
unfoldable pub bytes : ℕ → ℕ → List ℕ
bytes zero x = []
bytes (suc n) x = bytes n (x / 256) ++ (x % 256 ∷ [])

-- A tree file of these kinds, all weights 1.
unfoldable pub of_kinds : List ℕ → List ℕ
of_kinds ks = flatten (map (λ k. k ∷ bytes 7 0x0000_0001_0000_00) ks)

-- "S has kinds 1 3 2 1 3 3 3, all weights 1."
unfoldable pub S : List ℕ
S = of_kinds (1 ∷ 3 ∷ 2 ∷ 1 ∷ 3 ∷ 3 ∷ 3 ∷ [])

-- "The tree of one end."
unfoldable pub one_end : List ℕ
one_end = of_kinds (3 ∷ [])

-- ---- the table

-- The first seven events of P1.
unfoldable pub seven : List ℕ
seven = bytes 14 0x0000_0100_0101_0201_0101_0000_0001

unfoldable one : Case → Answer → List Row
one c a = row c a ∷ []

unfoldable both : (ℕ → Case) → Answer → List Row
both c a = row (c work_first) a ∷ row (c help_first) a ∷ []

unfoldable table : List Row
table =
    flatten
    (
    -- P1, P2
    one (recording work_first S (seven ++ bytes 6 0x0000_0101_0202)) (ran true (bytes 12 0x0100_0100_0201_0200_0001_0100))
    ∷ one (recording work_first S (seven ++ bytes 4 0x0101_0202)) (refused 10 8)
    -- P3, P4
    ∷ one (replaying help_first S []) (phases ((0 ∷ 2 ∷ 3 ∷ 5 ∷ 4 ∷ 6 ∷ 1 ∷ []) ∷ []))
    ∷ one (replaying help_first S (bytes 8 0x0100_0100_0200_0600)) (phases ((0 ∷ 2 ∷ 3 ∷ 5 ∷ 4 ∷ []) ∷ (1 ∷ []) ∷ (6 ∷ []) ∷ []))
    -- P5, P6
    ∷ both (λ p. recording p one_end (bytes 2 0x0000)) (ran true [])
    ∷ both (λ p. recording p one_end (bytes 4 0x0000_0000)) (refused 9 1)
    -- P7
    ∷ both (λ p. idling p S []) (idle false 65534 15 1)
    -- P8, P9
    ∷ one (replaying work_first S (bytes 8 0x0100_0100_0201_0100)) (refused 15 1)
    ∷ one (replaying help_first S (bytes 4 0x0100_0300)) (refused 15 0)
    -- P10, P11
    ∷ both (λ p. recording p S (bytes 2 0x0100)) (refused 12 0)
    ∷ both (λ p. recording p S (bytes 2 0x1000)) (refused 8 0)
    -- P12
    ∷ both (λ p. replaying p S (bytes 4 0x0001_0100)) (refused 14 0)
    ∷ [])

-- Every case is answered as document 01 says.
p1_to_p12 : map (λ r. answer r.given) table ≡ map (λ r. r.says) table
unfolding answer table one both row bytes of_kinds S one_end seven flatten
p1_to_p12 = refl
