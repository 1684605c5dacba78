-- Document 02, request #103, a class for each step, sentence by sentence, over the functions that the contracts of the entries give
-- their results by. `w` is a count, `p` a policy's byte and `tree` a tree's bytes; none need be one that a start accepts.
use Rattle.std.specs.Prelude.{ℕ, ◌<◌, ◌≡◌, Bool, cond, ◌&&◌, ◌||◌, not, List, [], ◌∷◌, map, length, get_or, replicate, eqb, leb}
use Rattle.rules.specs.Bytes.{count, sum, Verdict, refused_if, first_refused, Walked, walk}
use Rattle.rules.specs.Tree.{tree_records, kind, is_end, class_count, class, kinds, classes, weights, most_open, has_kind, judge_tree_record}
use Rattle.rules.specs.Tree.{next_open, wrong_length, tree_verdict}
use Rattle.rules.specs.Calls.{Recorded, record_verdict, record_call, Replayed, replay_verdict, replay_call}
use Rattle.rules_schedule.specs.Schedules.{schedule_call}
use Rattle.run_state.specs.declared.RunState.{RunState}
use Rattle.run_state.specs.Contract.{start_answer, event_answer}

-- ---- trees before the classes

-- Document 01's condition 3: "A tree record has another kind or a non-zero byte 1 to 3."
unfoldable pub formerly_formed : List ℕ → Bool
formerly_formed r = has_kind r && eqb (get_or r 1 0) 0 && eqb (get_or r 2 0) 0 && eqb (get_or r 3 0) 0

-- A record, the walk and the verdict with it; all else is as it is now.
unfoldable pub former_judge : ℕ → List ℕ → ℕ
former_judge d r = cond (not (formerly_formed r)) 3 (cond (eqb d most_open && not (is_end (kind r))) 4 (cond (eqb d 0) 5 0))

unfoldable pub former_walk : List ℕ → Walked ℕ
former_walk tree = walk former_judge next_open 0 1 (tree_records tree)

unfoldable pub former_verdict : List ℕ → Verdict
former_verdict tree =
    first_refused
    (refused_if (wrong_length tree) 2 0
    ∷ (former_walk tree).verdict
    ∷ refused_if (not (eqb (former_walk tree).state 0)) 5 (length (tree_records tree))
    ∷ [])

-- ---- loads and answers

-- All loads together.
unfoldable pub together : List ℕ → ℕ
together ls = sum (λ x. x) ls

-- What the tree's own steps of each class weigh.
unfoldable pub own_loads : List ℕ → List ℕ
own_loads tree =
    map (λ c. sum (λ j. cond (eqb (get_or (classes tree) j 0) c) (get_or (weights tree) j 0) 0) (count 0 (length (kinds tree))))
    (count 0 class_count)

-- A call's answers and lent bytes, all but the loads of the classes.
unfoldable pub recorded_else : Recorded → Recorded
recorded_else r =
    record {
      verdict = r.verdict;
      log_count = r.log_count;
      trace_count = r.trace_count;
      finished = r.finished;
      loads = r.loads;
      heaviest = r.heaviest;
      class_loads = [];
      log = r.log;
      trace = r.trace;
    }

unfoldable pub replayed_else : Replayed → Replayed
replayed_else r =
    record {
      verdict = r.verdict;
      phase_count = r.phase_count;
      loads = r.loads;
      heaviest = r.heaviest;
      class_loads = [];
      list = r.list;
    }

-- Another tree of the same kinds and weights, judged alike: so one that differs in its classes alone.
pub record Alike (tree other : List ℕ) : Type 0 where
  pub kinds : kinds other ≡ kinds tree
  pub weights : weights other ≡ weights tree
  pub verdict : tree_verdict other ≡ tree_verdict tree

-- ---- the statement

pub record StepClasses (w p : ℕ) (tree : List ℕ) : Type 0 where
  -- "Byte 1 of a tree record becomes a class from 0 to 15, and condition 3 covers a class above 15 and non-zero bytes 2 and 3": exactly
  -- then, or where it has another kind, a record gets 3, however many tasks are open.
  pub three : (d : ℕ) (r : List ℕ)
      → eqb (judge_tree_record d r) 3
      ≡ not (has_kind r) || leb class_count (class r) || not (eqb (get_or r 2 0) 0) || not (eqb (get_or r 3 0) 0)
  -- So each step of an accepted tree has a class.
  pub classed : (tree_verdict tree).number ≡ 0 → (j : ℕ) → j < length (kinds tree) → get_or (classes tree) j 0 < class_count
  -- "Record and replay also answer the load for each class": sixteen, which are all 0 beside a refusal,
  pub record_many : (events log trace : List ℕ) → length (record_call w p tree events log trace).class_loads ≡ class_count
  pub replay_many : (trace list : List ℕ) → length (replay_call w p tree trace list).class_loads ≡ class_count
  pub record_none : (events log trace : List ℕ) → ((record_verdict w p tree events log trace).number ≡ 0 → ⊥)
      → (record_call w p tree events log trace).class_loads ≡ replicate class_count 0
  pub replay_none : (trace list : List ℕ) → ((replay_verdict w p tree trace list).number ≡ 0 → ⊥)
      → (replay_call w p tree trace list).class_loads ≡ replicate class_count 0
  -- and otherwise, since the phases cover every step, the tree's own, whatever the events or the trace.
  pub record_own : (events log trace : List ℕ) → (record_verdict w p tree events log trace).number ≡ 0
      → (record_call w p tree events log trace).class_loads ≡ own_loads tree
  pub replay_own : (trace list : List ℕ) → (replay_verdict w p tree trace list).number ≡ 0
      → (replay_call w p tree trace list).class_loads ≡ own_loads tree
  -- "The class loads add up to the worker loads", in every call, refused ones too.
  pub record_adds : (events log trace : List ℕ)
      → together (record_call w p tree events log trace).class_loads ≡ together (record_call w p tree events log trace).loads
  pub replay_adds : (trace list : List ℕ)
      → together (replay_call w p tree trace list).class_loads ≡ together (replay_call w p tree trace list).loads
  -- "Old trees are all class 0": every tree that was accepted before is accepted, all its steps are of class 0, and no other tree is so.
  pub old_accepted : (former_verdict tree).number ≡ 0 → tree_verdict tree ≡ former_verdict tree
  pub old_classes : (former_verdict tree).number ≡ 0 → (j : ℕ) → get_or (classes tree) j 0 ≡ 0
  pub only_old : (tree_verdict tree).number ≡ 0 → ((j : ℕ) → get_or (classes tree) j 0 ≡ 0) → (former_verdict tree).number ≡ 0
  -- Class 0 has its whole load.
  pub record_old : (former_verdict tree).number ≡ 0 → (events log trace : List ℕ)
      → (record_call w p tree events log trace).class_loads ≡ together (record_call w p tree events log trace).loads ∷ replicate 15 0
  pub replay_old : (former_verdict tree).number ≡ 0 → (trace list : List ℕ)
      → (replay_call w p tree trace list).class_loads ≡ together (replay_call w p tree trace list).loads ∷ replicate 15 0
  -- Nothing else sees a class: not the start, an event of any state, a recording, a replay or a schedule.
  pub start_blind : (other : List ℕ) → Alike tree other → start_answer w p other ≡ start_answer w p tree
  pub event_blind : (other : List ℕ) → Alike tree other → (s : RunState) (a b : ℕ) → event_answer s other a b ≡ event_answer s tree a b
  pub record_blind : (other : List ℕ) → Alike tree other → (events log trace : List ℕ)
      → recorded_else (record_call w p other events log trace) ≡ recorded_else (record_call w p tree events log trace)
  pub replay_blind : (other : List ℕ) → Alike tree other → (trace list : List ℕ)
      → replayed_else (replay_call w p other trace list) ≡ replayed_else (replay_call w p tree trace list)
  pub schedule_blind : (other : List ℕ) → Alike tree other → (seed : ℕ) (events : List ℕ)
      → schedule_call w p other seed events ≡ schedule_call w p tree seed events
