-- What a class decides and what it does not, sentence by sentence: condition 3 by its test, old trees by a walk beside the walk, the
-- loads by sums over keys, and all else since the calls ask a tree for its verdict, its kinds and its weights.
use Rattle.std.specs.Prelude.{ℕ, ◌≤◌, ◌<◌, ◌≡◌, Bool, true, false, cond, ◌&&◌, ◌||◌, not, get_or, eqb, ltb, leb}
use Rattle.std.proofs.Math.Path.{refl, sym, ap}
use Rattle.std.proofs.Common.{subst, ◌∙◌, arith, eq-eqb, ne_eqb, eqb-true, lt-ltb, le-ltb, le-leb}
use mathlib.Core.List.{List, [], ◌∷◌, map}
use Rattle.std.proofs.Math.Option.{Option, none, some}
use Rattle.std.proofs.Math.Decide.{ℕ_discrete, dec_lt}
use Rattle.std.proofs.Math.ListN.{length, replicate, get_or-map}
use Rattle.std.proofs.lemmas.Bool.{lt-leb}
use Rattle.rules.specs.Bytes.{records, count, sum, Verdict}
use Rattle.rules.specs.Tree.{tree_records, kind, is_end, class_count, class, kinds, classes, weights, most_open, has_kind, well_formed}
use Rattle.rules.specs.Tree.{judge_tree_record, next_open, tree_walk, tree_verdict}
use Rattle.rules.specs.Scheduling.{most_workers, Phase, Run, start}
use Rattle.rules.specs.Traces.{trace_bytes, replay_walk, class_loads}
use Rattle.rules.specs.Calls.{start_verdict, after_events, Recorded, record_walk, record_verdict, record_of, record_refused, record_call}
use Rattle.rules.specs.Calls.{Replayed, replay_verdict, replay_of, replay_refused, replay_call}
use Rattle.rules_schedule.specs.Schedules.{schedule_verdict, schedule_call}
use Rattle.tree.specs.Laws.Counts.{map-length}
use Rattle.tree.specs.Laws.Records.{length-records, length-kinds, length_paired, class_past}
use Rattle.tree.specs.Laws.Walks.{walk_each, walk_too}
use Rattle.tree.specs.Laws.Verdicts.{cond_of, number_by_lem, neither, first-accepts}
use Rattle.tree_scan.specs.Laws.Frames.{Frame, accepted-frame}
use Rattle.tree_scan.specs.Laws.Starts.{start-tree-accepts, start_workers, admitted_policy}
use Rattle.tree_tables.specs.Terms.{weight_before, classes_before}
use Rattle.tree_tables.proofs.Laws.Charging.{of_class-at}
use Rattle.run_invariant.proofs.Laws.Counts.{and_both}
use Rattle.replay_invariant.proofs.Laws.Always.{always_split}
use Rattle.replay_invariant.proofs.Laws.Consequences.{replay_starts_lem}
use Rattle.replay_invariant.proofs.Laws.Traces.{trace_replays}
use Rattle.run_spec.specs.Deques.{oldest_mark}
use Rattle.run_spec.specs.Moves.{Fields, run_move, steal_move, event_move}
use Rattle.run_state.specs.declared.RunState.{RunState}
use Rattle.run_state.specs.Contract.{fields, start_answer, event_answer}
use Rattle.loads.specs.Terms.{Whole}
use Rattle.loads.proofs.Laws.Classes.{Manned, classes_are, workers_sum, classes_sum, zeros-loads}
use Rattle.loads.proofs.Laws.Unused.{unused_manned, recorded-unused, replayed-unused}
use Rattle.record.specs.Laws.Cases.{accepts-both}
use Rattle.replay_walk.specs.Laws.Retracing.{split-whole}
use Rattle.agreement.specs.StepClasses.{formerly_formed, former_judge, former_walk, former_verdict, together, own_loads}
use Rattle.agreement.specs.StepClasses.{recorded_else, replayed_else, Alike, StepClasses}
use Rattle.agreement.proofs.Laws.Folded.{folded}
use Rattle.agreement.proofs.Laws.Counted.{told, recording, recorded, record-told, replaying, replayed, replay-told}

-- ---- condition 3

-- Some part of a test fails.
some_fail : (a b c d : Bool) → not (a && b && c && d) ≡ not a || not b || not c || not d
some_fail false b c d = refl
some_fail true false c d = refl
some_fail true true false d = refl
some_fail true true true d = refl

not-below : (x n : ℕ) → not (ltb x n) ≡ leb n x
not-below x n =
    elim (dec_lt x n) [
      | yes h ↦ rw (lt-ltb x n h, lt-leb n x h) refl
      | no m ↦ rw (le-ltb x n (omega arith), le-leb n x (omega arith)) refl
    ]

three_for : (d : ℕ) (r : List ℕ)
    → eqb (judge_tree_record d r) 3
    ≡ not (has_kind r) || leb class_count (class r) || not (eqb (get_or r 2 0) 0) || not (eqb (get_or r 3 0) 0)
unfolding judge_tree_record well_formed
three_for d r =
    number_by_lem 3 (not (well_formed r)) _
    (neither 3 (eqb d most_open && not (is_end (kind r))) 4 _ (omega arith) (neither 3 (eqb d 0) 5 0 (omega arith) (omega arith)))
    ∙ (some_fail (has_kind r) (ltb (class r) class_count) (eqb (get_or r 2 0) 0) (eqb (get_or r 3 0) 0)
    ∙ rw (not-below (class r) class_count) refl)

-- ---- old trees

-- Of a record of class 0 both conditions 3 say the same.
same_judge : (d : ℕ) (r : List ℕ) → class r ≡ 0 → judge_tree_record d r ≡ former_judge d r
unfolding judge_tree_record former_judge well_formed formerly_formed class
same_judge d r z = rw z refl

former_class : (d : ℕ) (r : List ℕ) → former_judge d r ≡ 0 → class r ≡ 0
unfolding former_judge formerly_formed class
former_class d r e = by (formerly_formed r) refl
  where
    by : (b : Bool) → formerly_formed r ≡ b → get_or r 1 0 ≡ 0
    by true f =
        let head = has_kind r && eqb (get_or r 1 0) 0 in
        let first = (and_both (head && eqb (get_or r 2 0) 0) (eqb (get_or r 3 0) 0) f).0 in
        eqb-true (get_or r 1 0) 0 (and_both (has_kind r) (eqb (get_or r 1 0) 0) (and_both head (eqb (get_or r 2 0) 0) first).0).1
    by false f = absurd (omega (arith, rw f at e))

module _ (tree : List ℕ) where
  same_verdict : tree_walk tree ≡ former_walk tree → tree_verdict tree ≡ former_verdict tree
  unfolding tree_verdict former_verdict
  same_verdict e = rw e refl

  record_class : (j : ℕ) → j < length (tree_records tree) → get_or (classes tree) j 0 ≡ class (get_or (tree_records tree) j [])
  unfolding classes class
  record_class j h = get_or-map class (tree_records tree) j []

  records-many : length (tree_records tree) ≡ length (kinds tree)
  unfolding tree_records
  records-many = length-records 8 tree ∙ sym (length-kinds tree)

  module _ (old : (former_verdict tree).number ≡ 0) where
    former-walks : (former_walk tree).verdict.number ≡ 0
    unfolding former_verdict
    former-walks = (first-accepts _ _ (first-accepts _ _ old).1).0

    old-accepted : tree_verdict tree ≡ former_verdict tree
    unfolding tree_walk former_walk
    old-accepted =
        same_verdict
        (walk_too former_judge judge_tree_record next_open (λ r. 0 ≤ 0) [] (λ d r q e. same_judge d r (former_class d r e) ∙ e)
        (tree_records tree) 0 1 (λ k h. omega arith) former-walks)

    old-classes : (j : ℕ) → get_or (classes tree) j 0 ≡ 0
    unfolding former_walk
    old-classes j =
        elim (dec_lt j (length (kinds tree))) [
          | yes h ↦
              let within : j < length (tree_records tree) = omega (arith, records-many) in
              record_class j within
              ∙ walk_each former_judge next_open (λ r. class r ≡ 0) [] former_class (tree_records tree) 0 1 former-walks j within
          | no n ↦ class_past tree j (omega (arith, length-kinds tree))
        ]

  only_old_lem : (tree_verdict tree).number ≡ 0 → ((j : ℕ) → get_or (classes tree) j 0 ≡ 0) → (former_verdict tree).number ≡ 0
  unfolding tree_verdict tree_walk former_walk
  only_old_lem fine zeros =
      let walks = (first-accepts _ _ (first-accepts _ _ fine).1).0 in
      let same =
      walk_too judge_tree_record former_judge next_open (λ r. class r ≡ 0) [] (λ d r z e. sym (same_judge d r z) ∙ e) (tree_records tree) 0 1
      (λ k h. sym (record_class k h) ∙ zeros k) walks
      in
      sym (ap (λ (v : Verdict). v.number) (same_verdict (sym same))) ∙ fine

-- ---- loads

-- What a call tells of the loads of the classes in some phases, where its refusal is a number, 0 for none; `told` is that of the
-- workers.
module _ (tree : List ℕ) (number : ℕ) (phs : List Phase) where
  abbrev by_class : List ℕ
  by_class = cond (eqb number 0) (class_loads (kinds tree) (classes tree) (weights tree) phs) (replicate class_count 0)

  told-many : length by_class ≡ class_count
  unfolding class_loads
  told-many =
      elim (ℕ_discrete number 0) [
        | yes z ↦ rw (eq-eqb number 0 z) (map-length _ class_count 0)
        | no n ↦ rw (ne_eqb number 0 n) refl
      ]

  told_none : (number ≡ 0 → ⊥) → by_class ≡ replicate class_count 0
  told_none n = rw (ne_eqb number 0 n) refl

  own_is : classes_before (classes tree) (weights tree) (length (kinds tree)) ≡ own_loads tree
  unfolding classes_before weight_before own_loads
  own_is =
      λ k. map (λ c. sum (λ j. of_class-at (classes tree) (weights tree) (length_paired tree) c j k) (count 0 (length (kinds tree))))
      (count 0 class_count)

  told_own : number ≡ 0 → Whole (kinds tree) phs → by_class ≡ own_loads tree
  told_own z whole = rw (eq-eqb number 0 z) (classes_are (kinds tree) (classes tree) (weights tree) phs whole ∙ own_is)

  told_adds : (number ≡ 0 → ((tree_verdict tree).number ≡ 0) × Manned phs) → together by_class ≡ together (told tree number phs)
  unfolding together
  told_adds known =
      elim (ℕ_discrete number 0) [
        | yes z ↦
            let so = known z in
            rw (eq-eqb number 0 z)
            (classes_sum (kinds tree) (classes tree) (weights tree) (length_paired tree) (accepted-frame tree so.0).class phs
            ∙ sym (workers_sum (kinds tree) (weights tree) phs so.1))
        | no n ↦ rw (ne_eqb number 0 n) refl
      ]

  told_old : ((j : ℕ) → get_or (classes tree) j 0 ≡ 0) → (number ≡ 0 → Manned phs)
      → by_class ≡ together (told tree number phs) ∷ replicate 15 0
  unfolding together sum
  told_old zeros known =
      elim (ℕ_discrete number 0) [
        | yes z ↦ rw (eq-eqb number 0 z)
            (zeros-loads (kinds tree) (classes tree) (weights tree) (length_paired tree) zeros phs
            ∙ ap (λ (x : ℕ). x ∷ replicate 15 0) (sym (workers_sum (kinds tree) (weights tree) phs (known z))))
        | no n ↦ rw (ne_eqb number 0 n) refl
      ]

module _ (w p : ℕ) (tree : List ℕ) where
  -- Phases of workers of the run are phases of the sixteen.
  module _ (starts : (start_verdict w p tree).number ≡ 0) where
    frame : Frame tree
    frame = accepted-frame tree (start-tree-accepts w p tree starts)

    few : (1 ≤ w) × (w ≤ most_workers)
    few = start_workers w p tree starts

    run-manned : (es : List (List ℕ)) → Manned (record_walk w p (kinds tree) es).state.phases
    run-manned es = unused_manned _ (λ u h. recorded-unused u w p (kinds tree) few.0 (omega (arith, few.1)) es)

    trace-manned : (rs : List (List ℕ)) → Manned (replay_walk w p (kinds tree) rs).state
    trace-manned rs = unused_manned _ (λ u h. replayed-unused u w p (kinds tree) few.0 (omega (arith, few.1)) rs)

    -- The phases of a trace split the tree, and so do those of a run, whose trace replays to them.
    trace-whole : (rs : List (List ℕ)) → Whole (kinds tree) (replay_walk w p (kinds tree) rs).state
    trace-whole rs =
        split-whole p (kinds tree) frame.some frame.shape _
        (always_split p (admitted_policy w p tree starts) (kinds tree) frame.some frame.shape w rs)

    run-whole : (es : List (List ℕ)) → Whole (kinds tree) (after_events p (kinds tree) (start w) es).phases
    run-whole es =
        let f = frame in
        rw (trace_replays p (admitted_policy w p tree starts) (kinds tree) f.some f.most f.shape f.kind w few.0 es)
        at (trace-whole (records 4 (trace_bytes p (kinds tree) (after_events p (kinds tree) (start w) es).steals)))

  module _ (events log trace : List ℕ) where
    abbrev number : ℕ
    number = recording w p tree events log trace

    abbrev run : List Phase
    run = recorded w p tree events log trace

    record_starts_lem : number ≡ 0 → (start_verdict w p tree).number ≡ 0
    record_starts_lem z = (accepts-both w p tree events log trace z).0

    record-classes : (record_call w p tree events log trace).class_loads ≡ by_class tree number run
    unfolding record_call record_of record_refused
    record-classes = cond_of (λ (r : Recorded). r.class_loads) (eqb number 0) _ _

    record-many : length (record_call w p tree events log trace).class_loads ≡ class_count
    record-many = rw record-classes (told-many tree number run)

    record-none : (number ≡ 0 → ⊥) → (record_call w p tree events log trace).class_loads ≡ replicate class_count 0
    record-none n = record-classes ∙ told_none tree number run n

    record-own : number ≡ 0 → (record_call w p tree events log trace).class_loads ≡ own_loads tree
    record-own z =
        let whole : Whole (kinds tree) run =
        subst (λ (r : Run). Whole (kinds tree) r.phases) (sym (folded w p tree events log trace z).0)
        (run-whole (record_starts_lem z) (records 2 events)) in
        record-classes ∙ told_own tree number run z whole

    record-adds : together (record_call w p tree events log trace).class_loads ≡ together (record_call w p tree events log trace).loads
    record-adds =
        rw (record-classes, record-told w p tree events log trace)
        (told_adds tree number run (λ z.
        (start-tree-accepts w p tree (record_starts_lem z), run-manned (record_starts_lem z) (records 2 events))))

    record-old : (former_verdict tree).number ≡ 0
        → (record_call w p tree events log trace).class_loads ≡ together (record_call w p tree events log trace).loads ∷ replicate 15 0
    record-old old =
        rw (record-classes, record-told w p tree events log trace)
        (told_old tree number run (old-classes tree old) (λ z. run-manned (record_starts_lem z) (records 2 events)))

  module _ (trace list : List ℕ) where
    abbrev numbered : ℕ
    numbered = replaying w p tree trace list

    abbrev phs : List Phase
    phs = replayed w p tree trace list

    replay-classes : (replay_call w p tree trace list).class_loads ≡ by_class tree numbered phs
    unfolding replay_call replay_of replay_refused
    replay-classes = cond_of (λ (r : Replayed). r.class_loads) (eqb numbered 0) _ _

    replay-many : length (replay_call w p tree trace list).class_loads ≡ class_count
    replay-many = rw replay-classes (told-many tree numbered phs)

    replay-none : (numbered ≡ 0 → ⊥) → (replay_call w p tree trace list).class_loads ≡ replicate class_count 0
    replay-none n = replay-classes ∙ told_none tree numbered phs n

    replay-own : numbered ≡ 0 → (replay_call w p tree trace list).class_loads ≡ own_loads tree
    replay-own z = replay-classes ∙ told_own tree numbered phs z (trace-whole (replay_starts_lem w p tree trace list z) (records 4 trace))

    replay-adds : together (replay_call w p tree trace list).class_loads ≡ together (replay_call w p tree trace list).loads
    replay-adds =
        rw (replay-classes, replay-told w p tree trace list)
        (told_adds tree numbered phs (λ z.
        let starts = replay_starts_lem w p tree trace list z in
        (start-tree-accepts w p tree starts, trace-manned starts (records 4 trace))))

    replay-old : (former_verdict tree).number ≡ 0
        → (replay_call w p tree trace list).class_loads ≡ together (replay_call w p tree trace list).loads ∷ replicate 15 0
    replay-old old =
        rw (replay-classes, replay-told w p tree trace list)
        (told_old tree numbered phs (old-classes tree old) (λ z. trace-manned (replay_starts_lem w p tree trace list z) (records 4 trace)))

-- ---- all else

-- Where one way is alike, so is either.
cond_alike : {A B : Type 0} (f : A → B) (b : Bool) (x y z : A) → f x ≡ f y → f (cond b x z) ≡ f (cond b y z)
cond_alike f true x y z e = e
cond_alike f false x y z e = refl

module _ (w p : ℕ) (tree other : List ℕ) (x : Alike tree other) where
  start_blind_lem : start_verdict w p other ≡ start_verdict w p tree
  unfolding start_verdict
  start_blind_lem = rw x.verdict refl

  answer_blind : start_answer w p other ≡ start_answer w p tree
  unfolding start_answer
  answer_blind = rw start_blind_lem refl

  run_blind : (f : Fields) (v : ℕ) → run_move f other v ≡ run_move f tree v
  unfolding run_move
  run_blind f v = rw x.kinds refl

  steal_blind : (f : Fields) (t v : ℕ) → steal_move f other t v ≡ steal_move f tree t v
  unfolding steal_move
  steal_blind f t v = by (oldest_mark f.place v (get_or f.low v 0) (length (kinds tree))) refl
    where
      by : (o : Option ℕ) → oldest_mark f.place v (get_or f.low v 0) (length (kinds tree)) ≡ o
          → steal_move f other t v ≡ steal_move f tree t v
      by none e = rw (steal_move, x.kinds, e) refl
      by (some q) e = rw (steal_move, x.kinds, e, x.kinds) refl

  event_blind_lem : (s : RunState) (a b : ℕ) → event_answer s other a b ≡ event_answer s tree a b
  unfolding event_answer event_move
  event_blind_lem s a b = rw (run_blind (fields s) a, steal_blind (fields s) a b) refl

  recorded_blind : (r : Run) (log trace : List ℕ)
      → recorded_else (record_of p other r log trace) ≡ recorded_else (record_of p tree r log trace)
  unfolding record_of recorded_else
  recorded_blind r log trace = rw (x.kinds, x.weights) refl

  record_blind_lem : (events log trace : List ℕ)
      → recorded_else (record_call w p other events log trace) ≡ recorded_else (record_call w p tree events log trace)
  unfolding record_call record_verdict
  record_blind_lem events log trace =
      let r = (record_walk w p (kinds tree) (records 2 events)).state in
      let refusal = record_verdict w p tree events log trace in
      rw (start_blind_lem, x.kinds)
      (cond_alike recorded_else (eqb refusal.number 0) (record_of p other r log trace) (record_of p tree r log trace)
      (record_refused refusal log trace) (recorded_blind r log trace))

  replayed_blind : (phs : List Phase) (list : List ℕ) → replayed_else (replay_of p other phs list) ≡ replayed_else (replay_of p tree phs list)
  unfolding replay_of replayed_else
  replayed_blind phs list = rw (x.kinds, x.weights) refl

  replay_blind_lem : (trace list : List ℕ) → replayed_else (replay_call w p other trace list) ≡ replayed_else (replay_call w p tree trace list)
  unfolding replay_call replay_verdict
  replay_blind_lem trace list =
      let phs = (replay_walk w p (kinds tree) (records 4 trace)).state in
      let refusal = replay_verdict w p tree trace list in
      rw (start_blind_lem, x.kinds)
      (cond_alike replayed_else (eqb refusal.number 0) (replay_of p other phs list) (replay_of p tree phs list)
      (replay_refused refusal list) (replayed_blind phs list))

  schedule_blind_lem : (seed : ℕ) (events : List ℕ) → schedule_call w p other seed events ≡ schedule_call w p tree seed events
  unfolding schedule_call schedule_verdict
  schedule_blind_lem seed events = rw (start_blind_lem, x.kinds) refl

pub classified : (w p : ℕ) (tree : List ℕ) → StepClasses w p tree
classified w p tree =
    record {
      three = three_for;
      classed = λ fine. (accepted-frame tree fine).class;
      record_many = record-many w p tree;
      replay_many = replay-many w p tree;
      record_none = record-none w p tree;
      replay_none = replay-none w p tree;
      record_own = record-own w p tree;
      replay_own = replay-own w p tree;
      record_adds = record-adds w p tree;
      replay_adds = replay-adds w p tree;
      old_accepted = old-accepted tree;
      old_classes = old-classes tree;
      only_old = only_old_lem tree;
      record_old = λ old events log trace. record-old w p tree events log trace old;
      replay_old = λ old trace list. replay-old w p tree trace list old;
      start_blind = answer_blind w p tree;
      event_blind = event_blind_lem w p tree;
      record_blind = record_blind_lem w p tree;
      replay_blind = replay_blind_lem w p tree;
      schedule_blind = schedule_blind_lem w p tree;
    }
