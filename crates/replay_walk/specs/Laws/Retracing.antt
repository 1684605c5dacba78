-- What the loop over the records holds: after the first k of them, none of them refused, the tables show the rules' phases.
-- What it comes to at the start, at the end and at a record that is refused for its workers.
use Rattle.std.specs.Prelude.{ℕ, zero, suc, ◌+◌, ◌/◌, ◌%◌, ◌≤◌, ◌<◌, ◌≡◌, refl, true, ◌⊎◌, drop, set, replicate, eqb, leb, Ok, Err}
use Rattle.std.proofs.Math.Path.{sym}
use Rattle.std.proofs.Common.{ap, ◌∙◌, get_or-set_same, leb-true, ne_eqb}
use mathlib.Core.List.{List, []}
use native.Mathlib.Omega.{arith}
use Rattle.std.proofs.Math.ListN.{length, get_or, length-set}
use Rattle.std.proofs.lemmas.List.{length-replicate, get_or-replicate}
use Rattle.std.proofs.Math.Seq.{get_or-set_other}
use Rattle.rules.specs.Bytes.{records, whole_records, Verdict, accepted, Walked, walk}
use Rattle.rules.specs.Tree.{kinds, weights, ordinal}
use Rattle.rules.specs.Scheduling.{work_first, help_first, most_workers, Phase, first_phases, phase_at}
use Rattle.rules.specs.Traces.{latest_phase, judge_trace_record, next_phases, replay_walk, phase_load, loads}
use Rattle.rules.specs.Calls.{most_trace_records, start_verdict}
use Rattle.tree.specs.Laws.Records.{length-records}
use Rattle.tree.specs.Laws.Walks.{walk_stop, walk_end}
use Rattle.tree_scan.specs.Laws.Shape.{Shape}
use Rattle.tree_scan.specs.Laws.Frames.{end_at, size_at, Frame, accepted-frame}
use Rattle.tree_scan.specs.Laws.Places.{root-first}
use Rattle.tree_scan.specs.Laws.Starts.{start-tree-accepts, start_workers, admitted_policy}
use Rattle.tree_tables.specs.Terms.{Ends, Openers, Sums, weight_before}
use Rattle.run_invariant.proofs.Laws.Counts.{and_both}
use Rattle.replay_invariant.specs.Invariant.{Split}
use Rattle.replay_invariant.proofs.Laws.Parts.{covered-sum}
use Rattle.replay_invariant.proofs.Laws.Reads.{Based, based_fresh}
use Rattle.replay_invariant.proofs.Laws.Labels.{first-labels}
use Rattle.replay_invariant.proofs.Laws.Always.{first-split}
use Rattle.loads.specs.Terms.{Whole}
use Rattle.loads.proofs.Laws.Loads.{start-loads}
use Rattle.trace.specs.Terms.{RecordAt}
use Rattle.replay_spec.specs.Workers.{judged_workers}
use Rattle.policy.specs.Contract.{most_phases}
use Rattle.replay_spec.proofs.Laws.Workers.{Latest, judged-stop}
use Rattle.refusals.specs.declared.Refusal.{Refusal}
use Rattle.refusals.specs.Numbers.{number_of}
use Rattle.refusals.specs.Laws.Numbers.{number-some}
use Rattle.replay_walk.specs.Terms.{Retraced}
use Rattle.replay_spec.proofs.Laws.Begins.{based_at}
use Rattle.replay_invariant.specs.Terms.{free, label_of, Labels}

-- Phases that split the tree cover each step once, so all loads together are its weight.
pub split-whole : (p : ℕ) (ks : List ℕ) → 1 ≤ length ks → Shape (length ks) (end_at ks) (size_at ks) → (phs : List Phase)
    → Split p ks phs → Whole ks phs
unfolding phase_load weight_before
split-whole p ks some-step sh phs split ws = covered-sum ks sh p some-step phs split (λ j. get_or ws j 0)

pub record Retracing (w p : ℕ) (tree trace : List ℕ) (k : ℕ) (labels firsts bases ordinals latest ls : List ℕ) : Type 0 where
  pub either : (p ≡ work_first) ⊎ (p ≡ help_first)
  pub most : w ≤ most_workers
  pub frame : Frame tree
  pub short : length trace / 4 ≤ most_trace_records
  pub reached : k ≤ length trace / 4
  pub phs : List Phase
  pub walked : replay_walk w p (kinds tree) (records 4 trace)
      ≡ walk (judge_trace_record w p (kinds tree)) (next_phases p (kinds tree)) k phs (drop k (records 4 trace))
  pub split : Split p (kinds tree) phs
  pub shown : Labels (kinds tree) phs labels
  -- Each record has begun one phase.
  pub many : k + 1 ≡ length phs
  pub label_room : length labels ≡ length (kinds tree)
  pub first_room : length firsts ≡ most_phases
  pub base_room : length bases ≡ most_phases
  pub ordinal_room : length ordinals ≡ most_phases
  pub latest_room : length latest ≡ most_workers
  pub begins : (i : ℕ) → i < length phs → get_or firsts i 0 ≡ (phase_at phs i).first
  pub within : (i : ℕ) → i < length phs → get_or bases i 0 < length (kinds tree)
  pub based : p ≡ work_first → (i : ℕ) → i < length phs
      → Based (kinds tree) frame.shape (phase_at phs i) (get_or bases i 0) (get_or ordinals i 0)
  pub latests : Latest phs latest
  pub loaded : ls ≡ loads most_workers (kinds tree) (weights tree) phs

-- The tree's tables; all weights together fit a sum.
pub record Tables (tree ends openers sums : List ℕ) : Type 0 where
  pub long : length (kinds tree) ≤ length ends
  pub right : Ends (kinds tree) ends (length (kinds tree))
  pub opened : Openers (kinds tree) openers (length (kinds tree))
  pub longer : length (kinds tree) < length sums
  pub added : Sums (weights tree) sums (length (kinds tree))
  pub light : weight_before (weights tree) (length (kinds tree)) < 18446744073709551616

pub tables-filled : (tree ends openers sums : List ℕ) → (length ends ≡ length (kinds tree)) × Ends (kinds tree) ends (length ends)
    → (length openers ≡ length (kinds tree)) × Openers (kinds tree) openers (length openers)
    → (length (kinds tree) < length sums) × Sums (weights tree) sums (length (kinds tree))
    → get_or sums (length (kinds tree)) 0 < 18446744073709551616 → Tables tree ends openers sums
tables-filled tree ends openers sums right opened added light =
    record {
      long = omega (arith, right.0);
      right = λ i h. right.1 i (omega (arith, right.0));
      opened = λ j some h. opened.1 j some (omega (arith, opened.0));
      longer = added.0;
      added = added.1;
      light = omega (arith, added.1 (length (kinds tree)) (omega arith));
    }

-- ---- the start

-- The labels that the walk is lent.
pub label_room_lem : (w p : ℕ) (tree : List ℕ) → (start_verdict w p tree).number ≡ 0 → (labels : List ℕ)
    → labels ≡ replicate (length (kinds tree)) free → (length labels ≡ length (kinds tree)) × (1 ≤ length (kinds tree))
label_room_lem w p tree accepts labels is = (
  rw is (length-replicate {A = ℕ} (length (kinds tree)) free),
  (accepted-frame tree (start-tree-accepts w p tree accepts)).some,
)

-- No phase but phase 0 has begun, so only worker 0 has one.
first_latest : Latest first_phases (set (replicate most_workers free) 0 0)
unfolding first_phases latest_phase
first_latest zero h = refl
first_latest (suc w) h = rw (ne_eqb 0 (suc w) (omega arith)) (get_or-replicate 15 w free 0 (omega arith))

records_most : (trace : List ℕ) → whole_records 4 most_trace_records trace ≡ true → length trace / 4 ≤ most_trace_records
unfolding whole_records
records_most trace e =
    leb-true (length trace / 4) most_trace_records (and_both (eqb (length trace % 4) 0) (leb (length trace / 4) most_trace_records) e).1

module _ (w p : ℕ) (tree trace : List ℕ) (accepts : (start_verdict w p tree).number ≡ 0)
    (fits : whole_records 4 most_trace_records trace ≡ true) where
  frame : Frame tree
  frame = accepted-frame tree (start-tree-accepts w p tree accepts)

  start-labels : (labels : List ℕ) → labels ≡ replicate (length (kinds tree)) free
      → (length (set labels 0 0) ≡ length (kinds tree)) × Labels (kinds tree) first_phases (set labels 0 0)
  unfolding label_of
  start-labels labels is =
      let n = length (kinds tree) in
      let room = label_room_lem w p tree accepts labels is in
      let size : length (set labels 0 0) ≡ n = length-set labels 0 0 ∙ room.0 in (
        size,
        first-labels p (kinds tree) frame.some frame.shape (set labels 0 0) (omega arith)
            (get_or-set_same labels 0 0 free (omega (arith, room)))
            (λ j h l. get_or-set_other labels 0 j 0 free (omega arith) ∙ rw is (get_or-replicate n j free free l)),
      )

  started : (labels firsts bases ordinals sums : List ℕ) (n : ℕ) → labels ≡ replicate (length (kinds tree)) free
      → length firsts ≡ most_phases → bases ≡ replicate most_phases 0 → ordinals ≡ replicate most_phases 0
      → Sums (weights tree) sums (length (kinds tree)) → n ≡ length (kinds tree)
      → Retracing w p tree trace 0 (set labels 0 0) (set firsts 0 0) bases ordinals (set (replicate most_workers free) 0 0)
      (set (replicate most_workers 0) 0 (get_or sums n 0))
  unfolding replay_walk first_phases phase_at
  started labels firsts bases ordinals sums n unlabelled room zeros also added count =
      let ks = kinds tree in
      let sh = frame.shape in
      let either = admitted_policy w p tree accepts in
      let start = start-labels labels unlabelled in
      let base-zero : (i : ℕ) → i < most_phases → get_or bases i 0 ≡ 0 = λ i h. rw zeros (get_or-replicate most_phases i 0 0 h) in
      let ordinal-zero : (i : ℕ) → i < most_phases → get_or ordinals i 0 ≡ 0 = λ i h. rw also (get_or-replicate most_phases i 0 0 h) in
      let root = (root-first ks).1 in
      let all : get_or sums n 0 ≡ weight_before (weights tree) (length ks) = rw count (added (length ks) (omega arith)) in
      record {
        either = either;
        most = (start_workers w p tree accepts).1;
        frame = frame;
        short = records_most trace fits;
        reached = omega arith;
        phs = first_phases;
        walked = refl;
        split = first-split p either ks frame.some sh;
        shown = start.1;
        many = refl;
        label_room = start.0;
        first_room = length-set firsts 0 0 ∙ room;
        base_room = rw zeros (length-replicate {A = ℕ} most_phases 0);
        ordinal_room = rw also (length-replicate {A = ℕ} most_phases 0);
        latest_room = refl;
        begins = λ i h. let e : i ≡ 0 = omega arith in rw e (get_or-set_same firsts 0 0 0 (omega arith));
        within = λ i h. rw (base-zero i (omega arith)) (omega (arith, frame.some));
        based = λ first i h.
            let e : i ≡ 0 = omega arith in
            based_at ks sh {y = record { worker = 0; first = 0; stolen = [] }} {from = 0} {by = ordinal ks 0} (rw e refl)
            (base-zero i (omega arith)) (ordinal-zero i (omega arith) ∙ sym root)
            (based_fresh ks sh 0 0 (omega (arith, frame.some)));
        latests = first_latest;
        loaded = rw all (sym (start-loads ks frame.some sh (weights tree)));
      }

  -- The tables then, of those that the walk is lent and of its own.
  pub retrace_start : (sums : List ℕ) (n : ℕ) → Sums (weights tree) sums (length (kinds tree)) → n ≡ length (kinds tree)
      → (lent : List ℕ) → lent ≡ replicate (length (kinds tree)) free → (own : List ℕ) → length own ≡ most_phases
      → (labels firsts bases ordinals latest ls : List ℕ) → labels ≡ set lent 0 0 → firsts ≡ set own 0 0
      → bases ≡ replicate most_phases 0 → ordinals ≡ replicate most_phases 0 → latest ≡ set (replicate most_workers free) 0 0
      → ls ≡ set (replicate most_workers 0) 0 (get_or sums n 0) → Retracing w p tree trace 0 labels firsts bases ordinals latest ls
  retrace_start sums n added count lent unlabelled own room labels firsts bases ordinals latest ls label first base at last load =
      rw (label, first, last, load) (started lent own bases ordinals sums n unlabelled room base at added count)

-- ---- the end

module _ {w p : ℕ} {tree trace : List ℕ} {k : ℕ} {labels firsts bases ordinals latest ls : List ℕ}
    (so : Retracing w p tree trace k labels firsts bases ordinals latest ls) where
  pub retrace_end : length trace / 4 ≤ k
      → Retraced w p tree trace (Ok (record { phases = k + 1; loads = ls })) labels firsts
  unfolding accepted
  retrace_end h =
      let done =
      so.walked
      ∙ walk_end (judge_trace_record w p (kinds tree)) (next_phases p (kinds tree)) (records 4 trace) [] k so.phs
      (rw (length-records 4 trace) h)
      in
      record {
        verdict = rw done refl;
        phased = record {
          phases = rw done so.many;
          loaded = rw done so.loaded;
          shown = rw done so.shown;
          begins = rw done so.begins;
          few = omega (arith, so.reached, so.short);
        };
        sizes = (so.label_room, so.first_room);
      }

-- ---- a record

module _ {w p : ℕ} {tree trace : List ℕ} {k : ℕ} {labels firsts bases ordinals latest ls : List ℕ}
    (so : Retracing w p tree trace k labels firsts bases ordinals latest ls) {thief victim number : ℕ}
    (entry : RecordAt trace k thief victim number) where
  -- It is refused: `after` are the labels that are left then.
  pub retrace_stopped : (e : Refusal) → judge_trace_record w p (kinds tree) so.phs (get_or (records 4 trace) k []) ≡ number_of e
      → (after : List ℕ) → length after ≡ length (kinds tree)
      → Retraced w p tree trace (Err (record { refusal = e; position = k })) after firsts
  retrace_stopped e j after room =
      let some : number_of e ≡ 0 → ⊥ = λ z. omega (arith, number-some e) in
      let stop =
      so.walked
      ∙ walk_stop (judge_trace_record w p (kinds tree)) (next_phases p (kinds tree)) (records 4 trace) [] k so.phs
      (rw (length-records 4 trace) entry.more) (λ z. some (sym j ∙ z))
      in
      let here = ap {B = Verdict} (λ (x : ℕ). record { number = x; position = k }) j in
      record {
        verdict = sym (ap (λ (y : Walked (List Phase)). y.verdict) stop ∙ here);
        phased = tt;
        sizes = (room, so.first_room);
      }

  pub retrace_judged : (e : Refusal) → number_of e ≡ judged_workers w latest thief victim
      → Retraced w p tree trace (Err (record { refusal = e; position = k })) labels firsts
  retrace_judged e is =
      let judged = judged-stop so.phs latest so.latests w p so.most (kinds tree) (get_or (records 4 trace) k []) so.shown.few in
      let stop = rw (entry.first, entry.second) at judged in
      let some : number_of e ≡ 0 → ⊥ = λ z. omega (arith, number-some e) in
      retrace_stopped e (stop (λ z. some (is ∙ z)) ∙ sym is) labels so.label_room
