-- What the loop over the events holds: after the first k of them, none of them refused, the state shows the rules' run, and the
-- log, the trace and the loads so far are that run's. One law for the start, for each kind of turn, and for the end.
use Rattle.std.specs.Prelude.{ℕ, ◌+◌, ◌*◌, ◌/◌, ◌%◌, ◌≤◌, ◌<◌, ◌≡◌, refl, Bool, true, false, cond, drop, set, replicate, eqb}
use Rattle.std.proofs.Math.Path.{sym, ap}
use Rattle.std.proofs.Common.{◌∙◌, add-one}
use mathlib.Core.List.{List, [], ◌∷◌, flatten}
use Rattle.std.proofs.Math.Option.{some}
use native.Mathlib.Omega.{arith}
use Rattle.std.proofs.Math.ListN.{length, get_or, length-append}
use borrow.Author.Tests.{eqb-true, eqb-false}
use Rattle.rules.specs.Bytes.{records, Verdict, accepted, Walked, walk}
use Rattle.rules.specs.Tree.{most_steps, kinds, weights}
use Rattle.rules.specs.Scheduling.{most_workers, phase_at, Worker, Run, start, worker_at, is_run, holds_step, oldest, steal}
use Rattle.rules.specs.Scheduling.{judge_event, next_run}
use Rattle.rules.specs.Traces.{trace_number, trace_bytes, entry_bytes, loads}
use Rattle.rules.specs.Calls.{most_trace_records, start_verdict, event_call, record_walk}
use Rattle.tree.specs.declared.Phase.{Phase}
use Rattle.tree.specs.declared.Step.{Step}
use Rattle.tree.specs.Laws.Records.{length-records, field_at}
use Rattle.tree.specs.Laws.Walks.{walk_on, walk_stop, walk_end}
use Rattle.tree_scan.specs.Laws.Starts.{start-tree-accepts, start_workers}
use Rattle.tree_scan.specs.Laws.Frames.{Frame, accepted-frame}
use Rattle.tree_tables.specs.Terms.{Ends, Sums, weight_before}
use Rattle.run_invariant.specs.Invariant.{Invariant}
use Rattle.run_invariant.proofs.Laws.Weights.{span}
use Rattle.run_invariant.proofs.Laws.Moves.{sum_one, ran as ran_by, run_is, begin-length, begin-robbed, enriched, steal-thief}
use Rattle.run_invariant.proofs.Laws.Moves.{victim-rich, first_within, second_within, run_held, event_runs, event_steals}
use Rattle.run_invariant.proofs.Laws.Always.{start_invariant, event_keeps}
use Rattle.run_invariant.proofs.Laws.Consequences.{covered_once, runs_most, steals_most}
use Rattle.trace.specs.declared.number.TraceNumber.{TraceNumber}
use Rattle.run_spec.specs.Outcomes.{Outcome, Ran, Stole, Refused}
use Rattle.trace.specs.Contract.{number_value}
use Rattle.run_spec.specs.Moves.{Fields, fresh, event_move}
use Rattle.run_refinement.specs.Tie.{Shows, held_step, told}
use Rattle.run_refinement.proofs.Laws.Follows.{number-traced}
use Rattle.run_refinement.proofs.Laws.Moves.{Known, held-some}
use Rattle.run_refinement.proofs.Laws.AnyState.{event_setup}
use Rattle.run_refinement.proofs.Laws.Events.{start-shows, event_tells, event_shows}
use Rattle.buffers.specs.Terms.{record_put}
use Rattle.buffers.specs.Laws.Records.{length-entries, entries-one, length_trace, trace_one, put-length, put_front}
use Rattle.loads.specs.Terms.{Movable, load_moved, Whole}
use Rattle.loads.proofs.Laws.Loads.{part_weight, start-loads, start-whole, begin-loads, begin-whole, begin_movable}
use Rattle.loads.proofs.Laws.Takes.{Takes}
use Rattle.record_walk.specs.Terms.{Front}

-- After the first k events, none of them refused: the rules' run and the state that shows it, and log, trace and loads so far.
pub record Recording (w p : ℕ) (tree events : List ℕ) (k : ℕ) (s : Fields) (log trace ls : List ℕ) (logs steals : ℕ) : Type 0 where
  pub run : Run
  pub walked : record_walk w p (kinds tree) (records 2 events)
      ≡ walk (judge_event (kinds tree)) (next_run p (kinds tree)) k run (drop k (records 2 events))
  pub invariant : Invariant p (kinds tree) run
  pub shows : Shows p (kinds tree) s run
  pub log_room : length log ≡ 4 * most_steps
  pub trace_room : length trace ≡ 4 * most_trace_records
  pub log_count : logs ≡ length run.log
  pub steal_count : steals ≡ length run.steals
  pub logged : Front (entry_bytes run.log) log
  pub traced : Front (trace_bytes p (kinds tree) run.steals) trace
  pub loaded : ls ≡ loads most_workers (kinds tree) (weights tree) run.phases
  pub whole : Whole (kinds tree) run.phases

-- ---- what an outcome tells

-- By the rules the event e of the run r is a run, by worker a, of a step in a phase.
record Runs (p : ℕ) (ks : List ℕ) (r : Run) (e : List ℕ) (a phase step : ℕ) : Type 0 where
  fine : judge_event ks r e ≡ 0
  small : a < length r.workers
  holding : (worker_at r a).hand.held ≡ some step
  latest : phase ≡ (worker_at r a).phase
  next : next_run p ks r e ≡ ran_by p ks r a step

-- By the rules the event e of the run r is a steal, by worker a from b, and `number` goes into its trace record.
record Steals (p : ℕ) (ks : List ℕ) (r : Run) (e : List ℕ) (a b number : ℕ) : Type 0 where
  fine : judge_event ks r e ≡ 0
  small : a < length r.workers
  few : b < length r.workers
  other : a ≡ b → ⊥
  full : length (worker_at r b).hand.deque ≡ 0 → ⊥
  numbered : number ≡ trace_number p ks (oldest (worker_at r b).hand.deque)
  next : next_run p ks r e ≡ steal r a b

-- The rules' word on an event, whether it is fine and a run: that it has one form tells which.
module _ (phase : Phase) (step : Step) (x : ℕ) (number : TraceNumber) where
  abbrev word : Bool → Bool → Outcome
  word fine runs = cond fine (cond runs (Ran phase step) (Stole number)) (Refused x)

  as_run : (fine runs : Bool) (k : Phase) (i : Step) → word fine runs ≡ Ran k i
      → (fine ≡ true) × (runs ≡ true) × (phase ≡ k) × (step ≡ i)
  as_run true true k i e = (refl, refl, cc, cc)
  as_run true false k i e = (refl, cc, cc, cc)
  as_run false runs k i e = (cc, cc, cc, cc)

  as_steal : (fine runs : Bool) (n : TraceNumber) → word fine runs ≡ Stole n → (fine ≡ true) × (runs ≡ false) × (number ≡ n)
  as_steal true true n e = (refl, cc, cc)
  as_steal true false n e = (refl, refl, cc)
  as_steal false runs n e = (cc, cc, cc)

  as_refusal : (fine runs : Bool) (n : ℕ) → word fine runs ≡ Refused n → (fine ≡ false) × (x ≡ n)
  as_refusal true true n e = (cc, cc)
  as_refusal true false n e = (cc, cc)
  as_refusal false runs n e = (refl, cc)

module _ (p : ℕ) (ks : List ℕ) (r : Run) (e : List ℕ) where
  told_run : (phase step : ℕ) → told p ks r e ≡ Ran (record { 0 = phase }) (record { 0 = step })
      → Runs p ks r e (get_or e 0 0) phase step
  unfolding told is_run next_run held_step
  told_run phase step t =
      let a = get_or e 0 0 in
      let by = as_run _ _ _ _ (eqb (judge_event ks r e) 0) (is_run e) _ _ t in
      let fine = eqb-true (judge_event ks r e) 0 by.0 in
      let same = eqb-true a (get_or e 1 0) by.1 in
      let held = run_held ks r a (event_runs ks r e fine same) in
      let is : held.0 ≡ step = rw (held_step, held.1) at (ap (λ (x : Step). x.0) by.3) in
      let holding : (worker_at r a).hand.held ≡ some step = held.1 ∙ ap some is in
      record {
        fine = fine;
        small = first_within ks r e fine;
        holding = holding;
        latest = sym (ap (λ (x : Phase). x.0) by.2);
        next = rw by.1 (run_is p ks r a step holding);
      }

  told-steal : (number : TraceNumber) → told p ks r e ≡ Stole number
      → Steals p ks r e (get_or e 0 0) (get_or e 1 0) (number_value number)
  unfolding told is_run next_run
  told-steal number t =
      let a = get_or e 0 0 in
      let b = get_or e 1 0 in
      let by = as_steal _ _ _ _ (eqb (judge_event ks r e) 0) (is_run e) number t in
      let fine = eqb-true (judge_event ks r e) 0 by.0 in
      let other = eqb-false a b by.1 in
      let judged = event_steals ks r e fine other in
      record {
        fine = fine;
        small = first_within ks r e fine;
        few = second_within ks r e fine;
        other = other;
        full = victim-rich r a b judged;
        numbered = ap number_value (sym by.2) ∙ number-traced p ks (oldest (worker_at r b).hand.deque);
        next = rw by.1 refl;
      }

  told-refusal : (x : ℕ) → told p ks r e ≡ Refused x → (judge_event ks r e ≡ 0 → ⊥) × (judge_event ks r e ≡ x)
  unfolding told
  told-refusal x t =
      let by = as_refusal _ _ _ _ (eqb (judge_event ks r e) 0) (is_run e) x t in
      (eqb-false (judge_event ks r e) 0 by.0, by.1)

-- ---- the loop

module _ (w p : ℕ) (tree events : List ℕ) (accepts : (start_verdict w p tree).number ≡ 0) where
  frame : Frame tree
  frame = accepted-frame tree (start-tree-accepts w p tree accepts)

  few_workers : (1 ≤ w) × (w ≤ 16)
  few_workers = start_workers w p tree accepts

  known : (s : Fields) (r : Run) → Invariant p (kinds tree) r → Shows p (kinds tree) s r → Known p (kinds tree) s r
  known s r inv shows = record { some-step = frame.some; most = frame.most; shape = frame.shape; inv = inv; shows = shows }

  pub recording_start : (log trace : List ℕ) → length log ≡ 4 * most_steps → length trace ≡ 4 * most_trace_records
      → Recording w p tree events 0 (fresh (record { policy = p; workers = w })) log trace
      (set (replicate most_workers 0) 0 (weight_before (weights tree) (length (kinds tree)))) 0 0
  unfolding record_walk start entry_bytes trace_bytes flatten
  recording_start log trace h l =
      record {
        run = start w;
        walked = refl;
        invariant = start_invariant p (kinds tree) frame.some frame.shape w few_workers.0;
        shows = start-shows (record { policy = p; workers = w }) (kinds tree) frame.some frame.most few_workers.0 few_workers.1;
        log_room = h;
        trace_room = l;
        log_count = refl;
        steal_count = refl;
        logged = refl;
        traced = refl;
        loaded = sym (start-loads (kinds tree) frame.some frame.shape (weights tree));
        whole = start-whole (kinds tree) frame.some frame.shape;
      }

  module _ {k : ℕ} {s : Fields} {log trace ls : List ℕ} {logs steals : ℕ}
      (so : Recording w p tree events k s log trace ls logs steals) where
    -- All events are done.
    pub recording-done : length events / 2 ≤ k
        → record_walk w p (kinds tree) (records 2 events) ≡ record { verdict = accepted; state = so.run }
    recording-done h =
        so.walked
        ∙ walk_end (judge_event (kinds tree)) (next_run p (kinds tree)) (records 2 events) [] k so.run (rw (length-records 2 events) h)

    -- The next event has bytes a and b.
    module _ (more : k < length events / 2) {a b : ℕ} (first : a ≡ get_or events (2 * k) 0) (second : b ≡ get_or events (2 * k + 1) 0) where
      abbrev event : List ℕ
      event = get_or (records 2 events) k []

      first_byte : get_or event 0 0 ≡ a
      first_byte =
          let here : 2 * k + 0 ≡ 2 * k = omega arith in
          field_at 2 events k 0 more (omega arith) ∙ rw (here, first) refl

      second-byte : get_or event 1 0 ≡ b
      second-byte = field_at 2 events k 1 more (omega arith) ∙ sym second

      -- Its outcome is the rules' word.
      tells : (event_move s tree a b).outcome ≡ told p (kinds tree) so.run event
      tells = rw (first_byte, second-byte) at (event_tells p tree frame s so.run so.invariant so.shows event)

      -- The event is refused.
      pub event-refused : (x : ℕ) → (event_move s tree a b).outcome ≡ Refused x
          → (◌≡◌ {A = Verdict} (record { number = x; position = k }) (record_walk w p (kinds tree) (records 2 events)).verdict)
          × (x ≡ 0 → ⊥)
      event-refused x e =
          let by = told-refusal p (kinds tree) so.run event x (sym tells ∙ e) in
          let left : k < length (records 2 events) = rw (length-records 2 events) more in
          let stop = walk_stop (judge_event (kinds tree)) (next_run p (kinds tree)) (records 2 events) [] k so.run left by.0 in
          (sym (ap (λ (x : Walked Run). x.verdict) (so.walked ∙ stop) ∙ rw by.1 refl), λ z. by.0 (by.1 ∙ z))

      -- The event is accepted and leads to the run `next`.
      module _ (fine : judge_event (kinds tree) so.run event ≡ 0) (next : Run) (to : next_run p (kinds tree) so.run event ≡ next) where
        next-walked : record_walk w p (kinds tree) (records 2 events)
            ≡ walk (judge_event (kinds tree)) (next_run p (kinds tree)) (k + 1) next (drop (k + 1) (records 2 events))
        next-walked =
            let left : k < length (records 2 events) = rw (length-records 2 events) more in
            so.walked
            ∙ walk_on (judge_event (kinds tree)) (next_run p (kinds tree)) (records 2 events) [] k so.run left fine
            ∙ rw (to, add-one k) refl

        called : (event_call p (kinds tree) so.run event).state ≡ next
        unfolding event_call
        called = rw fine to

        next_known : Known p (kinds tree) (event_move s tree a b).after next
        next_known =
            known (event_move s tree a b).after next
            (rw called at (event_keeps p (kinds tree) frame.some frame.shape so.run so.invariant event))
            (rw (called, first_byte, second-byte) at (event_shows p tree frame s so.run so.invariant so.shows event))

      -- The event runs a step.
      module _ (phase step : ℕ) (ran : (event_move s tree a b).outcome ≡ Ran (record { 0 = phase }) (record { 0 = step })) where
        runs : Runs p (kinds tree) so.run event a phase step
        runs = rw first_byte at (told_run p (kinds tree) so.run event phase step (sym tells ∙ ran))

        abbrev ran-run : Run
        ran-run = ran_by p (kinds tree) so.run a step

        ran-known : Known p (kinds tree) (event_move s tree a b).after ran-run
        ran-known = next_known runs.fine ran-run runs.next

        ran-count : logs + 1 ≡ length ran-run.log
        unfolding ran_by
        ran-count =
            omega (arith, length-append so.run.log (record { phase = (worker_at so.run a).phase; step = step } ∷ []), so.log_count)

        pub ran-room : logs < length (kinds tree)
        ran-room = omega (arith, ran-count, runs_most p (kinds tree) frame.some frame.shape ran-run ran-known.inv)

        pub ran-next : Recording w p tree events (k + 1) (event_move s tree a b).after
            (record_put log logs (phase % 256) (phase / 256 % 256) step) trace ls (logs + 1) steals
        unfolding ran_by
        ran-next =
            let entries = so.run.log in
            record {
              run = ran-run;
              walked = next-walked runs.fine ran-run runs.next;
              invariant = ran-known.inv;
              shows = ran-known.shows;
              log_room = put-length log logs (phase % 256) (phase / 256 % 256) step ∙ so.log_room;
              trace_room = so.trace_room;
              log_count = ran-count;
              steal_count = so.steal_count;
              logged = rw (← runs.latest, entries-one entries phase step)
                  (put_front log logs (phase % 256) (phase / 256 % 256) step (entry_bytes entries)
                  (omega (arith, length-entries entries, so.log_count)) (omega (arith, so.log_room, ran-room, frame.most)) so.logged);
              traced = so.traced;
              loaded = so.loaded;
              whole = so.whole;
            }

      -- The event steals a step, which the thief then holds.
      module _ (number : TraceNumber) (stole : (event_move s tree a b).outcome ≡ Stole number) (step : ℕ)
          (held : step ≡ get_or (event_move s tree a b).after.held a 0) where
        theft : Steals p (kinds tree) so.run event a b (number_value number)
        theft = rw (first_byte, second-byte) at (told-steal p (kinds tree) so.run event number (sym tells ∙ stole))

        thief-here : a < s.setup.workers
        thief-here = rw so.shows.workers at theft.small

        small : a < most_workers
        small = omega (arith, thief-here, so.shows.most)

        few : b < most_workers
        few = omega (arith, rw so.shows.workers at theft.few, so.shows.most)

        abbrev taken : ℕ
        taken = oldest (worker_at so.run b).hand.deque

        abbrev stole-run : Run
        stole-run = steal so.run a b

        stole-known : Known p (kinds tree) (event_move s tree a b).after stole-run
        stole-known = next_known theft.fine stole-run theft.next

        stole-count : steals + 1 ≡ length stole-run.steals
        unfolding steal
        stole-count =
            omega (arith, length-append so.run.steals (record { thief = a; victim = b; step = taken } ∷ []), so.steal_count)

        -- The thief holds what was the oldest.
        taken-held : (step ≡ taken) × (taken < length (kinds tree))
        unfolding enriched
        taken-held =
            let thief = ap (λ (x : Worker). x.hand.held) (steal-thief so.run a b theft.small) in
            let both = held-some stole-known a taken (rw (event_setup s tree a b) thief-here) thief in
            (held ∙ both.0, both.1)

        pub stole-room : (a < most_workers) × (b < most_workers) × (a ≡ b → ⊥) × (2 * steals + 2 < length (kinds tree))
            × (step < length (kinds tree))
        stole-room = (
          small,
          few,
          theft.other,
          omega (arith, stole-count, steals_most p (kinds tree) frame.some frame.shape stole-run stole-known.inv),
          omega (arith, taken-held),
        )

        -- The victim's deque is not empty, so it holds a step and is in a phase of its own.
        victim-holds : holds_step (worker_at so.run b) ≡ true
        victim-holds = by (holds_step (worker_at so.run b)) refl
          where
            by : (x : Bool) → holds_step (worker_at so.run b) ≡ x → holds_step (worker_at so.run b) ≡ true
            by true e = e
            by false e = absurd (theft.full (rw ((so.invariant.workers b).idle e) refl))

        abbrev from : ℕ
        from = (worker_at so.run b).phase

        begun : from < length so.run.phases
        begun = (so.invariant.workers b).phase victim-holds

        -- The cover after the steal says that what is taken is apart from what was stolen before.
        takes : Takes (kinds tree) so.run.phases a from b taken
        unfolding steal
        takes =
            let more = begin-length so.run.phases a from taken in
            let within : from < length stole-run.phases = omega (arith, begun) in
            let after = covered_once p (kinds tree) frame.some frame.shape stole-run stole-known.inv from within in
            record {
              begun = begun;
              own = (so.invariant.workers b).own victim-holds;
              other = theft.other;
              thief = small;
              victim = few;
              within = taken-held.1;
              apart = λ j. omega (
                arith,
                rw (begin-robbed so.run.phases a from taken begun) at (after j),
                sum_one (span (kinds tree) j) (phase_at so.run.phases from).stolen taken,
              );
            }

        -- By the tables its weight can leave the victim's load for the thief's,
        pub stole-weight : (ends sums : List ℕ) → length (kinds tree) ≤ length ends → Ends (kinds tree) ends (length (kinds tree))
            → length (kinds tree) < length sums → Sums (weights tree) sums (length (kinds tree))
            → weight_before (weights tree) (length (kinds tree)) < 18446744073709551616 → Movable ends sums ls a b step
        stole-weight ends sums long right longer added light =
            rw (taken-held.0, so.loaded)
            (begin_movable (kinds tree) (weights tree) frame.shape takes ends sums long right longer added
            (so.whole (weights tree)) light)

        -- and then the loads are the next run's.
        stole-loads : load_moved ls a b (part_weight (kinds tree) (weights tree) step)
            ≡ loads most_workers (kinds tree) (weights tree) stole-run.phases
        unfolding steal
        stole-loads = rw (taken-held.0, so.loaded) (sym (begin-loads (kinds tree) (weights tree) frame.shape takes))

        pub stole-next : Recording w p tree events (k + 1) (event_move s tree a b).after log
            (record_put trace steals a b (number_value number))
            (load_moved ls a b (part_weight (kinds tree) (weights tree) step)) logs (steals + 1)
        unfolding steal
        stole-next =
            let ss = so.run.steals in
            record {
              run = stole-run;
              walked = next-walked theft.fine stole-run theft.next;
              invariant = stole-known.inv;
              shows = stole-known.shows;
              log_room = so.log_room;
              trace_room = put-length trace steals a b (number_value number) ∙ so.trace_room;
              log_count = so.log_count;
              steal_count = stole-count;
              logged = so.logged;
              traced = rw (trace_one p (kinds tree) ss a b taken, ← theft.numbered)
                  (put_front trace steals a b (number_value number) (trace_bytes p (kinds tree) ss)
                  (omega (arith, length_trace p (kinds tree) ss, so.steal_count))
                  (omega (arith, so.trace_room, stole-room.3, frame.most)) so.traced);
              loaded = stole-loads;
              whole = begin-whole (kinds tree) takes so.whole;
            }
