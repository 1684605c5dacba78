-- The list that an accepted call makes: its bytes are the events of the rounds, and recording them accepts and finishes.
use Rattle.std.specs.Prelude.{ℕ, ◌*◌, ◌/◌, ◌%◌, ◌≡◌, Bool, cond, drop, eqb}
use Rattle.std.proofs.Math.Path.{refl, ap}
use Rattle.std.proofs.Common.{sym, ◌∙◌, arith, take_at}
use Rattle.std.proofs.Math.Bool.{true, false}
use mathlib.Core.List.{List, [], ◌∷◌, flatten}
use Rattle.std.proofs.Math.Decide.{ℕ_discrete}
use Rattle.std.proofs.Math.ListN.{length}
use borrow.Author.Tests.{eq-eqb, ne_eqb, le-leb}
use Rattle.rules.specs.Bytes.{records, whole_records, accepted, refused_if, first_refused}
use Rattle.rules.specs.Tree.{kinds}
use Rattle.rules.specs.Scheduling.{start}
use Rattle.rules.specs.Calls.{most_events, start_verdict, written, short_outputs, finished, record_walk, record_verdict}
use Rattle.rules.specs.Calls.{record_of, record_refused, record_call}
use Rattle.rules_schedule.specs.Schedules.{Making, begun, made, most_made, Scheduled, schedule_verdict, schedule_of, schedule_refused}
use Rattle.rules_schedule.specs.Schedules.{schedule_call}
use Rattle.tree.specs.Laws.Verdicts.{first-accepts}
use Rattle.tree_scan.specs.Laws.Starts.{start-tree-accepts, start_workers}
use Rattle.tree_scan.specs.Laws.Frames.{Frame, accepted-frame}
use Rattle.schedule_invariant.specs.Schedule.{answered, listed, recorded, Schedule}
use Rattle.schedule_invariant.specs.Terms.{Going}
use Rattle.schedule_invariant.proofs.Laws.Turns.{going_start, going_short, going_bytes, going_records}
use Rattle.schedule_invariant.proofs.Laws.Rounds.{rounds-stop, rounds_finish, idle_again, again-more, rest_idle}

-- ---- recording a list in the making

only-short : (b : Bool) → first_refused (refused_if b 7 0 ∷ accepted ∷ []) ≡ refused_if b 7 0
unfolding first_refused refused_if accepted
only-short true = refl
only-short false = refl

module _ (w p : ℕ) (tree : List ℕ) (starts : (start_verdict w p tree).number ≡ 0) where
  frame : Frame tree
  frame = accepted-frame tree (start-tree-accepts w p tree starts)

  module _ (m : Making) (is : Going w p (kinds tree) m) (log trace : List ℕ) where
    abbrev bytes : List ℕ
    bytes = flatten m.events

    -- At most n + (n - 1) / 2 events, and n is at most 4,095.
    whole : whole_records 2 most_events bytes ≡ true
    unfolding whole_records most_made
    whole =
        let two = going_bytes w p (kinds tree) m is in
        let few = going_short w p (kinds tree) frame.some frame.shape m is in
        rw (
          eq-eqb (length bytes % 2) 0 (omega arith),
          le-leb (length bytes / 2) most_events (omega (arith, frame.most)),
        ) refl

    judged : record_verdict w p tree bytes log trace ≡ refused_if (short_outputs tree log trace) 7 0
    unfolding record_verdict first_refused refused_if accepted
    judged =
        rw (eq-eqb (start_verdict w p tree).number 0 starts, whole, going_records w p (kinds tree) m is, is.walked)
        (only-short (short_outputs tree log trace))

    recorded-verdict : (record_call w p tree bytes log trace).verdict ≡ refused_if (short_outputs tree log trace) 7 0
    unfolding record_call record_of record_refused refused_if accepted
    recorded-verdict = rw judged (by (short_outputs tree log trace))
      where
        by : (b : Bool)
            → (cond (eqb (refused_if b 7 0).number 0) (record_of p tree (record_walk w p (kinds tree) (records 2 bytes)).state log trace)
            (record_refused (refused_if b 7 0) log trace)).verdict ≡ refused_if b 7 0
        by true = refl
        by false = refl

    recorded-finished : finished (kinds tree) m.run ≡ true → short_outputs tree log trace ≡ false
        → (record_call w p tree bytes log trace).finished ≡ true
    unfolding record_call record_of refused_if accepted
    recorded-finished done room = rw (judged, room, going_records w p (kinds tree) m is, is.walked) done

-- ---- the call

module _ (w p : ℕ) (tree : List ℕ) (seed : ℕ) (lent : List ℕ) (accepts : (schedule_call w p tree seed lent).verdict.number ≡ 0) where
  verdict_accepts : (schedule_verdict w p tree lent).number ≡ 0
  unfolding schedule_call schedule_refused
  verdict_accepts =
      let number = (schedule_verdict w p tree lent).number in
      elim (ℕ_discrete number 0) [ yes e ↦ e | no n ↦ rw (ne_eqb number 0 n) at accepts ]

  starts : (start_verdict w p tree).number ≡ 0
  unfolding schedule_verdict
  starts = (first-accepts _ _ verdict_accepts).0

  abbrev list : Making
  list = made w p (kinds tree) seed

  call_is : schedule_call w p tree seed lent ≡ schedule_of list lent
  unfolding schedule_call
  call_is = rw (eq-eqb (schedule_verdict w p tree lent).number 0 verdict_accepts) refl

  begins : Going w p (kinds tree) (begun w seed)
  begins =
      let f = frame w p tree starts in
      going_start w p (kinds tree) f.some f.shape seed (start_workers w p tree starts).0

  ended : (finished (kinds tree) list.run ≡ true) × Going w p (kinds tree) list
  unfolding made begun start
  ended =
      let f = frame w p tree starts in
      rounds_finish w p (kinds tree) f.some f.shape (length (kinds tree)) (begun w seed) begins (omega arith)

  answered-is : answered w p tree seed lent ≡ length list.events
  unfolding answered schedule_of
  answered-is = ap (λ (x : Scheduled). x.event_count) call_is

  listed-is : listed w p tree seed lent ≡ flatten list.events
  unfolding listed schedule_of written
  listed-is =
      rw (answered-is, call_is)
      (take_at (flatten list.events) (drop (length (flatten list.events)) lent) (2 * length list.events)
      (going_bytes w p (kinds tree) list ended.1))

  events_are : records 2 (listed w p tree seed lent) ≡ list.events
  events_are = rw listed-is (going_records w p (kinds tree) list ended.1)

  pub list_made : Schedule w p tree seed lent
  unfolding recorded made most_made
  list_made =
      let f = frame w p tree starts in
      let stop = rounds-stop w p (kinds tree) (length (kinds tree)) (begun w seed) in
      record {
        counted = rw events_are (sym answered-is);
        ends = record {
          rounds = stop.many;
          last = rw stop.same at ended.0;
          before = stop.before;
          most = stop.within;
          idle = λ k.
              rw (again-more w p (kinds tree) stop.many k (begun w seed))
              (idle_again p (kinds tree) f.some f.shape w k _ (rw stop.same at ended.1.invariant)
              (rw stop.same at ended.0)).1;
          quiet = λ k j few done. rest_idle w p (kinds tree) f.some f.shape k j (begun w seed) begins few done;
          events = events_are ∙ ap (λ (x : Making). x.events) stop.same;
        };
        accepted = λ log trace. rw listed-is (recorded-verdict w p tree starts list ended.1 log trace);
        finishes = λ log trace room. rw listed-is (recorded-finished w p tree starts list ended.1 log trace ended.0 room);
        at_most = omega (arith, answered-is, going_short w p (kinds tree) f.some f.shape list ended.1);
      }
