-- The theorem: recording the live run, replaying its trace, and what both leave, by the rules' run.
use Rattle.std.specs.Prelude.{ℕ, suc, ◌-◌, ◌*◌, ◌/◌, ◌≤◌, ◌≡◌, refl, false, cond}
use Rattle.std.proofs.Math.Path.{sym, ap}
use Rattle.std.proofs.Common.{◌∙◌, arith}
use mathlib.Core.List.{List, [], map, append-nil}
use Rattle.std.proofs.Math.ListN.{length, take}
use Rattle.std.proofs.Math.Seq.{drop-nil}
use Rattle.rules.specs.Bytes.{records}
use Rattle.rules.specs.Tree.{kinds}
use Rattle.rules.specs.Scheduling.{Entry, Steal, Run, judge_event}
use Rattle.rules.specs.Traces.{trace_bytes, run_list}
use Rattle.rules.specs.Calls.{start_verdict, written, short_outputs, short_list, finished, Recorded, record_of, Replayed, replay_of}
use Rattle.rules.specs.Calls.{replay_call}
use Rattle.tree_scan.specs.Laws.Starts.{start-tree-accepts, start_workers, admitted_policy}
use Rattle.tree_scan.specs.Laws.Frames.{Frame, accepted-frame}
use Rattle.run_invariant.specs.Invariant.{Invariant}
use Rattle.run_invariant.proofs.Laws.Always.{always}
use Rattle.run_invariant.proofs.Laws.Consequences.{steals_most, phases-count}
use Rattle.replay_invariant.specs.Invariant.{Split}
use Rattle.replay_invariant.proofs.Laws.Always.{always_split}
use Rattle.replay_invariant.proofs.Laws.Traces.{trace_replays}
use Rattle.replay_invariant.proofs.Laws.Consequences.{list_none, list_length, list_once, list_within}
use Rattle.run_state.specs.declared.RunState.{RunState}
use Rattle.run_state.specs.Contract.{start_answer}
use Rattle.run_spec.specs.declared.Event.{Event}
use Rattle.agreement.specs.Agreement.{entries_of, replayed_workers, live_workers, live, steals}
use Rattle.agreement.specs.Agreement.{Compared, entries, recorded, traced, logged, replayed, listed, Same, Agreement}
use Rattle.agreement.proofs.Laws.Live.{pair, run_after, call_number, live_same, live_accepted, live_runs, live_steals_lem}
use Rattle.agreement.proofs.Laws.Records.{Small, entries_back, trace_back, workers_back}
use Rattle.agreement.proofs.Laws.Phases.{PhasesBelow, StepsBelow, below_small}
use Rattle.agreement.proofs.Laws.Leading.{log_steps, first_leads, log_leading, finished-whole, whole-finished}
use Rattle.agreement.proofs.Laws.Leading.{finished_counts}
use Rattle.agreement.proofs.Laws.Recorded.{recorded-is, recorded-one, recorded-number}
use Rattle.agreement.proofs.Laws.Replayed.{replayed-is, replayed-number}

module _ (w p : ℕ) (tree : List ℕ) (starts : (start_verdict w p tree).number ≡ 0) (es : List Event) where
  -- The rules' run of the events.
  abbrev run : Run
  run = run_after w p tree starts es

  abbrev ks : List ℕ
  ks = kinds tree

  abbrev calls : Compared RunState
  calls = entries w p tree

  frame : Frame tree
  frame = accepted-frame tree (start-tree-accepts w p tree starts)

  inv : Invariant p ks run
  unfolding run_after
  inv = always p ks frame.some frame.shape w (start_workers w p tree starts).0 (map pair es)

  -- Its trace replays to its phases, so they split the tree.
  split : Split p ks run.phases
  unfolding run_after
  split =
      let either = admitted_policy w p tree starts in
      let f = frame in
      let trace = records 4 (trace_bytes p ks run.steals) in
      rw (trace_replays p either ks f.some f.most f.shape f.kind w (start_workers w p tree starts).0 (map pair es))
      at (always_split p either ks f.some f.shape w trace)

  -- The run list of its phases.
  abbrev ran_list : List Entry
  ran_list = run_list p ks run.phases

  steals_are : steals calls tree es ≡ run.steals
  unfolding entries steals
  steals_are = live_steals_lem w p tree starts es

  -- Its phases and its steals are few.
  few_steals_lem : length run.steals ≤ (length ks - 1) / 2
  few_steals_lem = steals_most p ks frame.some frame.shape run inv

  phases_are : length run.phases ≡ suc (length run.steals)
  phases_are = phases-count p ks frame.some frame.shape run inv

  -- So what is written fits its bytes.
  small : (entries : List Entry) → PhasesBelow (length run.phases) entries → StepsBelow (length ks) entries → Small entries
  small =
      below_small (length run.phases) (length ks) (omega (arith, phases_are, few_steals_lem, frame.most))
      (omega (arith, frame.most))

  log_small : Small run.log
  log_small = small run.log inv.logged (log_steps p ks frame.some frame.shape run inv split)

  list_small : Small ran_list
  list_small =
      small ran_list (list_none p ks run.phases) (list_within p ks frame.some frame.shape run.phases split)

  module _ (log trace : List ℕ) (room : short_outputs tree log trace ≡ false) where
    recorded-run : recorded calls tree es log trace ≡ record_of p tree run log trace
    unfolding entries recorded live run_after
    recorded-run =
        recorded-is w p tree starts log trace room (live calls tree es) (live_accepted w p tree starts es)
        ∙ ap {B = Recorded} (λ (r : Run). record_of p tree r log trace) (live_same w p tree starts es)

    log-count : (recorded calls tree es log trace).log_count ≡ length run.log
    unfolding record_of
    log-count = ap (λ (x : Recorded). x.log_count) recorded-run

    trace-count : (recorded calls tree es log trace).trace_count ≡ length run.steals
    unfolding record_of
    trace-count = ap (λ (x : Recorded). x.trace_count) recorded-run

    finished-is : (recorded calls tree es log trace).finished ≡ finished ks run
    unfolding record_of
    finished-is = ap (λ (x : Recorded). x.finished) recorded-run

    traced-is : traced calls tree es log trace ≡ trace_bytes p ks run.steals
    unfolding traced record_of
    traced-is =
        ap (λ (x : Recorded). take (4 * x.trace_count) x.trace) recorded-run ∙ trace_back p ks run.steals trace

    logged-is : logged calls tree es log trace ≡ run.log
    unfolding logged record_of
    logged-is =
        ap {B = List Entry} (λ (x : Recorded). entries_of x.log_count x.log) recorded-run
        ∙ entries_back run.log log_small log

    workers-are : replayed_workers (recorded calls tree es log trace).trace_count (traced calls tree es log trace)
        ≡ live_workers (steals calls tree es)
    unfolding written
    workers-are =
        let bytes = trace_bytes p ks run.steals in
        let alone : written bytes [] ≡ bytes = rw (drop-nil {A = ℕ} (length bytes)) (append-nil bytes) in
        rw (trace-count, traced-is, steals_are) (rw alone at (workers_back p ks run.steals []))

    module _ (list : List ℕ) where
      replayed-with : replayed calls tree es log trace list ≡ replay_call w p tree (trace_bytes p ks run.steals) list
      unfolding entries replayed
      replayed-with = ap {B = Replayed} (λ (bytes : List ℕ). replay_call w p tree bytes list) traced-is

      replaying-is : (replayed calls tree es log trace list).verdict.number ≡ cond (short_list tree list) 7 0
      unfolding run_after
      replaying-is =
          ap (λ (x : Replayed). x.verdict.number) replayed-with ∙ replayed-number w p tree starts (map pair es) list

      module _ (fits : short_list tree list ≡ false) where
        replayed-run : replayed calls tree es log trace list ≡ replay_of p tree run.phases list
        unfolding run_after
        replayed-run = replayed-with ∙ replayed-is w p tree starts (map pair es) list fits

        phase-count : (replayed calls tree es log trace list).phase_count ≡ length run.phases
        unfolding replay_of
        phase-count = ap (λ (x : Replayed). x.phase_count) replayed-run

        listed-is : listed calls tree es log trace list ≡ ran_list
        unfolding listed replay_of
        listed-is =
            ap {B = List Entry} (λ (x : Replayed). entries_of (length ks) x.list) replayed-run
            ∙ (rw (list_length p ks frame.some frame.shape run.phases split) at (entries_back ran_list list_small list))

        all_same : Same calls tree es log trace list
        unfolding entries live
        all_same =
            record {
              log_count = log-count ∙ sym (live_runs w p tree starts es);
              trace_count = trace-count ∙ ap (λ (l : List Steal). length l) (sym steals_are);
              few_steals = rw steals_are few_steals_lem;
              phase_count = rw steals_are (phase-count ∙ phases_are);
              workers = workers-are;
              firsts = λ k h.
                  rw (listed-is, steals_are)
                  (first_leads p ks frame.some frame.shape run inv split k (rw phase-count at h));
              leads = λ k. rw (logged-is, listed-is) (log_leading p ks frame.some frame.shape run inv split k);
              finished = finished-is
                  ∙ (finished_counts p ks frame.some frame.shape run inv split ∙ rw (live_runs w p tree starts es) refl);
              whole = λ f k.
                  rw (logged-is, listed-is)
                  (finished-whole p ks frame.some frame.shape run inv split (sym finished-is ∙ f) k);
              only = λ same.
                  finished-is
                  ∙ whole-finished p ks frame.some frame.shape run inv split (rw (logged-is, listed-is) at same);
              once = λ j h. rw listed-is (list_once p ks frame.some frame.shape run.phases split j h);
            }

pub agrees : (w p : ℕ) (tree : List ℕ) → (start_answer w p tree).number ≡ 0 → (es : List Event) → Agreement (entries w p tree) tree es
unfolding start_answer entries recorded live run_after
agrees w p tree starts es =
    let lived = live (entries w p tree) tree in
    record {
      number = λ before after e split log trace room.
          call_number w p tree starts before e
          ∙ (ap (λ (r : Run). judge_event (kinds tree) r (pair e)) (sym (live_same w p tree starts before))
          ∙ sym (recorded-one w p tree starts log trace room (lived before) (live_accepted w p tree starts before) e));
      recording = λ log trace. recorded-number w p tree starts log trace (lived es) (live_accepted w p tree starts es);
      replaying = λ log trace list room. replaying-is w p tree starts es log trace room list;
      same = λ log trace list room fits. all_same w p tree starts es log trace room list fits;
    }
