-- The returns of an admitted recording: from what the walk over the events comes to, what the call answers and leaves.
use Rattle.std.specs.Prelude.{ℕ, ◌-◌, ◌*◌, ◌≤◌, ◌≡◌, refl, Bool, true, false, List, length, take, ◌==◌, Ok, Err}
use Rattle.std.proofs.Common.{sym, ap, ◌∙◌, true≢false, arith, eq-eqb, ne_eqb}
use Rattle.rules.specs.Bytes.{records}
use Rattle.rules.specs.Tree.{most_steps, kinds, classes, weights}
use Rattle.rules.specs.Scheduling.{Run}
use Rattle.rules.specs.Traces.{trace_bytes, entry_bytes}
use Rattle.rules.specs.Calls.{most_trace_records, written, record_walk, finished}
use Rattle.tree_scan.specs.Laws.Starts.{start-tree-accepts}
use Rattle.tree_scan.specs.Laws.Frames.{Frame, accepted-frame}
use Rattle.run_invariant.proofs.Laws.Consequences.{runs_most, steals_most, finished_runs, runs_finished}
use Rattle.tree_tables.specs.Terms.{classes_before}
use Rattle.buffers.specs.Laws.Records.{length-entries, length_trace}
use Rattle.loads.proofs.Laws.Classes.{classes_are}
use Rattle.refusals.specs.declared.Refused.{Refused}
use Rattle.record_walk.specs.declared.Ended.{Ended}
use Rattle.record_walk.specs.Terms.{Reached, Walks}
use Rattle.record.specs.Body.Terms.{Admitted, Told, Answered}

module _ {w p : ℕ} {tree events own-log own-trace : List ℕ} where
  -- An event is refused: log and trace are as they were.
  pub lost_result : {e : Refused} → Walks w p tree events (Err e) own-log own-trace
      → (log trace charges : List ℕ) → Answered w p tree events log trace (Err e) log trace charges
  lost_result walks log trace charges = record { verdict = walks.verdict; same = (refl, refl); told = tt }

  -- Every event is accepted.
  module _ {log trace : List ℕ} {ended : Ended} (ready : Admitted w p tree log trace)
      (walks : Walks w p tree events (Ok ended) own-log own-trace) where
    frame : Frame tree
    frame = accepted-frame tree (start-tree-accepts w p tree ready.started)

    -- The run that the walk has come to.
    abbrev run : Run
    run = (record_walk w p (kinds tree) (records 2 events)).state

    so : Reached p tree run ended own-log own-trace
    so = walks.reached

    -- The records fit: the log's for each step, the trace's for each spawned task.
    logs-fit : ended.logs ≤ length (kinds tree)
    logs-fit = omega (arith, so.logs, runs_most p (kinds tree) frame.some frame.shape run so.invariant)

    steals-fit : 4 * ended.steals ≤ 2 * (length (kinds tree) - 1)
    steals-fit = omega (arith, so.steals, steals_most p (kinds tree) frame.some frame.shape run so.invariant)

    -- So the numbers of their bytes are small,
    pub bytes_most : (4 * ended.logs ≤ 4 * most_steps) × (4 * ended.steals ≤ 4 * most_trace_records)
    bytes_most = (omega (arith, logs-fit, frame.most), omega (arith, steals-fit, frame.most))

    -- and they have room in the lent buffers.
    pub log-room : 4 * ended.logs ≤ length log
    log-room = omega (arith, logs-fit, ready.log_fits)

    pub trace-room : 4 * ended.steals ≤ length trace
    trace-room = omega (arith, steals-fit, ready.trace_fits)

    -- Every step has run exactly when as many have as the tree has.
    all-run : (ended.logs == length (kinds tree)) ≡ finished (kinds tree) run
    all-run = by (finished (kinds tree) run) refl
      where
        by : (b : Bool) → finished (kinds tree) run ≡ b → (ended.logs == length (kinds tree)) ≡ b
        by true e =
            eq-eqb ended.logs (length (kinds tree))
            (so.logs ∙ finished_runs p (kinds tree) frame.some frame.shape run so.invariant e)
        by false e =
            ne_eqb ended.logs (length (kinds tree))
            (λ f. true≢false
            (sym (runs_finished p (kinds tree) frame.some frame.shape run so.invariant (sym so.logs ∙ f)) ∙ e))

    module _ (log-out trace-out charges : List ℕ) (logged : log-out ≡ written (take (4 * ended.logs) own-log) log)
        (traced : trace-out ≡ written (take (4 * ended.steals) own-trace) trace)
        (charged : charges ≡ classes_before (classes tree) (weights tree) (length (kinds tree))) where
      run-told : Told p tree run log trace ended log-out trace-out charges
      run-told =
          let log-bytes : 4 * ended.logs ≡ length (entry_bytes run.log) = omega (arith, so.logs, length-entries run.log) in
          let trace-bytes : 4 * ended.steals ≡ length (trace_bytes p (kinds tree) run.steals) =
          omega (arith, so.steals, length_trace p (kinds tree) run.steals) in
          record {
            logs = so.logs;
            steals = so.steals;
            finished = all-run;
            loaded = so.loaded;
            logged = logged ∙ ap (λ (x : List ℕ). written x log) (ap (λ (m : ℕ). take m own-log) log-bytes ∙ so.logged);
            traced = traced ∙ ap (λ (x : List ℕ). written x trace) (ap (λ (m : ℕ). take m own-trace) trace-bytes ∙ so.traced);
            classed = charged ∙ sym (classes_are (kinds tree) (classes tree) (weights tree) run.phases so.whole);
          }

      pub done-result : Answered w p tree events log trace (Ok ended) log-out trace-out charges
      done-result = record { verdict = walks.verdict; same = tt; told = run-told }
