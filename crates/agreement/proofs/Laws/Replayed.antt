-- Replaying the trace of a run.
use Rattle.std.specs.Prelude.{ℕ, ◌/◌, ◌%◌, ◌≤◌, ◌≡◌, Bool, List, length, eqb}
use Rattle.std.proofs.Math.Path.{refl, ap}
use Rattle.std.proofs.Math.Bool.{true, false, cond}
use Rattle.std.proofs.Common.{arith, eq-eqb, le-leb}
use Rattle.rules.specs.Bytes.{records, whole_records, accepted, refused_if, first_refused}
use Rattle.rules.specs.Tree.{kinds}
use Rattle.rules.specs.Scheduling.{Phase, Steal, Run, start}
use Rattle.rules.specs.Traces.{trace_bytes, replay_walk}
use Rattle.rules.specs.Calls.{short_list, start_verdict, after_events, Replayed, replay_verdict, replay_of, replay_refused, replay_call}
use Rattle.rules.specs.Calls.{most_trace_records}
use Rattle.tree_scan.specs.Laws.Starts.{start-tree-accepts, start_workers, admitted_policy}
use Rattle.tree_scan.specs.Laws.Frames.{Frame, accepted-frame}
use Rattle.run_invariant.proofs.Laws.Always.{always}
use Rattle.run_invariant.proofs.Laws.Consequences.{steals_most}
use Rattle.replay_invariant.proofs.Laws.Traces.{trace_replays}
use Rattle.buffers.specs.Laws.Records.{length_trace}

-- ---- bytes

bytes_whole : (p : ℕ) (ks : List ℕ) (steals : List Steal) → length steals ≤ most_trace_records
    → whole_records 4 most_trace_records (trace_bytes p ks steals) ≡ true
unfolding whole_records
bytes_whole p ks steals h =
    let bytes = length (trace_bytes p ks steals) in
    let four = length_trace p ks steals in
    rw (eq-eqb (bytes % 4) 0 (omega arith), le-leb (bytes / 4) most_trace_records (omega arith)) refl

-- ---- the call

module _ (w p : ℕ) (tree trace list : List ℕ) (starts : (start_verdict w p tree).number ≡ 0)
    (listed : whole_records 4 most_trace_records trace ≡ true) where
  fine : eqb (start_verdict w p tree).number 0 ≡ true
  fine = eq-eqb (start_verdict w p tree).number 0 starts

  call_short : short_list tree list ≡ true → (replay_call w p tree trace list).verdict.number ≡ 7
  unfolding replay_call replay_verdict replay_refused first_refused refused_if accepted
  call_short short = rw (fine, listed, short) refl

  call_is : short_list tree list ≡ false → (phs : List Phase)
      → replay_walk w p (kinds tree) (records 4 trace) ≡ record { verdict = accepted; state = phs }
      → replay_call w p tree trace list ≡ replay_of p tree phs list
  unfolding replay_call replay_verdict first_refused refused_if accepted
  call_is room phs e = rw (fine, listed, room, e) refl

-- ---- the trace of a run

module _ (w p : ℕ) (tree : List ℕ) (starts : (start_verdict w p tree).number ≡ 0) (es : List (List ℕ)) (list : List ℕ) where
  -- The state after some events, and the trace of its steals.
  abbrev run : Run
  run = after_events p (kinds tree) (start w) es

  abbrev trace : List ℕ
  trace = trace_bytes p (kinds tree) run.steals

  frame : Frame tree
  frame = accepted-frame tree (start-tree-accepts w p tree starts)

  listed : whole_records 4 most_trace_records trace ≡ true
  listed =
      let inv = always p (kinds tree) frame.some frame.shape w (start_workers w p tree starts).0 es in
      bytes_whole p (kinds tree) run.steals
      (omega (arith, steals_most p (kinds tree) frame.some frame.shape run inv, frame.most))

  -- What replaying it answers.
  pub replayed-is : short_list tree list ≡ false
      → replay_call w p tree trace list ≡ replay_of p tree run.phases list
  replayed-is room =
      call_is w p tree trace list starts listed room run.phases
      (trace_replays p (admitted_policy w p tree starts) (kinds tree) frame.some frame.most frame.shape frame.kind
      w (start_workers w p tree starts).0 es)

  pub replayed-number : (replay_call w p tree trace list).verdict.number ≡ cond (short_list tree list) 7 0
  unfolding replay_of accepted
  replayed-number = by (short_list tree list) refl
    where
      by : (b : Bool) → short_list tree list ≡ b → (replay_call w p tree trace list).verdict.number ≡ cond b 7 0
      by true short = call_short w p tree trace list starts listed short
      by false room = ap (λ (x : Replayed). x.verdict.number) (replayed-is room)
