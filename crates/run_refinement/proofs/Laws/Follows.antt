-- From an accepted start on a state goes on as the rules' run does: by induction over the events, since each event tells what the
-- rules tell and leaves a state that shows the rules' next run. And the number of a steal is the one that its trace record has.
use Rattle.std.specs.Prelude.{ℕ, ◌≡◌, refl, true, false, cond, get_or, eqb}
use Rattle.std.proofs.Common.{ap₂}
use mathlib.Core.List.{List, [], ◌∷◌}
use Rattle.rules.specs.Tree.{kinds, ordinal}
use Rattle.rules.specs.Scheduling.{work_first, Run, start}
use Rattle.rules.specs.Traces.{trace_number}
use Rattle.rules.specs.Calls.{start_verdict, event_call, after_events}
use Rattle.tree_scan.specs.Laws.Starts.{start-tree-accepts, start_workers}
use Rattle.tree_scan.specs.Laws.Frames.{Frame, accepted-frame}
use Rattle.run_invariant.specs.Invariant.{Invariant}
use Rattle.run_invariant.proofs.Laws.Always.{start_invariant, event_keeps, always}
use Rattle.run_spec.specs.Outcomes.{Outcome}
use Rattle.trace.specs.declared.number.TraceNumber.TheVariants.{ByOrdinal, BySerial}
use Rattle.trace.specs.Contract.{number_by, number_value}
use Rattle.policy.specs.declared.Setup.{Setup}
use Rattle.run_spec.specs.Moves.{fresh}
use Rattle.run_state.specs.declared.RunState.{RunState}
use Rattle.run_state.specs.Contract.{fields, state_of, start_answer, event_answer, idle_answer}
use Rattle.run_refinement.specs.Tie.{Shows, told_all, outcomes, state_reached}
use Rattle.run_refinement.specs.Follows.{Follows, ruled, reached}
use Rattle.run_refinement.proofs.Laws.Events.{start-shows, event_tells, event_shows, idle_set-shown, idle_count-shown}
use Rattle.run_refinement.proofs.Laws.Events.{idle_lowest-shown}

-- The number of a steal is the one that its trace record has.
pub number-traced : (p : ℕ) (ks : List ℕ) (step : ℕ) → number_value (number_by p (ordinal ks step) step) ≡ trace_number p ks step
unfolding number_by trace_number
number-traced p ks step =
    elim (eqb p work_first) as
    (λ b. number_value (cond b (ByOrdinal (record { 0 = ordinal ks step })) (BySerial (record { 0 = step })))
    ≡ cond b (ordinal ks step) step)
    [ true ↦ refl | false ↦ refl ]

module _ (p : ℕ) (tree : List ℕ) (frame : Frame tree) where
  -- From any state that shows a run on: both go on alike.
  along : (es : List (List ℕ)) (s : RunState) (r : Run) → Invariant p (kinds tree) r → Shows p (kinds tree) (fields s) r
      → (outcomes tree s es ≡ told_all p (kinds tree) r es)
      × Shows p (kinds tree) (fields (state_reached tree s es)) (after_events p (kinds tree) r es)
  unfolding outcomes told_all state_reached after_events event_answer
  along [] s r inv shows = (refl, shows)
  along (e ∷ es) s r inv shows =
      let rest =
      along es (event_answer s tree (get_or e 0 0) (get_or e 1 0)).state (event_call p (kinds tree) r e).state
      (event_keeps p (kinds tree) frame.some frame.shape r inv e) (event_shows p tree frame (fields s) r inv shows e)
      in
      (ap₂ (λ (x : Outcome) (xs : List Outcome). x ∷ xs) (event_tells p tree frame (fields s) r inv shows e) rest.0, rest.1)

pub follows : (w p : ℕ) (tree : List ℕ) → (start_verdict w p tree).number ≡ 0 → (es : List (List ℕ)) → Follows w p tree es
unfolding start_answer idle_answer ruled reached
follows w p tree accepts es =
    let frame = accepted-frame tree (start-tree-accepts w p tree accepts) in
    let few = start_workers w p tree accepts in
    let setup : Setup = record { policy = p; workers = w } in
    let inv = always p (kinds tree) frame.some frame.shape w few.0 es in
    let both =
    along p tree frame es (state_of (fresh setup)) (start w)
    (start_invariant p (kinds tree) frame.some frame.shape w few.0)
    (start-shows setup (kinds tree) frame.some frame.most few.0 few.1)
    in
    let after = fields (state_reached tree (state_of (fresh setup)) es) in
    let run = after_events p (kinds tree) (start w) es in
    let first : (start_answer w p tree).state ≡ state_of (fresh setup) = rw accepts refl in
    record {
      invariant = inv;
      tells = rw first both.0;
      shows = rw first both.1;
      idle_as = rw first (idle_set-shown p tree frame after run inv both.1);
      idle_many = rw first (idle_count-shown p tree frame after run inv both.1);
      idle_from = rw first (idle_lowest-shown p tree frame after run inv both.1);
    }
