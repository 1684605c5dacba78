-- A run never gets stuck: from a worker that waits to one that holds a lower step, and so down to one that does not wait.
use Rattle.std.specs.Prelude.{ℕ, zero, suc, ◌≤◌, ◌<◌, ◌≡◌, refl, Bool, true, false, List, length}
use Rattle.std.proofs.Common.{arith}
use Rattle.rules.specs.Scheduling.{Run, has_run, waits}
use Rattle.rules.specs.Calls.{finished}
use Rattle.tree_scan.specs.Laws.Shape.{Shape}
use Rattle.tree_scan.specs.Laws.Frames.{end_at, size_at}
use Rattle.run_invariant.specs.Invariant.{Invariant}
use Rattle.run_invariant.proofs.Laws.Counts.{some_fails}
use Rattle.run_invariant.proofs.Laws.Waiting.{free-accepted}
use Rattle.run_progress.specs.Progress.{MayRun, Progress}
use Rattle.run_progress.proofs.Laws.Waits.{waits_for_lem, held_before}
use Rattle.run_progress.proofs.Laws.Pending.{Holder, deque_of, unrun_pending, held-chain, step_within, held-apart}

module _ (p : ℕ) (ks : List ℕ) (sh : Shape (length ks) (end_at ks) (size_at ks)) (some-step : 1 ≤ length ks) (s : Run)
    (inv : Invariant p ks s) where
  -- A worker that has pending what another waits for holds a lower step than that one.
  lower_held : (x : Holder s) → waits ks s.log x.step ≡ true → (y : Holder s) × (y.step < x.step)
  lower_held x w =
      let h = step_within p ks sh some-step s inv x in
      let f = waits_for_lem ks sh s.log x.step h w in
      let y = unrun_pending p ks sh some-step s inv f.unrun (omega (arith, f.before)) f.not_yet in (
        y.0,
        held_before p ks sh s.log x.step f (deque_of s y.0) y.0.step (held-chain p ks sh some-step s inv y.0)
            y.1 (held-apart p ks sh some-step s inv x y.0),
      )

  -- Down from a worker that holds a step below m to one that does not wait: steps are numbers, so this ends.
  descend : (m : ℕ) (x : Holder s) → x.step < m → MayRun ks s
  descend zero x l = absurd (omega arith)
  descend (suc m) x l =
      by (waits ks s.log x.step) refl (λ w. let y = lower_held x w in descend m y.0 (omega (arith, y.1)))
    where
      by : (b : Bool) → waits ks s.log x.step ≡ b → (waits ks s.log x.step ≡ true → MayRun ks s) → MayRun ks s
      by true w next = next w
      by false w next =
          record { worker = x.worker; within = x.within; free = free-accepted ks s x.worker x.step x.holds w }

  -- Unless every step has run, some worker has an unrun step pending, so holds a step.
  pub progress : Progress ks s
  unfolding finished
  progress unfinished =
      let j = some_fails (has_run s.log) (length ks) 0 unfinished in
      let x = unrun_pending p ks sh some-step s inv j.0 (omega (arith, j.2)) j.3 in
      descend (suc x.0.step) x.0 (omega arith)
