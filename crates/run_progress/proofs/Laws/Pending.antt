-- Pending steps of a run: a step that has not run is in the part from one of them, and that one's worker holds a step.
use Rattle.std.specs.Prelude.{ℕ, ◌+◌, ◌≤◌, ◌<◌, ◌≡◌, Bool, true, false, List, length}
use Rattle.std.proofs.Math.Path.{refl, ap}
use Rattle.std.proofs.Common.{sym, ◌∙◌}
use Rattle.std.proofs.Math.Option.{some}
use Rattle.std.proofs.Math.Decide.{ℕ_discrete}
use native.Mathlib.Omega.{arith}
use borrow.Author.Tests.{ltb-false}
use Rattle.rules.specs.Bytes.{sum}
use Rattle.rules.specs.Scheduling.{Worker, Run, idle_worker, worker_at, has_run, holds_step}
use Rattle.tree_scan.specs.Laws.Shape.{Shape}
use Rattle.tree_scan.specs.Laws.Frames.{end_at, size_at, end_size}
use Rattle.run_invariant.specs.Invariant.{self, stack, Chain, Invariant}
use Rattle.run_invariant.proofs.Laws.Counts.{sum_place, sum_two, sum_some}
use Rattle.run_invariant.proofs.Laws.Weights.{span, span_in, span-self, span_weighs}
use Rattle.run_invariant.proofs.Laws.Phase.{held_within}
use Rattle.run_invariant.proofs.Laws.Moves.{some-stack, holds-some, none-stack, held_facts}
use Rattle.run_invariant.proofs.Laws.Consequences.{run_counts}

-- A worker that holds a step.
pub record Holder (s : Run) : Type 0 where
  pub worker : ℕ
  pub within : worker < length s.workers
  pub step : ℕ
  pub holds : (worker_at s worker).hand.held ≡ some step

-- Its deque.
abbrev pub deque_of : (s : Run) → Holder s → List ℕ
deque_of s x = (worker_at s x.worker).hand.deque

-- Step j is in the part from the step that a worker holds, or from one in its deque.
abbrev pub Pending : List ℕ → (s : Run) → ℕ → Type 0
Pending ks s j = (x : Holder s) × (1 ≤ span ks j x.step + sum (span ks j) (deque_of s x))

-- How many of a worker's pending steps have step j in their part.
unfoldable pends : List ℕ → ℕ → Worker → ℕ
pends ks j x = sum (span ks j) (stack x.hand)

module _ (ks : List ℕ) (j : ℕ) where
  -- An idle worker has no step pending; a holder has the held step and its deque.
  pends-none : (x : Worker) → holds_step x ≡ false → pends ks j x ≡ 0
  unfolding pends sum
  pends-none x idle = rw (none-stack x idle) refl

  pends-held : (s : Run) (x : Holder s) → pends ks j (worker_at s x.worker) ≡ span ks j x.step + sum (span ks j) (deque_of s x)
  unfolding pends sum
  pends-held s x = rw (some-stack (worker_at s x.worker) x.step x.holds) refl

module _ (p : ℕ) (ks : List ℕ) (sh : Shape (length ks) (end_at ks) (size_at ks)) (some-step : 1 ≤ length ks) (s : Run)
    (inv : Invariant p ks s) where
  -- Every step has run once or is in the part from one pending step.
  pending_once : (j : ℕ) → j < length ks → sum (λ e. self j e.step) s.log + sum (pends ks j) s.workers ≡ 1
  unfolding pends
  pending_once j h =
      inv.total (span ks j) (self j) (span_weighs ks sh j)
      ∙ span_in ks j 0 (omega arith) (omega (arith, end_size ks sh 0 some-step, sh.whole))

  -- A worker that has a step pending holds one.
  pending-at : (j w : ℕ) → w < length s.workers → 1 ≤ pends ks j (worker_at s w) → (b : Bool) → holds_step (worker_at s w) ≡ b
      → Pending ks s j
  pending-at j w l has true b =
      let held = holds-some (worker_at s w) b in
      let x : Holder s = record { worker = w; within = l; step = held.0; holds = held.1 } in
      (x, omega (arith, pends-held ks j s x))
  pending-at j w l has false b = absurd (omega (arith, pends-none ks j (worker_at s w) b))

  -- So a step that has not run is pending with a worker that holds a step.
  pub unrun_pending : (j : ℕ) → j < length ks → has_run s.log j ≡ false → Pending ks s j
  unfolding worker_at
  unrun_pending j h unrun =
      let none = ltb-false 0 (sum (λ e. self j e.step) s.log) (sym (run_counts s.log j) ∙ unrun) in
      let at = sum_some (pends ks j) idle_worker s.workers (omega (arith, pending_once j h)) in
      pending-at j at.0 at.1 at.2 (holds_step (worker_at s at.0)) refl

  -- What is so of a held step and the deque behind it: the order is that of the pushers, and all are steps of the tree.
  pub held-chain : (x : Holder s) → Chain p ks x.step (deque_of s x)
  held-chain x = (held_facts p ks s inv x.worker x.step x.holds).chain

  pub step_within : (x : Holder s) → x.step < length ks
  step_within x = held_within p ks sh x.step (deque_of s x) (held-chain x)

  -- A held step is in the part from itself, so from no step of a deque, be it its own worker's or another's.
  pub held-apart : (x y : Holder s) → sum (span ks x.step) (deque_of s y) ≡ 0
  unfolding worker_at
  held-apart x y =
      let j = x.step in
      let once = pending_once j (step_within x) in
      let own = span-self ks sh j (step_within x) in
      let here = pends-held ks j s x in
      let there = pends-held ks j s y in
      elim (ℕ_discrete x.worker y.worker) [
        | yes same ↦ omega (
          arith,
          sum_place (pends ks j) idle_worker s.workers x.worker x.within,
          ap (λ (w : ℕ). sum (span ks j) (worker_at s w).hand.deque) same,
        )
        | no n ↦ omega (arith, sum_two (pends ks j) idle_worker s.workers x.worker y.worker x.within y.within n)
      ]
