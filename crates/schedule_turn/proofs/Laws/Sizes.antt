-- The lengths of the deques, kept beside a run: at its start, after a run and after a steal.
use Rattle.std.specs.Prelude.{◌≡◌, ℕ, zero, suc, pred, ◌<◌, ◌≤◌, false, List, length, replicate, ◌≢◌, slice_index, slice_set}
use Rattle.std.proofs.Math.Path.{refl, sym, ap}
use Rattle.std.proofs.Common.{◌∙◌, length-set, get_or-set_same, get_or-set_other}
use Rattle.std.proofs.Math.Decide.{ℕ_discrete}
use native.Mathlib.Omega.{arith}
use Rattle.std.proofs.lemmas.List.{length-replicate}
use Rattle.rules.specs.Scheduling.{most_workers, Worker, Run, idle_worker, start, worker_at, holds_step, steal}
use Rattle.run_invariant.specs.Invariant.{Invariant}
use Rattle.run_invariant.proofs.Laws.Moves.{get_or_alike, length-drop_last, after-length, ran, onward, ran_here, ran_other, enriched, lightened}
use Rattle.run_invariant.proofs.Laws.Moves.{steal-thief, steal_other, steal-victim}
use Rattle.schedule_turn.specs.Terms.{size_after, Sized}

-- How long a worker's deque is.
abbrev deep : Worker → ℕ
deep x = length x.hand.deque

-- At the start all deques are empty.
pub sized_start : (w : ℕ) → 1 ≤ w → Sized (start w) (replicate most_workers 0)
sized_start zero some = absurd (omega arith)
sized_start (suc n) some =
    record { sixteen = length-replicate {A = ℕ} 16 0; each = λ u. get_or_alike 16 u 0 ∙ sym (empty u) }
  where
    empty : (u : ℕ) → deep (worker_at (start (suc n)) u) ≡ 0
    empty zero = unfold start worker_at in refl
    empty (suc u) = unfold start worker_at idle_worker in (ap deep (get_or_alike n u idle_worker))

-- One worker's deque has another length now.
module _ (s t : Run) (sizes : List ℕ) (sized : Sized s sizes) (w x : ℕ) (few : w < most_workers) (here : deep (worker_at t w) ≡ x)
    (others : (u : ℕ) → (u ≢ w) → deep (worker_at t u) ≡ deep (worker_at s u)) where
  sized_at : Sized t (slice_set sizes w x)
  sized_at =
      record {
        sixteen = length-set sizes w x ∙ sized.sixteen;
        each = λ u. elim (ℕ_discrete u w) [
          | yes e ↦ rw e (get_or-set_same sizes w x 0 (omega (arith, sized.sixteen)) ∙ sym here)
          | no n ↦ get_or-set_other sizes w u x 0 n ∙ sized.each u ∙ sym (others u n)
        ];
      }

module _ (p : ℕ) (ks : List ℕ) (s : Run) (sizes : List ℕ) (sized : Sized s sizes) where
  -- Worker w has run step i.
  pub sized_run : (w i : ℕ) → w < length s.workers → w < most_workers
      → Sized (ran p ks s w i) (slice_set sizes w (size_after ks i (slice_index sizes w)))
  unfolding onward size_after
  sized_run w i has few =
      sized_at s (ran p ks s w i) sizes sized w _ few
      (ap deep (ran_here p ks s w i has) ∙ after-length p ks i (worker_at s w).hand.deque ∙ rw (sized.each w) refl)
      (λ u n. ap deep (ran_other p ks s w i u n))

  -- Worker t, idle, has stolen from worker v.
  pub sized_steal : Invariant p ks s → (t v : ℕ) → t < length s.workers → v < length s.workers → v < most_workers → (t ≢ v)
      → holds_step (worker_at s t) ≡ false → (deep (worker_at s v) ≢ 0) → Sized (steal s t v) (slice_set sizes v (pred (slice_index sizes v)))
  unfolding enriched lightened
  sized_steal inv t v lt lv few n idle rich =
      sized_at s (steal s t v) sizes sized v _ few
      (omega (
        arith,
        ap deep (steal-victim s t v n lv),
        length-drop_last (worker_at s v).hand.deque rich,
        sized.each v,
      ))
      (λ u m. elim (ℕ_discrete u t) [
        | yes e ↦ rw e (ap deep (steal-thief s t v lt) ∙ sym (ap (λ (l : List ℕ). length l) ((inv.workers t).idle idle)))
        | no k ↦ ap deep (steal_other s t v u k m)
      ])
