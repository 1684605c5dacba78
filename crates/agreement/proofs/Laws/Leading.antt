-- What each phase of a run has run is a leading part of what it has in the run list of the run's phases.
use Rattle.std.specs.Prelude.{ℕ, ◌≤◌, ◌<◌, ◌≡◌, refl, Bool, true, false, length, eqb}
use Rattle.std.proofs.Math.Path.{sym}
use Rattle.std.proofs.Common.{◌∙◌, arith, eq-eqb, ne_eqb}
use mathlib.Core.List.{List, [], ◌∷◌, map, append-nil}
use Rattle.std.proofs.Math.Decide.{ℕ_discrete, dec_lt}
use Rattle.std.proofs.Math.ListN.{get_or, get_or-map}
use Rattle.rules.specs.Scheduling.{Phase, phase_at, Run, worker_at}
use Rattle.rules.specs.Traces.{run_list}
use Rattle.rules.specs.Calls.{finished}
use Rattle.tree_scan.specs.Laws.Shape.{Shape}
use Rattle.tree_scan.specs.Laws.Frames.{end_at, size_at}
use Rattle.run_invariant.specs.Invariant.{log_of, self, pending, Invariant}
use Rattle.run_invariant.proofs.Laws.Weights.{span, end_within, span_weighs, span_out}
use Rattle.run_invariant.proofs.Laws.Moves.{pending_idle, none-stack}
use Rattle.run_invariant.proofs.Laws.Consequences.{finished_idle, finished_runs, runs_finished, log_leads}
use Rattle.replay_invariant.specs.Invariant.{Split}
use Rattle.replay_invariant.proofs.Laws.Order.{alone-none}
use Rattle.replay_invariant.proofs.Laws.Consequences.{list_parts, list_none, order_first, list_length}
use Rattle.agreement.specs.Agreement.{Leads, live_firsts}
use Rattle.agreement.proofs.Laws.Phases.{StepsBelow, same_length}

phase_first : (phs : List Phase) (k : ℕ) → (phase_at phs k).first ≡ get_or (map (λ ph. ph.first) phs) k 0
unfolding phase_at
phase_first phs k = sym (get_or-map (λ (ph : Phase). ph.first) phs k (record { worker = 0; first = 0; stolen = [] }))

module _ (p : ℕ) (ks : List ℕ) (some-step : 1 ≤ length ks) (sh : Shape (length ks) (end_at ks) (size_at ks)) (s : Run)
    (inv : Invariant p ks s) (split : Split p ks s.phases) where
  -- ---- phases and steps of the log

  pub log_steps : StepsBelow (length ks) s.log
  log_steps j h =
      omega (
        arith,
        inv.total (span ks j) (self j) (span_weighs ks sh j),
        span_out ks j 0 (λ l u. omega (arith, end_within ks sh 0 some-step)),
      )

  -- ---- phase by phase

  pub first_leads : (k : ℕ) → k < length s.phases
      → Leads (get_or (live_firsts s.steals) k 0 ∷ []) (log_of k (run_list p ks s.phases))
  unfolding live_firsts
  first_leads k h =
      let order = order_first p ks some-step sh s.phases split k h in
      let same : get_or (0 ∷ map (λ e. e.step) s.steals) k 0 ≡ (phase_at s.phases k).first =
      rw (← inv.begun_with) (sym (phase_first s.phases k)) in
      (order.0, rw same (sym order.1 ∙ sym (list_parts p ks s.phases k h)))

  pub log_leading : (k : ℕ) → Leads (log_of k s.log) (log_of k (run_list p ks s.phases))
  log_leading k =
      elim (dec_lt k (length s.phases)) [
        | yes h ↦ (_, log_leads p ks some-step sh s inv k h ∙ sym (list_parts p ks s.phases k h))
        | no n ↦ ([], rw (inv.logged k (omega arith), list_none p ks s.phases k (omega arith)) refl)
      ]

  -- All of it once every step has run, and only then.
  pub finished-whole : finished ks s ≡ true → (k : ℕ) → log_of k s.log ≡ log_of k (run_list p ks s.phases)
  finished-whole f k =
      elim (dec_lt k (length s.phases)) [
        | yes h ↦
            let w = (phase_at s.phases k).worker in
            let none : pending s k ≡ [] =
            pending_idle s k w refl (none-stack (worker_at s w) (finished_idle p ks some-step sh s inv f w)) in
            let all = rw (none, alone-none _ p ks _) at (log_leads p ks some-step sh s inv k h) in
            sym (append-nil (log_of k s.log)) ∙ (all ∙ sym (list_parts p ks s.phases k h))
        | no n ↦ rw (inv.logged k (omega arith), list_none p ks s.phases k (omega arith)) refl
      ]

  pub whole-finished : ((k : ℕ) → log_of k s.log ≡ log_of k (run_list p ks s.phases)) → finished ks s ≡ true
  whole-finished same =
      runs_finished p ks some-step sh s inv
      (same_length (length s.phases) s.log (run_list p ks s.phases) inv.logged (list_none p ks s.phases) same
      ∙ list_length p ks some-step sh s.phases split)

  pub finished_counts : finished ks s ≡ eqb (length s.log) (length ks)
  finished_counts =
      elim (ℕ_discrete (length s.log) (length ks)) [
        | yes e ↦ rw (eq-eqb (length s.log) (length ks) e) (runs_finished p ks some-step sh s inv e)
        | no n ↦ rw (ne_eqb (length s.log) (length ks) n) (by n (finished ks s) refl)
      ]
    where
      by : (length s.log ≡ length ks → ⊥) → (b : Bool) → finished ks s ≡ b → finished ks s ≡ false
      by n true f = absurd (n (finished_runs p ks some-step sh s inv f))
      by n false f = f
