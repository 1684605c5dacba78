-- One event: the state after one that the rules accept, and after one that they refuse; one more at the end of a list; what every event
-- leaves: the log, and who may run.
use Rattle.std.specs.Prelude.{ℕ, suc, ◌+◌, ◌≤◌, ◌<◌, ◌≡◌, cond, length, get_or}
use Rattle.std.proofs.Math.Path.{refl, ap}
use Rattle.std.proofs.Common.{◌∙◌, arith, length-append, eq-eqb, ne_eqb}
use mathlib.Core.List.{List, [], ◌∷◌, ◌++◌}
use Rattle.std.proofs.Math.Decide.{ℕ_discrete}
use Rattle.rules.specs.Scheduling.{Worker, Run, worker_at, is_run, judge_run, run_step, steal, judge_event, next_run}
use Rattle.rules.specs.Calls.{event_call, after_events}
use Rattle.run_invariant.proofs.Laws.Waiting.{free-accepted, stays_free}
use Rattle.run_invariant.proofs.Laws.Moves.{ran, run_is, ran_other, lightened, steal_other, steal-victim, run_held, run_free}
use Rattle.run_invariant.proofs.Laws.Moves.{second_within, event_runs}

module _ (p : ℕ) (ks : List ℕ) where
  pub event_next : (s : Run) (e : List ℕ) → judge_event ks s e ≡ 0 → (event_call p ks s e).state ≡ next_run p ks s e
  unfolding event_call
  event_next s e j = rw (eq-eqb (judge_event ks s e) 0 j) refl

  pub event_same : (s : Run) (e : List ℕ) → (judge_event ks s e ≡ 0 → ⊥) → (event_call p ks s e).state ≡ s
  unfolding event_call
  event_same s e n = rw (ne_eqb (judge_event ks s e) 0 n) refl

  -- As the last of a list.
  pub after_last : (es : List (List ℕ)) (s : Run) (e : List ℕ) → judge_event ks (after_events p ks s es) e ≡ 0
      → after_events p ks s (es ++ (e ∷ [])) ≡ next_run p ks (after_events p ks s es) e
  unfolding after_events
  after_last [] s e j = event_next s e j
  after_last (d ∷ es) s e j = after_last es (event_call p ks s d).state e j

  -- An accepted event runs one step or steals one.
  pub adds_one : (s : Run) (e : List ℕ) → judge_event ks s e ≡ 0
      → length (next_run p ks s e).log + length (next_run p ks s e).steals ≡ suc (length s.log + length s.steals)
  unfolding next_run is_run ran steal
  adds_one s e j =
      elim (ℕ_discrete (get_or e 0 0) (get_or e 1 0)) [
        | yes same ↦
            let held = run_held ks s (get_or e 0 0) (event_runs ks s e j same) in
            rw (eq-eqb (get_or e 0 0) (get_or e 1 0) same, run_is p ks s (get_or e 0 0) held.0 held.1, length-append) (omega arith)
        | no n ↦ rw (ne_eqb (get_or e 0 0) (get_or e 1 0) n, length-append) (omega arith)
      ]

  -- A run makes the log one longer, a steal leaves it.
  next_log : (s : Run) (e : List ℕ) → judge_event ks s e ≡ 0
      → length (next_run p ks s e).log ≡ length s.log + cond (is_run e) 1 0
  unfolding next_run is_run ran steal
  next_log s e fine =
      elim (ℕ_discrete (get_or e 0 0) (get_or e 1 0)) [
        | yes same ↦
            let held = run_held ks s (get_or e 0 0) (event_runs ks s e fine same) in
            rw (eq-eqb (get_or e 0 0) (get_or e 1 0) same, run_is p ks s (get_or e 0 0) held.0 held.1) (length-append s.log _)
        | no n ↦ rw (ne_eqb (get_or e 0 0) (get_or e 1 0) n) (omega arith)
      ]

  pub event_grows : (s : Run) (e : List ℕ) → length s.log ≤ length (event_call p ks s e).state.log
  event_grows s e =
      elim (ℕ_discrete (judge_event ks s e) 0) [
        | yes fine ↦ rw (event_next s e fine) (omega (arith, next_log s e fine))
        | no bad ↦ rw (event_same s e bad) (omega arith)
      ]

  -- A worker that may run still may after another worker's run, and after its steal: a victim keeps the step that it holds.
  run_leaves : (s : Run) (x u : ℕ) → judge_run ks s x ≡ 0 → (u ≡ x → ⊥) → judge_run ks s u ≡ 0 → judge_run ks (run_step p ks s x) u ≡ 0
  unfolding ran
  run_leaves s x u fine other free =
      let held = run_held ks s x fine in
      let own = run_held ks s u free in
      rw (run_is p ks s x held.0 held.1)
      (free-accepted ks (ran p ks s x held.0) u own.0
      (ap (λ (y : Worker). y.hand.held) (ran_other p ks s x held.0 u other) ∙ own.1)
      (stays_free ks s.log _ own.0 (run_free ks s u free own.0 own.1)))

  steal_leaves : (s : Run) (x v u : ℕ) → (x ≡ v → ⊥) → v < length s.workers → (u ≡ x → ⊥) → judge_run ks s u ≡ 0
      → judge_run ks (steal s x v) u ≡ 0
  unfolding steal lightened
  steal_leaves s x v u two within other free =
      let own = run_held ks s u free in
      free-accepted ks (steal s x v) u own.0 (kept ∙ own.1) (run_free ks s u free own.0 own.1)
    where
      kept : (worker_at (steal s x v) u).hand.held ≡ (worker_at s u).hand.held
      kept =
          elim (ℕ_discrete u v) [
            | yes robbed ↦ rw robbed (ap (λ (y : Worker). y.hand.held) (steal-victim s x v two within))
            | no apart ↦ ap (λ (y : Worker). y.hand.held) (steal_other s x v u other apart)
          ]

  next_leaves : (s : Run) (e : List ℕ) (u : ℕ) → judge_event ks s e ≡ 0 → (u ≡ get_or e 0 0 → ⊥) → judge_run ks s u ≡ 0
      → judge_run ks (next_run p ks s e) u ≡ 0
  unfolding next_run is_run
  next_leaves s e u fine other free =
      elim (ℕ_discrete (get_or e 0 0) (get_or e 1 0)) [
        | yes same ↦ rw (eq-eqb (get_or e 0 0) (get_or e 1 0) same)
            (run_leaves s (get_or e 0 0) u (event_runs ks s e fine same) other free)
        | no two ↦ rw (ne_eqb (get_or e 0 0) (get_or e 1 0) two)
            (steal_leaves s (get_or e 0 0) (get_or e 1 0) u two (second_within ks s e fine) other free)
      ]

  pub event_leaves : (s : Run) (e : List ℕ) (u : ℕ) → (u ≡ get_or e 0 0 → ⊥) → judge_run ks s u ≡ 0
      → judge_run ks (event_call p ks s e).state u ≡ 0
  event_leaves s e u other free =
      elim (ℕ_discrete (judge_event ks s e) 0) [
        | yes fine ↦ rw (event_next s e fine) (next_leaves s e u fine other free)
        | no bad ↦ rw (event_same s e bad) free
      ]
