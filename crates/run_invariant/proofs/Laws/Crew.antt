-- A run keeps as many workers as it began with: every accepted event does, and so does a recording.
use Rattle.std.specs.Prelude.{ℕ, ◌≡◌, List, get_or}
use Rattle.std.proofs.Common.{◌∙◌, eq-eqb, ne_eqb}
use Rattle.std.proofs.Math.Decide.{ℕ_discrete}
use Rattle.std.proofs.Math.ListN.{length, length-set}
use Rattle.std.proofs.lemmas.List.{length-replicate}
use Rattle.rules.specs.Scheduling.{Run, start, is_run, steal, judge_event, next_run}
use Rattle.rules.specs.Calls.{record_walk}
use Rattle.tree.specs.Laws.Walks.{walk_keeps}
use Rattle.run_invariant.proofs.Laws.Moves.{ran, run_is, run_held, event_runs}

module _ (w p : ℕ) (ks : List ℕ) where
  pub event_many : (r : Run) (e : List ℕ) → length r.workers ≡ w → judge_event ks r e ≡ 0 → length (next_run p ks r e).workers ≡ w
  unfolding next_run is_run steal ran
  event_many r e many fine =
      elim (ℕ_discrete (get_or e 0 0) (get_or e 1 0)) [
        | yes same ↦
            let held = run_held ks r (get_or e 0 0) (event_runs ks r e fine same) in
            rw (eq-eqb (get_or e 0 0) (get_or e 1 0) same, run_is p ks r (get_or e 0 0) held.0 held.1)
            (length-set r.workers (get_or e 0 0) _ ∙ many)
        | no n ↦ rw (ne_eqb (get_or e 0 0) (get_or e 1 0) n) (simp length-set many)
      ]

  pub start-many : length (start w).workers ≡ w
  unfolding start
  start-many = simp (length-set, length-replicate)

  -- A recording keeps the run's count.
  pub recorded-many : (es : List (List ℕ)) → length (record_walk w p ks es).state.workers ≡ w
  unfolding record_walk
  recorded-many es = walk_keeps (judge_event ks) (next_run p ks) (λ (r : Run). length r.workers ≡ w) event_many es 0 (start w) start-many
