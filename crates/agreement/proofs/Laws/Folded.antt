-- A whole list of events by the first that the rules refuse: recording accepts up to there, and answers what single events lead to.
use Prim.Native.Nat.{ℕ, zero, suc, ◌+◌, ◌-◌, ◌/◌, ◌≤◌, ◌<◌}
use Rattle.std.specs.Prelude.{◌≡◌, ◌⊎◌, length, take, get_or}
use Rattle.std.proofs.Math.Path.{refl, ap}
use Rattle.std.proofs.Common.{inl, inr, ⊎_elim, arith}
use mathlib.Core.List.{List, []}
use Rattle.std.proofs.Math.Decide.{ℕ_discrete}
use Rattle.rules.specs.Bytes.{records, Walked}
use Rattle.rules.specs.Tree.{kinds}
use Rattle.rules.specs.Scheduling.{Run, start, judge_event}
use Rattle.rules.specs.Calls.{after_events, record_walk, record_of, record_verdict, record_call}
use Rattle.tree_scan.specs.Laws.Starts.{start-tree-accepts, start_workers}
use Rattle.tree_scan.specs.Laws.Frames.{accepted-frame}
use Rattle.run_invariant.proofs.Laws.Always.{always}
use Rattle.run_invariant.proofs.Laws.Consequences.{runs_most, steals_most}
use Rattle.record.specs.Laws.Cases.{accepts-both, by-accepted}
use Rattle.agreement.proofs.Laws.Folds.{AcceptedTo, before, walks_all, accepted_walks, refused_walks, counts}

-- ---- the walk, by its verdict

module _ (w p : ℕ) (ks : List ℕ) (es : List (List ℕ)) where
  -- Event k is the first that the rules refuse.
  abbrev FirstRefused : ℕ → Type 0
  FirstRefused k = (k < length es) × AcceptedTo w p ks es k × (judge_event ks (before w p ks es k) (get_or es k []) ≡ 0 → ⊥)

  -- The rules accept each of the first k events, or there is a first that they refuse.
  either : (k : ℕ) → k ≤ length es → AcceptedTo w p ks es k ⊎ ((i : ℕ) × FirstRefused i)
  either zero h = inl (λ i l. absurd (omega arith))
  either (suc k) h = ⊎_elim more inr (either k (omega arith))
    where
      more : AcceptedTo w p ks es k → AcceptedTo w p ks es (suc k) ⊎ ((i : ℕ) × FirstRefused i)
      more fine =
          elim (ℕ_discrete (judge_event ks (before w p ks es k) (get_or es k [])) 0) [
            | yes j ↦ inl (λ i l. elim (ℕ_discrete i k) [ yes same ↦ rw same j | no n ↦ fine i (omega arith) ])
            | no n ↦ inr (k, (h, fine, n))
          ]

  -- Conversely, where the walk accepts, it ends as the single events do, and the rules accept each event.
  pub walk_folds : (record_walk w p ks es).verdict.number ≡ 0
      → ((record_walk w p ks es).state ≡ after_events p ks (start w) es) × AcceptedTo w p ks es (length es)
  walk_folds e =
      ⊎_elim (λ fine. (ap (λ (x : Walked Run). x.state) (walks_all w p ks es fine), fine))
      (λ r. absurd (r.1.2 (rw (refused_walks w p ks es r.0 r.1.0 r.1.1 r.1.2) at e))) (either (length es) (omega arith))

  -- Where it refuses, it does so at the first event that the rules refuse, with their number.
  pub walk_refuses : ((record_walk w p ks es).verdict.number ≡ 0 → ⊥)
      → ((record_walk w p ks es).verdict.position < length es)
      × AcceptedTo w p ks es (record_walk w p ks es).verdict.position
      × (judge_event ks (after_events p ks (start w) (take (record_walk w p ks es).verdict.position es))
      (get_or es (record_walk w p ks es).verdict.position []) ≡ (record_walk w p ks es).verdict.number)
  walk_refuses n =
      ⊎_elim (λ fine. absurd (n (accepted_walks w p ks es fine)))
      (λ r. rw (refused_walks w p ks es r.0 r.1.0 r.1.1 r.1.2) (r.1.0, r.1.1, refl)) (either (length es) (omega arith))

-- ---- whole calls

-- The events of an accepted call.
pub folded : (w p : ℕ) (tree events log trace : List ℕ) → (record_verdict w p tree events log trace).number ≡ 0
    → ((record_walk w p (kinds tree) (records 2 events)).state ≡ after_events p (kinds tree) (start w) (records 2 events))
    × AcceptedTo w p (kinds tree) (records 2 events) (length (records 2 events))
folded w p tree events log trace e = walk_folds w p (kinds tree) (records 2 events) (accepts-both w p tree events log trace e).1

-- An accepted call answers what the single events lead to.
pub record_folds : (w p : ℕ) (tree events log trace : List ℕ) → (record_verdict w p tree events log trace).number ≡ 0
    → record_call w p tree events log trace ≡ record_of p tree (after_events p (kinds tree) (start w) (records 2 events)) log trace
record_folds w p tree events log trace e =
    rw (← by-accepted w p tree events log trace e, (folded w p tree events log trace e).0) refl

-- An accepted list has at most n runs and (n - 1) / 2 steals.
pub accepted_most : (w p : ℕ) (tree events log trace : List ℕ) → (record_verdict w p tree events log trace).number ≡ 0
    → length (records 2 events) ≤ length (kinds tree) + (length (kinds tree) - 1) / 2
accepted_most w p tree events log trace e =
    let starts = (accepts-both w p tree events log trace e).0 in
    let frame = accepted-frame tree (start-tree-accepts w p tree starts) in
    let es = records 2 events in
    let run = after_events p (kinds tree) (start w) (take (length es) es) in
    let inv = always p (kinds tree) frame.some frame.shape w (start_workers w p tree starts).0 (take (length es) es) in
    omega (
      arith,
      counts w p (kinds tree) es (length es) (omega arith) (folded w p tree events log trace e).1,
      runs_most p (kinds tree) frame.some frame.shape run inv,
      steals_most p (kinds tree) frame.some frame.shape run inv,
    )
