-- Recording a list of events is folding single events: it goes as far as the first event that the rules refuse, is refused where
-- that stands, and what it accepts is short.
use Prim.Native.Nat.{ℕ, zero, suc, ◌+◌, ◌≤◌, ◌<◌}
use Rattle.std.specs.Prelude.{◌≡◌, length, take, drop, get_or}
use Rattle.std.proofs.Math.Path.{refl, ap}
use Rattle.std.proofs.Common.{◌∙◌, arith, take-suc}
use mathlib.Core.List.{List, []}
use Rattle.std.proofs.Math.Seq.{take-length}
use Rattle.rules.specs.Bytes.{accepted, Walked, walk}
use Rattle.rules.specs.Scheduling.{Run, start, judge_event, next_run}
use Rattle.rules.specs.Calls.{after_events, record_walk}
use Rattle.tree.specs.Laws.Walks.{walk_on, walk_stop, walk_end}
use Rattle.run_invariant.proofs.Laws.Events.{after_last, adds_one}

-- ---- the walk

module _ (w p : ℕ) (ks : List ℕ) (es : List (List ℕ)) where
  -- The rules accept each of the first k events where it stands.
  abbrev pub AcceptedTo : ℕ → Type 0
  AcceptedTo k = (i : ℕ) → i < k → judge_event ks (after_events p ks (start w) (take i es)) (get_or es i []) ≡ 0

  -- The state before event k.
  abbrev pub before : ℕ → Run
  before k = after_events p ks (start w) (take k es)

  before_next : (k : ℕ) → k < length es → judge_event ks (before k) (get_or es k []) ≡ 0
      → before (suc k) ≡ next_run p ks (before k) (get_or es k [])
  before_next k h j = rw (take-suc es k [] h) (after_last p ks (take k es) (start w) (get_or es k []) j)

  -- The walk goes past events that the rules accept, and its state is that of the single events.
  walks_on : (k : ℕ) → k ≤ length es → AcceptedTo k
      → record_walk w p ks es ≡ walk (judge_event ks) (next_run p ks) k (before k) (drop k es)
  unfolding record_walk after_events
  walks_on zero h fine = refl
  walks_on (suc k) h fine =
      let j = fine k (omega arith) in
      rw (before_next k h j)
      (walks_on k (omega arith) (λ i l. fine i (omega arith)) ∙ walk_on (judge_event ks) (next_run p ks) es [] k (before k) h j)

  pub walks_all : AcceptedTo (length es) → record_walk w p ks es ≡ record { verdict = accepted; state = after_events p ks (start w) es }
  walks_all fine =
      rw (take-length es)
      at (walks_on (length es) (omega arith) fine
      ∙ walk_end (judge_event ks) (next_run p ks) es [] (length es) (before (length es)) (omega arith))

  pub accepted_walks : AcceptedTo (length es) → (record_walk w p ks es).verdict.number ≡ 0
  unfolding accepted
  accepted_walks fine = ap (λ (x : Walked Run). x.verdict.number) (walks_all fine)

  -- The first event that the rules refuse is where the walk refuses.
  pub refused_walks : (k : ℕ) → k < length es → AcceptedTo k
      → (judge_event ks (after_events p ks (start w) (take k es)) (get_or es k []) ≡ 0 → ⊥)
      → (record_walk w p ks es).verdict
      ≡ record { number = judge_event ks (after_events p ks (start w) (take k es)) (get_or es k []); position = k }
  refused_walks k h fine bad =
      ap (λ (x : Walked Run). x.verdict)
      (walks_on k (omega arith) fine ∙ walk_stop (judge_event ks) (next_run p ks) es [] k (before k) h bad)

  -- Each accepted event is in the log or among the steals.
  pub counts : (k : ℕ) → k ≤ length es → AcceptedTo k → length (before k).log + length (before k).steals ≡ k
  unfolding after_events start
  counts zero h fine = refl
  counts (suc k) h fine =
      let j = fine k (omega arith) in
      rw (before_next k h j)
      (adds_one p ks (before k) (get_or es k []) j ∙ ap suc (counts k (omega arith) (λ i l. fine i (omega arith))))
