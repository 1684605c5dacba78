-- The invariant: so at the start, kept by each move, so true after every list of events, refused ones included.
use Prim.Native.Nat.{ℕ, zero, suc, ◌≤◌, ◌<◌}
use Rattle.std.specs.Prelude.{◌≡◌, false, take, get_or}
use Rattle.std.proofs.Math.Path.{refl, sym, ap}
use Rattle.std.proofs.Common.{◌∙◌, true≢false, eq-eqb, ne_eqb}
use mathlib.Core.List.{List, [], ◌∷◌, ◌++◌, drop_last}
use Rattle.std.proofs.Math.Option.{some}
use Rattle.std.proofs.Math.Decide.{ℕ_discrete}
use native.Mathlib.Omega.{arith}
use Rattle.std.proofs.Math.ListN.{length, length-append}
use Rattle.rules.specs.Bytes.{any, sum}
use Rattle.rules.specs.Scheduling.{after_run, Phase, first_phases, phase_at, Worker, Run, start, idle_worker, worker_at, has_run, waits}
use Rattle.rules.specs.Scheduling.{is_run, judge_run, run_step, holds_step, judge_steal, oldest, steal, judge_event, next_run}
use Rattle.rules.specs.Calls.{event_call, after_events}
use Rattle.tree_scan.specs.Laws.Shape.{Shape}
use Rattle.tree_scan.specs.Laws.Frames.{end_at, size_at}
use Rattle.run_invariant.specs.Invariant.{log_of, stack, pending, self, opening, Pushed, PhaseFacts, WorkerFacts, Invariant}
use Rattle.run_invariant.proofs.Laws.Phase.{phase_begins, phase_runs, phase_robbed, oldest_pushed, oldest_within}
use Rattle.run_invariant.proofs.Laws.Waiting.{waited-more}
use Rattle.run_invariant.proofs.Laws.Moves.{sum_one, sum_replicate, get_or_alike, map-one, length-drop_last, log_own, log_other}
use Rattle.run_invariant.proofs.Laws.Moves.{pending_latest, pending_past, pending_idle, pending_same, some_holds, some-stack}
use Rattle.run_invariant.proofs.Laws.Moves.{holds-some, none-stack, worker_facts, after_idle, after_deque, onward, ran}
use Rattle.run_invariant.proofs.Laws.Moves.{run_is, ran_here, ran_other, ran_sum, robbed, begin-length, begin_new}
use Rattle.run_invariant.proofs.Laws.Moves.{begin-robbed, begin_other, begin_same, begin-map, enriched, lightened}
use Rattle.run_invariant.proofs.Laws.Moves.{steal-thief, steal_other, steal-victim, steal-sum, thief_idle, victim-rich}
use Rattle.run_invariant.proofs.Laws.Moves.{first_within, second_within, run_held, run_free, event_runs, event_steals}
use Rattle.run_invariant.proofs.Laws.Moves.{rich-holds, held_facts}

-- The number of worker w's latest phase, its deque, and what would be stolen from it.
abbrev phase_of : Run → ℕ → ℕ
phase_of s w = (worker_at s w).phase

abbrev deque_of : Run → ℕ → List ℕ
deque_of s w = (worker_at s w).hand.deque

abbrev loot : Run → ℕ → ℕ
loot s w = oldest (deque_of s w)

phase_facts : {p : ℕ} {ks : List ℕ} {ph ph' : Phase} {log log' st st' : List ℕ} → ph ≡ ph' → log ≡ log' → st ≡ st'
    → PhaseFacts p ks ph' log' st' → PhaseFacts p ks ph log st
phase_facts a b c f = rw (a, b, c) f

module _ (p : ℕ) (ks : List ℕ) (some-step : 1 ≤ length ks) (sh : Shape (length ks) (end_at ks) (size_at ks)) where
  -- ---- the start

  start_workers : (n w : ℕ) → WorkerFacts (start (suc n)) w
  unfolding start worker_at holds_step phase_at first_phases idle_worker
  start_workers n zero = record { idle = λ e. absurd (true≢false e); phase = λ e. omega arith; own = λ e. refl }
  start_workers n (suc w) =
      worker_facts idle_worker (start (suc n)) (suc w) (get_or_alike n w idle_worker) (λ e. refl) (λ e. absurd (true≢false (sym e)))

  start-phases : (n k : ℕ) → k < length (start (suc n)).phases
      → PhaseFacts p ks (phase_at (start (suc n)).phases k) (log_of k (start (suc n)).log) (pending (start (suc n)) k)
  unfolding start worker_at phase_at first_phases log_of pending stack
  start-phases n zero h = phase_begins p ks sh 0 0 some-step
  start-phases n (suc k) h = absurd (omega arith)

  pub start_invariant : (w : ℕ) → 1 ≤ w → Invariant p ks (start w)
  unfolding start first_phases log_of sum stack idle_worker has_run any
  start_invariant zero h = absurd (omega arith)
  start_invariant (suc n) h =
      record {
        workers = start_workers n;
        phases = start-phases n;
        logged = λ k l. refl;
        begun_by = refl;
        begun_with = refl;
        spawned = λ k p l. absurd (omega arith);
        waited = λ q l f ran. absurd (true≢false (sym ran));
        total = λ whole each weighs. omega (arith, sum_replicate (λ x. sum whole (stack x.hand)) n idle_worker refl);
        taken = λ j. omega arith;
        pushed = omega (arith, sum_replicate (λ x. length x.hand.deque) n idle_worker refl);
      }

  -- ---- a worker that holds a step

  module _ (s : Run) (inv : Invariant p ks s) (w i : ℕ) (e : (worker_at s w).hand.held ≡ some i) where
    begun : phase_of s w < length s.phases
    begun = (inv.workers w).phase (some_holds (worker_at s w) i e)

    own : (phase_at s.phases (phase_of s w)).worker ≡ w
    own = (inv.workers w).own (some_holds (worker_at s w) i e)

    facts : PhaseFacts p ks (phase_at s.phases (phase_of s w)) (log_of (phase_of s w) s.log) (i ∷ deque_of s w)
    facts = held_facts p ks s inv w i e

    -- ---- it runs the step

    module _ (h : w < length s.workers) (free : waits ks s.log i ≡ false) where
      ran-workers : (x : ℕ) → WorkerFacts (ran p ks s w i) x
      unfolding ran onward
      ran-workers x =
          elim (ℕ_discrete x w) [
            | yes same ↦ rw same
                (worker_facts (onward p ks (worker_at s w) i) (ran p ks s w i) w (ran_here p ks s w i h)
                (after_idle p ks i (deque_of s w) (phase_of s w)) (λ g. (begun, own)))
            | no n ↦ worker_facts (worker_at s x) (ran p ks s w i) x (ran_other p ks s w i x n) (inv.workers x).idle
                (λ g. ((inv.workers x).phase g, (inv.workers x).own g))
          ]

      pending-ran : pending (ran p ks s w i) (phase_of s w) ≡ stack (after_run (λ x. false) p ks i (deque_of s w))
      unfolding ran onward
      pending-ran =
          let here = ran_here p ks s w i h in
          pending_latest (ran p ks s w i) (phase_of s w) w own (ap (λ (x : Worker). x.phase) here)
          ∙ ap (λ (x : Worker). stack x.hand) here

      -- Another phase of the same worker has nothing pending.
      pending-kept : (k : ℕ) → (k ≡ phase_of s w → ⊥) → pending (ran p ks s w i) k ≡ pending s k
      unfolding ran onward
      pending-kept k n =
          elim (ℕ_discrete (phase_at s.phases k).worker w) [
            | yes of ↦
                let still = ap (λ (x : Worker). x.phase) (ran_here p ks s w i h) in
                pending_past (ran p ks s w i) k w of (omega arith) ∙ sym (pending_past s k w of (omega arith))
            | no m ↦ pending_same s (ran p ks s w i) k refl (ran_other p ks s w i (phase_at s.phases k).worker m)
          ]

      ran-facts : PhaseFacts p ks (phase_at s.phases (phase_of s w)) (log_of (phase_of s w) s.log ++ (i ∷ []))
          (stack (after_run (λ x. false) p ks i (deque_of s w)))
      ran-facts = phase_runs p ks sh _ _ i (deque_of s w) facts

      ran-phases : (k : ℕ) → k < length s.phases
          → PhaseFacts p ks (phase_at s.phases k) (log_of k (ran p ks s w i).log) (pending (ran p ks s w i) k)
      unfolding ran
      ran-phases k l =
          elim (ℕ_discrete k (phase_of s w)) [
            | yes same ↦ rw same (phase_facts refl (log_own (phase_of s w) s.log _ refl) pending-ran ran-facts)
            | no n ↦ phase_facts refl (log_other k s.log _ (omega arith)) (pending-kept k n) (inv.phases k l)
          ]

      ran-keeps : Invariant p ks (ran p ks s w i)
      unfolding ran onward sum
      ran-keeps =
          record {
            workers = ran-workers;
            phases = ran-phases;
            logged = λ k l. log_other k s.log _ (omega (arith, begun)) ∙ inv.logged k l;
            begun_by = inv.begun_by;
            begun_with = inv.begun_with;
            spawned = inv.spawned;
            waited = waited-more ks sh s.log (record { phase = phase_of s w; step = i }) free inv.waited;
            -- The phase's cover, before and after, has what the step and its parts weigh.
            total = λ whole each weighs. omega (
              arith,
              inv.total whole each weighs,
              sum_one (λ x. each x.step) s.log (record { phase = phase_of s w; step = i }),
              ran_sum p ks s w i (λ x. sum whole (stack x.hand)) h,
              ap (λ (xs : List ℕ). sum whole xs) (some-stack (worker_at s w) i e),
              facts.cover whole each weighs,
              ran-facts.cover whole each weighs,
              sum_one each (log_of (phase_of s w) s.log) i,
            );
            taken = λ j. omega (
              arith,
              inv.taken j,
              sum_one (λ x. self j x.step) s.log (record { phase = phase_of s w; step = i }),
              ran_sum p ks s w i (λ x. sum (self j) (take 1 (stack x.hand))) h,
              ap (λ (xs : List ℕ). sum (self j) (take 1 xs)) (some-stack (worker_at s w) i e),
            );
            pushed = omega (
              arith,
              inv.pushed,
              sum_one (λ x. opening ks x.step) s.log (record { phase = phase_of s w; step = i }),
              ran_sum p ks s w i (λ x. length x.hand.deque) h,
              after_deque p ks i (deque_of s w),
            );
          }

    -- ---- worker t steals from it

    module _ (t : ℕ) (lt : t < length s.workers) (lw : w < length s.workers) (n : t ≡ w → ⊥)
        (idle : holds_step (worker_at s t) ≡ false) (rich : length (deque_of s w) ≡ 0 → ⊥) where
      longer : length (steal s t w).phases ≡ suc (length s.phases)
      unfolding steal
      longer = begin-length s.phases t (phase_of s w) (loot s w)

      same-worker : (k : ℕ) → k < length s.phases → (phase_at (steal s t w).phases k).worker ≡ (phase_at s.phases k).worker
      unfolding steal
      same-worker = begin_same s.phases t (phase_of s w) (loot s w) (λ ph. ph.worker) refl

      new-phase : phase_at (steal s t w).phases (length s.phases) ≡ record { worker = t; first = loot s w; stolen = [] }
      unfolding steal
      new-phase = begin_new s.phases t (phase_of s w) (loot s w)

      stolen-workers : (x : ℕ) → WorkerFacts (steal s t w) x
      unfolding enriched lightened holds_step
      stolen-workers x =
          elim (ℕ_discrete x t) [
            | yes same ↦ rw same
                (worker_facts (enriched s w) (steal s t w) t (steal-thief s t w lt) (λ f. absurd (true≢false f))
                (λ g. (omega (arith, longer), ap (λ (ph : Phase). ph.worker) new-phase)))
            | no a ↦ elim (ℕ_discrete x w) [
              | yes same ↦ rw same
                  (worker_facts (lightened (worker_at s w)) (steal s t w) w (steal-victim s t w n lw)
                  (λ f. absurd (true≢false (sym (some_holds (lightened (worker_at s w)) i e) ∙ f)))
                  (λ g. (omega (arith, longer, begun), same-worker (phase_of s w) begun ∙ own)))
              | no b ↦ worker_facts (worker_at s x) (steal s t w) x (steal_other s t w x a b) (inv.workers x).idle
                  (λ g.
                  let old = (inv.workers x).phase g in
                  (omega (arith, longer), same-worker (phase_of s x) old ∙ (inv.workers x).own g))
            ]
          ]

      pending-new : pending (steal s t w) (length s.phases) ≡ loot s w ∷ []
      unfolding enriched stack
      pending-new =
          let thief = steal-thief s t w lt in
          pending_latest (steal s t w) (length s.phases) t (ap (λ (ph : Phase). ph.worker) new-phase)
          (ap (λ (x : Worker). x.phase) thief)
          ∙ ap (λ (x : Worker). stack x.hand) thief

      pending-robbed : pending (steal s t w) (phase_of s w) ≡ i ∷ drop_last (deque_of s w)
      unfolding lightened
      pending-robbed =
          let victim = steal-victim s t w n lw in
          pending_latest (steal s t w) (phase_of s w) w (same-worker (phase_of s w) begun ∙ own)
          (ap (λ (x : Worker). x.phase) victim)
          ∙ ap (λ (x : Worker). stack x.hand) victim
          ∙ some-stack (lightened (worker_at s w)) i e

      -- An earlier phase of the thief's or the victim's has nothing pending.
      pending-left : (k : ℕ) → k < length s.phases → (k ≡ phase_of s w → ⊥) → pending (steal s t w) k ≡ pending s k
      unfolding enriched lightened
      pending-left k l m =
          let same = same-worker k l in
          elim (ℕ_discrete (phase_at s.phases k).worker t) [
            | yes of ↦
                let now = ap (λ (x : Worker). x.phase) (steal-thief s t w lt) in
                pending_past (steal s t w) k t (same ∙ of) (omega arith)
                ∙ sym (pending_idle s k t of (none-stack (worker_at s t) idle))
            | no a ↦ elim (ℕ_discrete (phase_at s.phases k).worker w) [
              | yes of ↦
                  let still = ap (λ (x : Worker). x.phase) (steal-victim s t w n lw) in
                  pending_past (steal s t w) k w (same ∙ of) (omega arith) ∙ sym (pending_past s k w of (omega arith))
              | no b ↦ pending_same s (steal s t w) k same (steal_other s t w (phase_at s.phases k).worker a b)
            ]
          ]

      robbed-facts : PhaseFacts p ks (robbed (phase_at s.phases (phase_of s w)) (loot s w)) (log_of (phase_of s w) s.log)
          (i ∷ drop_last (deque_of s w))
      robbed-facts = phase_robbed p ks sh (phase_at s.phases (phase_of s w)) _ i (deque_of s w) rich facts

      stolen-phases : (k : ℕ) → k < length (steal s t w).phases
          → PhaseFacts p ks (phase_at (steal s t w).phases k) (log_of k s.log) (pending (steal s t w) k)
      unfolding steal
      stolen-phases k l =
          elim (ℕ_discrete k (length s.phases)) [
            | yes same ↦ rw same
                (phase_facts new-phase (inv.logged (length s.phases) (omega arith)) pending-new
                (phase_begins p ks sh t (loot s w) (oldest_within p ks sh i (deque_of s w) rich facts.chain)))
            | no a ↦ elim (ℕ_discrete k (phase_of s w)) [
              | yes same ↦ rw same
                  (phase_facts (begin-robbed s.phases t (phase_of s w) (loot s w) begun) refl pending-robbed robbed-facts)
              | no b ↦
                  let old : k < length s.phases = omega (arith, longer) in
                  phase_facts (begin_other s.phases t (phase_of s w) (loot s w) k old b) refl (pending-left k old b)
                  (inv.phases k old)
            ]
          ]

      stolen-spawned : (k : ℕ) → 0 < k → k < length (steal s t w).phases → Pushed p ks (phase_at (steal s t w).phases k).first
      unfolding steal
      stolen-spawned k some-steal l =
          elim (ℕ_discrete k (length s.phases)) [
            | yes same ↦
                let first : (phase_at (steal s t w).phases k).first ≡ loot s w = rw same (ap (λ (ph : Phase). ph.first) new-phase) in
                rw first (oldest_pushed p ks sh i (deque_of s w) rich facts.chain)
            | no a ↦
                let old : k < length s.phases = omega (arith, longer) in
                rw (begin_same s.phases t (phase_of s w) (loot s w) (λ ph. ph.first) refl k old) (inv.spawned k some-steal old)
          ]

      stolen-keeps : Invariant p ks (steal s t w)
      unfolding steal sum stack enriched lightened
      stolen-keeps =
          record {
            workers = stolen-workers;
            phases = stolen-phases;
            logged = λ k l. inv.logged k (omega (arith, longer));
            begun_by = rw (begin-map s.phases t (phase_of s w) (loot s w) (λ x. x.worker) refl, inv.begun_by, map-one) refl;
            begun_with = rw (begin-map s.phases t (phase_of s w) (loot s w) (λ x. x.first) refl, inv.begun_with, map-one) refl;
            spawned = stolen-spawned;
            waited = inv.waited;
            total = λ whole each weighs. omega (
              arith,
              inv.total whole each weighs,
              steal-sum s t w n lw (λ x. sum whole (stack x.hand)) lt,
              ap (λ (xs : List ℕ). sum whole xs) (none-stack (worker_at s t) idle),
              ap (λ (xs : List ℕ). sum whole xs) (some-stack (worker_at s w) i e),
              ap (λ (xs : List ℕ). sum whole xs) (some-stack (lightened (worker_at s w)) i e),
              facts.cover whole each weighs,
              robbed-facts.cover whole each weighs,
              sum_one whole (phase_at s.phases (phase_of s w)).stolen (loot s w),
            );
            taken = λ j. omega (
              arith,
              inv.taken j,
              sum_one (λ x. self j x.step) s.steals (record { thief = t; victim = w; step = loot s w }),
              steal-sum s t w n lw (λ x. sum (self j) (take 1 (stack x.hand))) lt,
              ap (λ (xs : List ℕ). sum (self j) (take 1 xs)) (none-stack (worker_at s t) idle),
              ap (λ (xs : List ℕ). sum (self j) (take 1 xs)) (some-stack (worker_at s w) i e),
              ap (λ (xs : List ℕ). sum (self j) (take 1 xs)) (some-stack (lightened (worker_at s w)) i e),
            );
            pushed = omega (
              arith,
              inv.pushed,
              length-append s.steals (record { thief = t; victim = w; step = loot s w } ∷ []),
              steal-sum s t w n lw (λ x. length x.hand.deque) lt,
              ap (λ (xs : List ℕ). length xs) ((inv.workers t).idle idle),
              length-drop_last (deque_of s w) rich,
            );
          }

  pub run_keeps : (s : Run) → Invariant p ks s → (w : ℕ) → w < length s.workers → judge_run ks s w ≡ 0 → Invariant p ks (run_step p ks s w)
  run_keeps s inv w h j =
      let held = run_held ks s w j in
      rw (run_is p ks s w held.0 held.1) (ran-keeps s inv w held.0 held.1 h (run_free ks s w j held.0 held.1))

  pub steal_keeps : (s : Run) → Invariant p ks s → (thief victim : ℕ) → thief < length s.workers → victim < length s.workers
      → (thief ≡ victim → ⊥) → judge_steal s thief victim ≡ 0 → Invariant p ks (steal s thief victim)
  steal_keeps s inv thief victim t v n j =
      let rich = victim-rich s thief victim j in
      let held = holds-some (worker_at s victim) (rich-holds s victim (inv.workers victim) rich) in
      stolen-keeps s inv victim held.0 held.1 thief t v n (thief_idle s thief victim j) rich

  -- ---- events

  next_keeps : (s : Run) → Invariant p ks s → (e : List ℕ) → judge_event ks s e ≡ 0 → Invariant p ks (next_run p ks s e)
  unfolding next_run is_run
  next_keeps s inv e j =
      let first = first_within ks s e j in
      elim (ℕ_discrete (get_or e 0 0) (get_or e 1 0)) [
        | yes same ↦ rw (eq-eqb (get_or e 0 0) (get_or e 1 0) same) (run_keeps s inv (get_or e 0 0) first (event_runs ks s e j same))
        | no n ↦ rw (ne_eqb (get_or e 0 0) (get_or e 1 0) n)
            (steal_keeps s inv (get_or e 0 0) (get_or e 1 0) first (second_within ks s e j) n (event_steals ks s e j n))
      ]

  pub event_keeps : (s : Run) → Invariant p ks s → (e : List ℕ) → Invariant p ks (event_call p ks s e).state
  unfolding event_call
  event_keeps s inv e =
      elim (ℕ_discrete (judge_event ks s e) 0) [
        | yes j ↦ rw (eq-eqb (judge_event ks s e) 0 j) (next_keeps s inv e j)
        | no n ↦ rw (ne_eqb (judge_event ks s e) 0 n) inv
      ]

  pub events_keep : (s : Run) → Invariant p ks s → (es : List (List ℕ)) → Invariant p ks (after_events p ks s es)
  unfolding after_events
  events_keep s inv [] = inv
  events_keep s inv (e ∷ es) = events_keep (event_call p ks s e).state (event_keeps s inv e) es

  -- Whatever the scheduler does.
  pub always : (w : ℕ) → 1 ≤ w → (es : List (List ℕ)) → Invariant p ks (after_events p ks (start w) es)
  always w h es = events_keep (start w) (start_invariant w h) es
