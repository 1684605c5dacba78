-- What follows from the invariant, in document 01's words: no step runs twice, so n steps have at most n runs; there is at most a
-- steal for each spawned task; a run is finished when no worker holds a step; each phase goes on in the order in which it would run
-- alone, and its oldest pending step is its frontier's.
use Rattle.std.specs.Prelude.{ℕ, suc, pred, ◌+◌, ◌-◌, ◌/◌, ◌≤◌, ◌<◌, ◌≡◌, Bool, true, false, eqb, ltb}
use Rattle.std.proofs.Math.Path.{refl}
use Rattle.std.proofs.Common.{sym, ap, ◌∙◌, true≢false}
use mathlib.Core.List.{List, [], ◌∷◌, ◌++◌}
use Rattle.std.proofs.Math.Option.{Option, none, some}
use Rattle.std.proofs.Math.Decide.{ℕ_discrete}
use native.Mathlib.Omega.{arith}
use Rattle.std.proofs.Math.ListN.{length, take}
use Rattle.std.proofs.lemmas.List.{length-map}
use borrow.Author.Tests.{lt-ltb, le-ltb, ne_eqb}
use Rattle.rules.specs.Bytes.{any, sum}
use Rattle.rules.specs.Scheduling.{work_first, pop, Phase, phase_at, Worker, Entry, Steal, Run, idle_worker, worker_at, holds_step}
use Rattle.rules.specs.Scheduling.{has_run, oldest}
use Rattle.rules.specs.Traces.{last_stolen, frontier, run_alone, running_order}
use Rattle.rules.specs.Tree.{task_end, task}
use Rattle.rules.specs.Calls.{finished}
use Rattle.tree_scan.specs.Laws.Shape.{Shape, odd}
use Rattle.tree_scan.specs.Laws.Frames.{end_at, size_at, end_size}
use Rattle.tree_scan.specs.Laws.Places.{last_step}
use Rattle.run_invariant.specs.Invariant.{Weighs, self, opening, stack, log_of, pending, Chain, Chained, EndToEnd, frontier_end}
use Rattle.run_invariant.specs.Invariant.{PhaseFacts, Invariant}
use Rattle.run_invariant.proofs.Laws.Counts.{all_count, count_all, Has, has_head, has_cases, has_none, has_sum, all_members}
use Rattle.run_invariant.proofs.Laws.Counts.{no_members, kept_members, sum_ones, sum_at, sum_below, sum_none, any_sum}
use Rattle.run_invariant.proofs.Laws.Counts.{not_so}
use Rattle.run_invariant.proofs.Laws.Weights.{sum_append, span, openings, end_within, span_weighs, size_weighs}
use Rattle.run_invariant.proofs.Laws.Weights.{openings-weigh, span_most, span_in, span-inside, span-self, self_same}
use Rattle.run_invariant.proofs.Laws.Weights.{pushed_within}
use Rattle.run_invariant.proofs.Laws.Phase.{held_within, oldest_within}
use Rattle.run_invariant.proofs.Laws.Moves.{some-stack, holds-some, none-stack, rich-holds, held_facts}

-- ---- steps that have run

-- A step has run where its count in the log is not 0.
pub run_counts : (log : List Entry) (j : ℕ) → has_run log j ≡ ltb 0 (sum (λ e. self j e.step) log)
unfolding has_run self
run_counts log j = any_sum (λ e. eqb e.step j) log

-- ---- one phase

module _ (p : ℕ) (ks : List ℕ) (sh : Shape (length ks) (end_at ks) (size_at ks)) where
  -- Pending steps are steps of the tree.
  deque_within : (r : List ℕ) (x : ℕ) → Chain p ks x r → (y : ℕ) → Has r y → y < length ks
  deque_within [] x c y m = has_none y m
  deque_within (s ∷ r) x c y m =
      has_cases y s r m (λ e. rw e (pushed_within ks sh p s (c.0, held_within p ks sh c.0 r c.5, c.2, c.1)))
      (deque_within r c.0 c.5 y)

  stack_within : (l : List ℕ) → Chained p ks l → (y : ℕ) → Has l y → y < length ks
  stack_within [] c y m = has_none y m
  stack_within (x ∷ r) c y m = has_cases y x r m (λ e. omega (arith, held_within p ks sh x r c)) (deque_within r x c y)

  -- A step is in the part from it, so a held one is in its stack's parts.
  self-inside : (j x : ℕ) → x < length ks → self j x ≤ span ks j x
  unfolding self
  self-inside j x h =
      elim (ℕ_discrete x j) [
        | yes e ↦ rw (← e) (omega (arith, self_same x, span-self ks sh x h))
        | no n ↦ rw (ne_eqb x j n) (omega arith)
      ]

  held-inside : (j : ℕ) (l : List ℕ) → Chained p ks l → sum (self j) (take 1 l) ≤ sum (span ks j) l
  unfolding sum
  held-inside j [] c = omega arith
  held-inside j (x ∷ r) c = omega (arith, self-inside j x (held_within p ks sh x r c))

  -- The last step before the end of a step's task is in that task.
  end_task : (x : ℕ) → x < length ks → task ks (pred (task_end ks x)) ≡ task ks x
  end_task x h = rw (end_size ks sh x h) (last_step ks sh x h).1

  frontier-task : (ph : Phase) → ph.first < length ks → task ks (pred (frontier_end ks ph)) ≡ frontier ks ph
  unfolding frontier_end frontier
  frontier-task ph h = by (last_stolen ph.stolen) refl
    where
      by : (o : Option ℕ) → last_stolen ph.stolen ≡ o → task ks (pred (frontier_end ks ph)) ≡ frontier ks ph
      by none e = rw (e, frontier_end, frontier) (end_task ph.first h)
      by (some t) e = rw (e, frontier_end, frontier) refl

  -- The oldest pending step's task ends at the frontier.
  ends_oldest : (y : ℕ) (r : List ℕ) (e : ℕ) → EndToEnd ks (y ∷ r) e → task_end ks (oldest (y ∷ r)) ≡ e
  unfolding oldest
  ends_oldest y [] e t = t
  ends_oldest y (z ∷ r) e t = ends_oldest z r e t.1

  oldest-task : (ph : Phase) (log : List ℕ) (i : ℕ) (deque : List ℕ) → PhaseFacts p ks ph log (i ∷ deque) → p ≡ work_first
      → (length deque ≡ 0 → ⊥) → task ks (oldest deque) ≡ frontier ks ph
  oldest-task ph log i [] f e n = absurd (n refl)
  oldest-task ph log i (y ∷ r) f e n =
      let end = ends_oldest y r (frontier_end ks ph) (f.frontier e).1 in
      sym (end_task (oldest (y ∷ r)) (oldest_within p ks sh i (y ∷ r) n f.chain))
      ∙ (ap (λ (x : ℕ). task ks (pred x)) end ∙ frontier-task ph f.begins)

  -- What a phase has run, and what it has pending, is not stolen from it.
  module _ (ph : Phase) (log stack : List ℕ) (f : PhaseFacts p ks ph log stack) where
    gone : ℕ → Bool
    gone x = any (eqb x) ph.stolen

    unstolen : (x : ℕ) → 1 ≤ sum (self x) log + sum (span ks x) stack → gone x ≡ false
    unfolding gone
    unstolen x h =
        not_so (any (eqb x) ph.stolen) (λ m.
        let parts = f.cover (span ks x) (self x) (span_weighs ks sh x) in
        let before = span-inside ks x ph.first (omega arith) in
        let within = end_within ks sh ph.first f.begins in
        omega (arith, has_sum (span ks x) x ph.stolen m, span-self ks sh x (omega arith), span_most ks x ph.first))

    run-or-held : (x : ℕ) → Has (log ++ take 1 stack) x → gone x ≡ false
    run-or-held x m =
        unstolen x
        (omega (
          arith,
          has_sum (self x) x (log ++ take 1 stack) m,
          self_same x,
          sum_append (self x) log (take 1 stack),
          held-inside x stack f.chain,
        ))

    queued : (x : ℕ) → Has stack x → gone x ≡ false
    queued x m = unstolen x (omega (arith, has_sum (span ks x) x stack m, span-self ks sh x (stack_within stack f.chain x m)))

    goes_on : log ++ run_alone (λ x. any (eqb x) ph.stolen) p ks (length ks - length log) (pop stack) ≡ running_order p ks ph
    unfolding gone running_order
    goes_on =
        rw (kept_members gone stack queued) at
        (f.order gone (all_members gone ph.stolen (λ x m. m)) (no_members gone (log ++ take 1 stack) run-or-held))

-- ---- the run

module _ (p : ℕ) (ks : List ℕ) (some-step : 1 ≤ length ks) (sh : Shape (length ks) (end_at ks) (size_at ks))
    (s : Run) (inv : Invariant p ks s) where
  chained : (w : ℕ) → Chained p ks (stack (worker_at s w).hand)
  chained w = by (holds_step (worker_at s w)) refl
    where
      by : (b : Bool) → holds_step (worker_at s w) ≡ b → Chained p ks (stack (worker_at s w).hand)
      by true h =
          let held = holds-some (worker_at s w) h in
          rw (some-stack (worker_at s w) held.0 held.1) (held_facts p ks s inv w held.0 held.1).chain
      by false h = rw (none-stack (worker_at s w) h) (omega arith)

  pending_within : (w x : ℕ) → Has (stack (worker_at s w).hand) x → x < length ks
  pending_within w x m = stack_within p ks sh (stack (worker_at s w).hand) (chained w) x m

  -- What has run and the part from a pending step are within the tree, and are all of it when no worker holds a step.
  pending_weighs : (w x : ℕ) → Has (stack (worker_at s w).hand) x → (whole each : ℕ → ℕ) → Weighs ks whole each
      → sum (λ e. each e.step) s.log + whole x ≤ whole 0
  unfolding worker_at idle_worker stack sum
  pending_weighs w x m whole each v =
      omega (
        arith,
        inv.total whole each v,
        has_sum whole x (stack (worker_at s w).hand) m,
        sum_at (λ (u : Worker). sum whole (stack u.hand)) idle_worker refl s.workers w,
      )

  idle_by : (w : ℕ) → ((x : ℕ) → Has (stack (worker_at s w).hand) x → ⊥) → holds_step (worker_at s w) ≡ false
  idle_by w n =
      not_so (holds_step (worker_at s w)) (λ h.
      let held = holds-some (worker_at s w) h in
      n held.0 (rw (some-stack (worker_at s w) held.0 held.1) (has_head held.0 (worker_at s w).hand.deque)))

  idle_weighs : ((w : ℕ) → holds_step (worker_at s w) ≡ false) → (whole each : ℕ → ℕ) → Weighs ks whole each
      → sum (λ e. each e.step) s.log ≡ whole 0
  unfolding worker_at sum
  idle_weighs f whole each v =
      omega (
        arith,
        inv.total whole each v,
        sum_none (λ (u : Worker). sum whole (stack u.hand)) idle_worker s.workers
            (λ w. rw (none-stack (worker_at s w) (f w)) refl),
      )

  -- A step that is held, or is in a deque, has not run.
  pub pending_unrun : (w x : ℕ) → Has (stack (worker_at s w).hand) x → has_run s.log x ≡ false
  pending_unrun w x m =
      run_counts s.log x
      ∙ le-ltb 0 (sum (λ e. self x e.step) s.log)
      (omega (
        arith,
        pending_weighs w x m (span ks x) (self x) (span_weighs ks sh x),
        span_most ks x 0,
        span-self ks sh x (pending_within w x m),
      ))

  -- Cover, step by step: what is in the part from a phase's first step has run once in it, or is in the part from one of its
  -- pending steps, or in one part stolen from it.
  pub covered_once : (k : ℕ) → k < length s.phases → (j : ℕ)
      → sum (self j) (log_of k s.log) + sum (span ks j) (pending s k) + sum (span ks j) (phase_at s.phases k).stolen
      ≡ span ks j (phase_at s.phases k).first
  covered_once k h j = (inv.phases k h).cover (span ks j) (self j) (span_weighs ks sh j)

  -- No step runs twice, and at most n do.
  pub run_once : (j : ℕ) → sum (λ e. self j e.step) s.log ≤ 1
  run_once j = omega (arith, inv.total (span ks j) (self j) (span_weighs ks sh j), span_most ks j 0)

  pub runs_most : length s.log ≤ length ks
  runs_most = omega (arith, inv.total (size_at ks) (λ i. 1) (size_weighs ks sh), sum_ones s.log, sh.whole)

  -- No step is stolen twice. Every stolen step is the one that an opening step pushed (`spawned`), so there is at most one steal
  -- for each spawned task: (n - 1) / 2 in all.
  pub steal_once : (j : ℕ) → sum (λ e. self j e.step) s.steals ≤ 1
  unfolding worker_at
  steal_once j =
      omega (
        arith,
        inv.taken j,
        inv.total (span ks j) (self j) (span_weighs ks sh j),
        span_most ks j 0,
        sum_below (λ (u : Worker). sum (self j) (take 1 (stack u.hand))) (λ (u : Worker). sum (span ks j) (stack u.hand))
            idle_worker s.workers (λ w. held-inside p ks sh j (stack (worker_at s w).hand) (chained w)),
      )

  pushed_most : length s.steals + sum (λ (u : Worker). length u.hand.deque) s.workers ≤ (length ks - 1) / 2
  unfolding openings
  pushed_most =
      omega (arith, inv.pushed, inv.total (openings ks) (opening ks) (openings-weigh ks sh), sh.whole, (odd sh 0 some-step).1)

  pub steals_most : length s.steals ≤ (length ks - 1) / 2
  steals_most = omega (arith, pushed_most)

  -- A deque has no more steps than there are spawned tasks.
  pub deque_most : (w : ℕ) → length (worker_at s w).hand.deque ≤ (length ks - 1) / 2
  unfolding worker_at idle_worker
  deque_most w =
      omega (arith, pushed_most, sum_at (λ (u : Worker). length u.hand.deque) idle_worker refl s.workers w)

  pub phases-count : length s.phases ≡ suc (length s.steals)
  phases-count =
      omega (
        arith,
        length-map s.phases (λ (ph : Phase). ph.worker),
        ap (λ (l : List ℕ). length l) inv.begun_by,
        length-map s.steals (λ (e : Steal). e.thief),
      )

  -- "Whether every step has run": exactly when n steps have, and exactly when all workers are idle.
  pub finished_idle : finished ks s ≡ true → (w : ℕ) → holds_step (worker_at s w) ≡ false
  unfolding finished
  finished_idle f w =
      idle_by w
      (λ x m.
      let ran = all_count (has_run s.log) (length ks) 0 f x (omega arith) (omega (arith, pending_within w x m)) in
      absurd (true≢false (sym ran ∙ pending_unrun w x m)))

  pub idle_finished : ((w : ℕ) → holds_step (worker_at s w) ≡ false) → finished ks s ≡ true
  unfolding finished
  idle_finished f =
      count_all (has_run s.log) (length ks) 0
      (λ j l u.
      run_counts s.log j
      ∙ lt-ltb 0 (sum (λ e. self j e.step) s.log)
      (omega (
        arith,
        idle_weighs f (span ks j) (self j) (span_weighs ks sh j),
        span_in ks j 0 l (omega (arith, end_size ks sh 0 some-step, sh.whole)),
      )))

  pub finished_runs : finished ks s ≡ true → length s.log ≡ length ks
  finished_runs f =
      omega (arith, idle_weighs (finished_idle f) (size_at ks) (λ i. 1) (size_weighs ks sh), sum_ones s.log, sh.whole)

  pub runs_finished : length s.log ≡ length ks → finished ks s ≡ true
  runs_finished e =
      idle_finished
      (λ w. idle_by w
      (λ x m.
      omega (
        arith,
        pending_weighs w x m (size_at ks) (λ i. 1) (size_weighs ks sh),
        sum_ones s.log,
        sh.whole,
        (sh.at x (pending_within w x m)).some,
      )))

  -- The log of a phase, and then what the phase would run alone from its pending steps, is its running order.
  pub log_leads : (k : ℕ) → k < length s.phases
      → log_of k s.log
      ++ run_alone (λ x. any (eqb x) (phase_at s.phases k).stolen) p ks (length ks - length (log_of k s.log)) (pop (pending s k))
      ≡ running_order p ks (phase_at s.phases k)
  log_leads k h = goes_on p ks sh (phase_at s.phases k) (log_of k s.log) (pending s k) (inv.phases k h)

  -- Work-first: the oldest step of a deque is in its phase's frontier task.
  pub oldest-frontier : p ≡ work_first → (w : ℕ) → (length (worker_at s w).hand.deque ≡ 0 → ⊥)
      → task ks (oldest (worker_at s w).hand.deque) ≡ frontier ks (phase_at s.phases (worker_at s w).phase)
  oldest-frontier e w n =
      let held = holds-some (worker_at s w) (rich-holds s w (inv.workers w) n) in
      oldest-task p ks sh (phase_at s.phases (worker_at s w).phase) (log_of (worker_at s w).phase s.log) held.0
      (worker_at s w).hand.deque (held_facts p ks s inv w held.0 held.1) e n
