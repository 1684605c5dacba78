-- A worker whose held step is not its `low` never waits: so at the start, and kept by every run and steal.
use Rattle.std.specs.Prelude.{ℕ, zero, suc, ◌+◌, ◌≤◌, ◌<◌, ◌≡◌, Bool, cond, length, get_or, set, replicate}
use Rattle.std.proofs.Math.Path.{refl, sym, ap}
use Rattle.std.proofs.Common.{◌∙◌, get_or-set_other}
use Rattle.std.proofs.Math.Bool.{true, false}
use mathlib.Core.List.{List, [], ◌∷◌, ◌++◌, map}
use Rattle.std.proofs.Math.Option.{Option, none, some, none-ne-some}
use Rattle.std.proofs.Math.Decide.{ℕ_discrete, dec_le}
use native.Mathlib.Omega.{arith}
use Rattle.std.proofs.Math.ListN.{length-set}
use Rattle.std.proofs.Math.Seq.{get_or-set_same}
use Rattle.std.proofs.Math.Dec.{eqb}
use borrow.Author.Tests.{ne_eqb, eqb-true, lt-ltb}
use Rattle.rules.specs.Bytes.{any, sum}
use Rattle.rules.specs.Tree.{kind_at, is_async, is_finish, is_end, cont}
use Rattle.rules.specs.Scheduling.{most_workers, help_first, pushes_child, holds, pushes, pop, after_run, Phase, phase_at, first_phases}
use Rattle.rules.specs.Scheduling.{Worker, Entry, Run, idle_worker, start, worker_at, has_run, waits, oldest, steal}
use Rattle.tree_scan.specs.Laws.Shape.{Shape}
use Rattle.tree_scan.specs.Laws.Frames.{end_at, size_at}
use Rattle.run_invariant.specs.Invariant.{self, log_of, stack, PhaseFacts, Invariant}
use Rattle.run_invariant.proofs.Laws.Counts.{and_both, Has, has_head, has_tail, has_cases, has_none, any_one}
use Rattle.run_invariant.proofs.Laws.Weights.{span, self_same, span_weighs, span_most, span_in, span-inside, span_out, span-self}
use Rattle.run_invariant.proofs.Laws.Weights.{cont-inside, pushes_either, nested_end, child_shared}
use Rattle.run_invariant.proofs.Laws.Waiting.{waits_no_longer, child_never_waits, async_never_waits, stays_free}
use Rattle.run_invariant.proofs.Laws.Phase.{phase_runs, after-ended, after_kept}
use Rattle.run_invariant.proofs.Laws.Moves.{sum_one, get_or_alike, log_own, some_holds, held_facts, onward, ran, ran_here, ran_other}
use Rattle.run_invariant.proofs.Laws.Moves.{begin_new, begin-robbed, begin_other, enriched, lightened, steal-thief, steal_other}
use Rattle.run_invariant.proofs.Laws.Moves.{steal-victim}
use Rattle.run_invariant.proofs.Laws.Consequences.{run_counts}
use Rattle.run_spec.specs.Running.{waits_for}
use Rattle.run_spec.specs.Moves.{Fields}
use Rattle.run_refinement.specs.Tie.{Line, PushedBelow, Ready, AllReady, Shows}
use Rattle.run_refinement.proofs.Laws.Scans.{waits-shown}
use Rattle.run_refinement.proofs.Laws.Hands.{line_low, line_step}

-- ---- the parts from steps pushed below an opening step

module _ (p : ℕ) (ks : List ℕ) (sh : Shape (length ks) (end_at ks) (size_at ks)) where
  -- Step q opens a child. Where no part of a list from a step pushed below q has the continuation, none has a step of the child.
  module _ (q : ℕ) (h : q < length ks) (opens : is_end (kind_at ks q) ≡ false) (j : ℕ) (past : q < j) (before : j < cont ks q) where
    child-missed : (l : List ℕ) → ((y : ℕ) → Has l y → PushedBelow p ks q y) → sum (span ks (cont ks q)) l ≡ 0 → sum (span ks j) l ≡ 0
    unfolding sum
    child-missed [] below z = refl
    child-missed (y ∷ l) below z =
        let by = below y (has_head y l) in
        elim (dec_le 1 (span ks j y)) [
          | yes has ↦ absurd (omega (arith, child_shared ks sh p q by.0 y j h opens by.1 by.2 past before has))
          | no n ↦ omega (arith, child-missed l (λ x m. below x (has_tail x y l m)) (omega arith))
        ]

  -- The steps of a deque were pushed below the held step.
  line-below : (low : ℕ) (qs : List ℕ) (x : ℕ) → Line ks low x qs → (y : ℕ) → Has (map (pushes p ks) qs) y → PushedBelow p ks x y
  line-below low [] x l y m = has_none y m
  line-below low (q ∷ qs) x l y m =
      has_cases y (pushes p ks q) (map (pushes p ks) qs) m (λ e. (q, l.1, e))
      (λ t. let below = line-below low qs q l.3 y t in (below.0, omega (arith, below.1, l.1), below.2))

  -- A phase has run step i and pops the continuation of step q, whose part has i. All of q's child has run: the phase covers it,
  -- and no part that is pending or stolen has a step of it.
  module _ (ph : Phase) (log : List ℕ) (i q low : ℕ) (qs : List ℕ) (opens : is_end (kind_at ks q) ≡ false) (past : q < i)
      (line : Line ks low q qs) (stolen : (y : ℕ) → Has ph.stolen y → PushedBelow p ks low y)
      (f : PhaseFacts p ks ph (log ++ (i ∷ [])) (cont ks q ∷ map (pushes p ks) qs)) where
    within : q < length ks
    within = line_step ks sh low qs q line

    covered : (j : ℕ)
        → sum (self j) (log ++ (i ∷ [])) + (span ks j (cont ks q) + sum (span ks j) (map (pushes p ks) qs)) + sum (span ks j) ph.stolen
        ≡ span ks j ph.first
    unfolding sum
    covered j = f.cover (span ks j) (self j) (span_weighs ks sh j)

    next-own : span ks (cont ks q) (cont ks q) ≡ 1
    next-own = span-self ks sh (cont ks q) (cont-inside ks sh q within opens).1

    -- The phase begins before the child.
    begins-before : ph.first ≤ q
    unfolding cont
    begins-before =
        let here : 1 ≤ sum (self i) (log ++ (i ∷ [])) = omega (arith, sum_one (self i) log i, self_same i) in
        let ran = span-inside ks i ph.first (omega (arith, covered i)) in
        let next = span-inside ks (cont ks q) ph.first (omega (arith, covered (cont ks q), next-own)) in
        elim (dec_le ph.first q) [
          | yes l ↦ l
          | no n ↦ elim (ℕ_discrete ph.first (cont ks q)) [
            | yes e ↦ absurd (omega (arith, covered i, ap (span ks i) e, span_most ks i ph.first))
            | no m ↦ absurd (omega (
              arith,
              nested_end ks sh (suc q) ph.first (omega (arith, cont-inside ks sh q within opens))
                  (omega arith) (omega arith),
            ))
          ]
        ]

    child-run : (j : ℕ) → q < j → j < cont ks q → 1 ≤ sum (self j) (log ++ (i ∷ []))
    child-run j l u =
        let next = covered (cont ks q) in
        let single = span_most ks (cont ks q) ph.first in
        let first = span-inside ks (cont ks q) ph.first (omega (arith, next-own)) in
        omega (
          arith,
          covered j,
          span_in ks j ph.first (omega (arith, begins-before)) (omega arith),
          span_out ks j (cont ks q) (λ a b. omega arith),
          child-missed q within opens j l u (map (pushes p ks) qs) (line-below low qs q line) (omega (arith, next-own)),
          child-missed q within opens j l u ph.stolen
              (λ y m. let below = stolen y m in (below.0, omega (arith, below.1, line_low ks low qs q line), below.2))
              (omega (arith, next-own)),
        )

-- ---- waiting

-- What a phase has run has run.
logged_most : (k j : ℕ) (log : List Entry) → sum (self j) (log_of k log) ≤ sum (λ e. self j e.step) log
unfolding log_of sum
logged_most k j [] = omega arith
logged_most k j (e ∷ log) =
    elim (eqb e.phase k) as
    (λ b. sum (self j) (cond b (e.step ∷ log_of k log) (log_of k log)) ≤ self j e.step + sum (λ x. self j x.step) log)
    [ true ↦ omega (arith, logged_most k j log) | false ↦ omega (arith, logged_most k j log) ]

logged_run : (k j : ℕ) (log : List Entry) → 1 ≤ sum (self j) (log_of k log) → has_run log j ≡ true
logged_run k j log some-time =
    run_counts log j ∙ lt-ltb 0 (sum (λ e. self j e.step) log) (omega (arith, logged_most k j log))

-- Step q opens a task. What it leaves held never waits; what it pushes waits for a finish child at most.
module _ (p : ℕ) (ks : List ℕ) (sh : Shape (length ks) (end_at ks) (size_at ks)) (log : List Entry) (q : ℕ) (h : q < length ks)
    (opens : is_end (kind_at ks q) ≡ false) where
  holds-free : waits ks log (holds p ks q) ≡ false
  unfolding holds pushes_child is_async is_finish end_at
  holds-free = by (pushes_child p (kind_at ks q)) refl
    where
      by : (b : Bool) → pushes_child p (kind_at ks q) ≡ b → waits ks log (cond b (cont ks q) (suc q)) ≡ false
      by true e =
          let one = eqb-true (kind_at ks q) 1 (and_both (eqb p help_first) (eqb (kind_at ks q) 1) e).1 in
          async_never_waits ks sh log q h opens (ne_eqb (kind_at ks q) 2 (omega arith))
      by false e = child_never_waits ks sh log q h opens

  pushes-free : (pushes p ks q ≡ cont ks q → (j : ℕ) → suc q ≤ j → j < cont ks q → has_run log j ≡ true)
      → waits ks log (pushes p ks q) ≡ false
  unfolding end_at
  pushes-free ran =
      pushes_either ks (λ x. pushes p ks q ≡ x → waits ks log x ≡ false) p q (λ e. child_never_waits ks sh log q h opens)
      (λ e. by e (is_finish (kind_at ks q)) refl) refl
    where
      by : pushes p ks q ≡ cont ks q → (b : Bool) → is_finish (kind_at ks q) ≡ b → waits ks log (cont ks q) ≡ false
      by e true f = waits_no_longer ks sh log q h opens f (ran e)
      by e false f = async_never_waits ks sh log q h opens f

-- ---- the start

-- Of a run with n workers and one more.
pub start_ready : (n p : ℕ) (ks : List ℕ) → AllReady p ks (replicate most_workers 0) (start (suc n))
unfolding start worker_at phase_at first_phases idle_worker any
start_ready n p ks zero i few e =
    let s : 0 ≡ i = cc in
    rw (← s) (record { stolen_below = λ x m. has_none x m; free = λ apart. absurd (apart refl) })
start_ready n p ks (suc w) i few e =
    absurd (none-ne-some i (ap (λ (x : Worker). x.hand.held) (sym (get_or_alike n w idle_worker)) ∙ e))

-- ---- a run

module _ (p : ℕ) (ks : List ℕ) (sh : Shape (length ks) (end_at ks) (size_at ks)) (r : Run) (inv : Invariant p ks r) (lows : List ℕ)
    (ready : AllReady p ks lows r) where
  module _ (w i : ℕ) (few : w < most_workers) (here : w < length r.workers) (holding : (worker_at r w).hand.held ≡ some i)
      (pushers : List ℕ) (deque : (worker_at r w).hand.deque ≡ map (pushes p ks) pushers)
      (line : Line ks (get_or lows w 0) i pushers) where
    entry : Entry
    entry = record { phase = (worker_at r w).phase; step = i }

    -- What it pops does not wait.
    pops-free : is_end (kind_at ks i) ≡ true → (qs : List ℕ) → (worker_at r w).hand.deque ≡ map (pushes p ks) qs
        → Line ks (get_or lows w 0) i qs → (x : ℕ) → (pop (map (pushes p ks) qs)).held ≡ some x
        → waits ks (r.log ++ (entry ∷ [])) x ≡ false
    unfolding pop stack entry
    pops-free e [] d l x h = absurd (none-ne-some x h)
    pops-free e (q ∷ qs) d l x h =
        let k = (worker_at r w).phase in
        let s : pushes p ks q ≡ x = cc in
        let facts = rw (← after-ended (λ y. false) p ks i (worker_at r w).hand.deque e, d) at
        (phase_runs p ks sh (phase_at r.phases k) (log_of k r.log) i (worker_at r w).hand.deque
        (held_facts p ks r inv w i holding)) in
        rw (← s) (pushes-free p ks sh (r.log ++ (entry ∷ [])) q (line_step ks sh (get_or lows w 0) qs q l.3) l.0
        (λ c j a b. logged_run k j (r.log ++ (entry ∷ []))
        (rw (log_own k r.log entry refl)
        (child-run p ks sh (phase_at r.phases k) (log_of k r.log) i q (get_or lows w 0) qs l.0 l.1 l.3
        (ready w i few holding).stolen_below (rw c at facts) j a b))))

    next-free : (x : ℕ) → (after_run (λ y. false) p ks i (worker_at r w).hand.deque).held ≡ some x
        → waits ks (r.log ++ (entry ∷ [])) x ≡ false
    unfolding pop
    next-free x h = by (is_end (kind_at ks i)) refl
      where
        by : (b : Bool) → is_end (kind_at ks i) ≡ b → waits ks (r.log ++ (entry ∷ [])) x ≡ false
        by true e = pops-free e pushers deque line x (rw (← after-ended (λ y. false) p ks i (worker_at r w).hand.deque e, deque) at h)
        by false e =
            let s : holds p ks i ≡ x =
            let t = rw (← after_kept (λ y. false) p ks i (worker_at r w).hand.deque e refl) at h in cc in
            rw (← s) (holds-free p ks sh (r.log ++ (entry ∷ [])) i (line_step ks sh (get_or lows w 0) pushers i line) e)

    pub run-ready : AllReady p ks lows (ran p ks r w i)
    unfolding ran onward entry
    run-ready u x small e =
        elim (ℕ_discrete u w) [
          | yes same ↦
              let now : worker_at (ran p ks r w i) u ≡ onward p ks (worker_at r w) i = rw same (ran_here p ks r w i here) in
              let h = ap (λ (y : Worker). y.hand.held) (sym now) ∙ e in
              rw now (record { stolen_below = rw same (ready w i few holding).stolen_below; free = λ n. next-free x h })
          | no n ↦
              let now = ran_other p ks r w i u n in
              let before = ready u x small (ap (λ (y : Worker). y.hand.held) (sym now) ∙ e) in
              rw now (record { stolen_below = before.stolen_below; free = λ m. stays_free ks r.log entry x (before.free m) })
        ]

  -- ---- a steal

  -- Worker t steals what step q pushed from worker v, which holds step i.
  module _ (t v i q : ℕ) (sized : length lows ≡ most_workers) (small : t < most_workers) (few : v < most_workers)
      (thief : t < length r.workers) (victim : v < length r.workers) (other : t ≡ v → ⊥)
      (holding : (worker_at r v).hand.held ≡ some i) (taken : oldest (worker_at r v).hand.deque ≡ pushes p ks q)
      (low : get_or lows v 0 ≤ q) (past : q < i) where
    step : ℕ
    step = oldest (worker_at r v).hand.deque

    begun : (worker_at r v).phase < length r.phases
    begun = (inv.workers v).phase (some_holds (worker_at r v) i holding)

    -- `low` goes past the step that pushed what is stolen.
    robbed-below : (x : ℕ) → Has ((phase_at r.phases (worker_at r v).phase).stolen ++ (step ∷ [])) x → PushedBelow p ks (suc q) x
    unfolding step
    robbed-below x m = by (any (eqb x) (phase_at r.phases (worker_at r v).phase).stolen) refl
      where
        by : (b : Bool) → any (eqb x) (phase_at r.phases (worker_at r v).phase).stolen ≡ b → PushedBelow p ks (suc q) x
        by true b =
            let below = (ready v i few holding).stolen_below x b in
            (below.0, omega (arith, below.1), below.2)
        by false b =
            let new : eqb x step ≡ true =
            rw b at (sym (any_one (eqb x) (phase_at r.phases (worker_at r v).phase).stolen step) ∙ m) in
            (q, omega arith, eqb-true x step new ∙ taken)

    thief-ready : (x : ℕ) → (worker_at (steal r t v) t).hand.held ≡ some x
        → Ready p ks r.log (phase_at (steal r t v).phases (worker_at (steal r t v) t).phase).stolen step x
    unfolding steal enriched step
    thief-ready x e =
        let now = steal-thief r t v thief in
        let h = ap (λ (y : Worker). y.hand.held) (sym now) ∙ e in
        let s : step ≡ x = cc in
        rw (now, begin_new r.phases t (worker_at r v).phase step)
        (record { stolen_below = λ y m. has_none y m; free = λ n. absurd (n (sym s)) })

    victim-ready : (x : ℕ) → (worker_at (steal r t v) v).hand.held ≡ some x
        → Ready p ks r.log (phase_at (steal r t v).phases (worker_at (steal r t v) v).phase).stolen (suc q) x
    unfolding steal lightened step
    victim-ready x e =
        let now = steal-victim r t v other victim in
        let s : some i ≡ some x = sym holding ∙ ap (λ (y : Worker). y.hand.held) (sym now) ∙ e in
        let same : i ≡ x = cc in
        rw (now, begin-robbed r.phases t (worker_at r v).phase step begun, ← same)
        (record { stolen_below = robbed-below; free = λ n. (ready v i few holding).free (omega arith) })

    other-ready : (u x : ℕ) → u < most_workers → (u ≡ t → ⊥) → (u ≡ v → ⊥) → (worker_at (steal r t v) u).hand.held ≡ some x
        → Ready p ks r.log (phase_at (steal r t v).phases (worker_at (steal r t v) u).phase).stolen (get_or lows u 0) x
    unfolding steal step
    other-ready u x l n m e =
        let now = steal_other r t v u n m in
        let h = ap (λ (y : Worker). y.hand.held) (sym now) ∙ e in
        let facts = inv.workers u in
        let held = some_holds (worker_at r u) x h in
        let apart : (worker_at r u).phase ≡ (worker_at r v).phase → ⊥ = λ s. m (sym (facts.own held)
        ∙ ap (λ (k : ℕ). (phase_at r.phases k).worker) s ∙ (inv.workers v).own (some_holds (worker_at r v) i holding)) in
        rw (now, begin_other r.phases t (worker_at r v).phase step (worker_at r u).phase (facts.phase held) apart)
        (ready u x l h)

    pub steal-ready : AllReady p ks (set (set lows v (suc q)) t (oldest (worker_at r v).hand.deque)) (steal r t v)
    unfolding steal step
    steal-ready u x l e =
        elim (ℕ_discrete u t) [
          | yes same ↦ rw (same, get_or-set_same (set lows v (suc q)) t step 0 (omega (arith, length-set lows v (suc q))))
              (thief-ready x (rw same at e))
          | no n ↦ rw (get_or-set_other (set lows v (suc q)) t u step 0 n) (elim (ℕ_discrete u v) [
            | yes same ↦ rw (same, get_or-set_same lows v (suc q) 0 (omega arith)) (victim-ready x (rw same at e))
            | no m ↦ rw (get_or-set_other lows v u (suc q) 0 m) (other-ready u x l n m e)
          ])
        ]

-- ---- the theorem

-- On a state that shows a run: a worker whose held step is not its `low` does not wait.
pub never_waits : (p : ℕ) (ks : List ℕ) → length ks ≤ 4095 → (s : Fields) (r : Run) → Shows p ks s r → (w : ℕ) → w < most_workers
    → get_or s.held w 0 < length ks → (get_or s.held w 0 ≡ get_or s.low w 0 → ⊥) → waits_for ks s.place (get_or s.held w 0) ≡ false
never_waits p ks most s r shows w few within apart = by (worker_at r w).hand.held refl
  where
    by : (o : Option ℕ) → (worker_at r w).hand.held ≡ o → waits_for ks s.place (get_or s.held w 0) ≡ false
    by none e =
        let idle = rw e at (shows.hands w few).holding in
        absurd (omega (arith, idle.0))
    by (some i) e =
        let same : get_or s.held w 0 ≡ i = (rw e at (shows.hands w few).holding).0 in
        waits-shown ks s.place r.log shows.unrun (get_or s.held w 0) within
        ∙ (rw same ((shows.ready w i few e).free (λ at_low. apart (same ∙ at_low))))
