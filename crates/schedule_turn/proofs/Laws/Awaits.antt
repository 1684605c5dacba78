-- The steps that workers were last seen to wait for: while such a step has not run its worker waits; and so it stays after every run
-- and every steal.
use Rattle.std.specs.Prelude.{◌≡◌, ℕ, ◌-◌, ◌<◌, true, false, List, length, replicate, ◌≢◌, slice_index_or, slice_set, refl}
use Rattle.std.proofs.Math.Path.{sym, ap}
use Rattle.std.proofs.Common.{◌∙◌, true≢false, arith, length-set, get_or-set_same, get_or-set_other}
use Rattle.std.proofs.Math.Option.{Option, none, some}
use Rattle.std.proofs.Math.Decide.{ℕ_discrete}
use Rattle.std.proofs.lemmas.List.{length-replicate, get_or-replicate}
use Rattle.rules.specs.Scheduling.{most_workers, Worker, Run, start, worker_at, has_run, waits, awaited, holds_step, steal}
use Rattle.run_invariant.proofs.Laws.Counts.{not_so}
use Rattle.run_invariant.proofs.Laws.Moves.{some_holds, ran, ran_other, lightened, steal_other, steal-victim}
use Rattle.run_invariant.proofs.Laws.Waiting.{run_stays}
use Rattle.run_spec.specs.Running.{no_step}
use Rattle.run_refinement.specs.WaitingTest.{OfChild, answered}
use Rattle.run_refinement.proofs.Laws.WaitingTest.{waiting}
use Rattle.schedule_turn.specs.Terms.{Awaits, Awaited}

-- What a worker holds.
abbrev held_of : Run → ℕ → Option ℕ
held_of s u = (worker_at s u).hand.held

-- At the start nobody has been seen to wait.
pub awaited-start : (ks : List ℕ) (w : ℕ) → Awaited ks (start w) (replicate most_workers no_step)
awaited-start ks w =
    record {
      sixteen = length-replicate {A = ℕ} 16 no_step;
      each = λ u few low. absurd (omega (arith, get_or-replicate 16 u no_step 0 few));
    }

-- A step that follows a finish child waits while a step of the child has not run.
pub unrun_waits : (ks : List ℕ) (s : Run) (u j : ℕ) (f : Awaits ks s u j) → has_run s.log j ≡ false
    → waits ks s.log f.step ≡ true
unfolding answered
unrun_waits ks s u j f unrun = waiting.waits_log ks s.log i ∙ by (awaited ks s.log i) refl
  where
    i : ℕ
    i = f.step

    by : (o : Option ℕ) → awaited ks s.log i ≡ o → answered (awaited ks s.log i) ≡ true
    by none e = absurd (true≢false (sym ((waiting.by_log ks s.log i).none_then e j f.child) ∙ unrun))
    by (some k) e = rw e refl

-- ---- what events keep

module _ (ks : List ℕ) (s t : Run) (awaited : List ℕ) (so : Awaited ks s awaited)
    (grows : (j : ℕ) → has_run s.log j ≡ true → has_run t.log j ≡ true)
    (same : (u j : ℕ) → Awaits ks s u j → has_run s.log j ≡ false → held_of t u ≡ held_of s u) where
  awaited-next : Awaited ks t awaited
  awaited-next =
      record {
        sixteen = so.sixteen;
        each = λ u few low.
            let before = so.each u few low in
            let j = slice_index_or awaited u 0 in (
              before.0,
              λ unrun.
                  let old : has_run s.log j ≡ false = not_so (has_run s.log j) (λ ran. true≢false (sym (grows j ran) ∙ unrun)) in
                  let f = before.1 old in
                  record {
                    step = f.step;
                    holds = same u j f old ∙ f.holds;
                    child = f.child;
                  },
            );
      }

module _ (p : ℕ) (ks : List ℕ) (s : Run) (awaited : List ℕ) (so : Awaited ks s awaited) where
  -- Worker w has run step i, which did not wait.
  pub awaited_run : (w i : ℕ) → held_of s w ≡ some i → waits ks s.log i ≡ false → Awaited ks (ran p ks s w i) awaited
  unfolding ran
  awaited_run w i holds free =
      awaited-next ks s (ran p ks s w i) awaited so (λ j. run_stays s.log _ j)
      (λ u j f unrun. elim (ℕ_discrete u w) [
        | yes e ↦
            let own : some f.step ≡ some i = sym f.holds ∙ (rw e holds) in
            let is : f.step ≡ i = cc in
            absurd (true≢false (sym (unrun_waits ks s u j f unrun) ∙ (rw is free)))
        | no n ↦ ap (λ (x : Worker). x.hand.held) (ran_other p ks s w i u n)
      ])

  -- Worker t, idle, has stolen from worker v.
  pub awaited-steal : (t v : ℕ) → (t ≢ v) → v < length s.workers → holds_step (worker_at s t) ≡ false
      → Awaited ks (steal s t v) awaited
  unfolding steal lightened
  awaited-steal t v n lv idle =
      awaited-next ks s (steal s t v) awaited so (λ j ran. ran)
      (λ u j f unrun. elim (ℕ_discrete u t) [
        | yes e ↦ absurd (true≢false (sym (some_holds (worker_at s u) f.step f.holds) ∙ (rw e idle)))
        | no m ↦ elim (ℕ_discrete u v) [
          | yes e ↦ rw e (ap (λ (x : Worker). x.hand.held) (steal-victim s t v n lv))
          | no k ↦ ap (λ (x : Worker). x.hand.held) (steal_other s t v u m k)
        ]
      ])

-- ---- a worker is seen to wait

-- Worker w holds step i: what is noted for it is a step of the finish child before i or of its descendants, or none.
pub awaited-noted : (ks : List ℕ) (s : Run) (awaited : List ℕ) → Awaited ks s awaited → (w i : ℕ) → held_of s w ≡ some i
    → i < length ks → (r : ℕ) → ((r ≢ no_step) → OfChild ks i r) → Awaited ks s (slice_set awaited w r)
awaited-noted ks s awaited so w i holds within r noted =
    record {
      sixteen = length-set awaited w r ∙ so.sixteen;
      each = λ u few low. elim (ℕ_discrete u w) [
        | yes same ↦
            let here = get_or-set_same awaited w r 0 (omega (arith, so.sixteen)) in
            let of = noted (λ none. omega (arith, rw same at low)) in
            rw (same, here) (omega (arith, of.before), λ unrun. record { step = i; holds = holds; child = of })
        | no n ↦ rw (get_or-set_other awaited w u r 0 n) (so.each u few (omega (arith, get_or-set_other awaited w u r 0 n)))
      ];
    }

-- A step that waits follows a finish child, whose end stands just before it.
pub waits_end : (ks : List ℕ) (s : Run) (i : ℕ) → waits ks s.log i ≡ true → OfChild ks i (i - 1)
unfolding answered
waits_end ks s i late = by (awaited ks s.log i) refl
  where
    by : (o : Option ℕ) → awaited ks s.log i ≡ o → OfChild ks i (i - 1)
    by none e = absurd (true≢false (sym late ∙ waiting.waits_log ks s.log i ∙ rw e refl))
    by (some q) e =
        let of = (waiting.by_log ks s.log i).of_child q e in
        record { first = of.first; child = of.child; from = omega (arith, of.from, of.before); before = omega (arith, of.before) }
