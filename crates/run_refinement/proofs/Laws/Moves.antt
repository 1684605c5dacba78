-- An accepted run or steal: the next state shows the rules' next run, since the worker that moves is shown by what is stored for it, and
-- every other by what is left.
use Rattle.std.specs.Prelude.{ℕ, suc, ◌≤◌, ◌<◌, ◌≡◌, Bool, not, length, get_or, set, leb}
use Rattle.std.proofs.Math.Path.{refl, sym, ap}
use Rattle.std.proofs.Common.{◌∙◌, arith, length-set}
use Rattle.std.proofs.Math.Bool.{true, false, or-false, or-true}
use mathlib.Core.List.{List, [], ◌∷◌, drop_last}
use Rattle.std.proofs.Math.Option.{Option, none, some}
use Rattle.std.proofs.Math.Decide.{ℕ_discrete}
use Rattle.std.proofs.Math.ListN.{length-append}
use Rattle.std.proofs.Math.Seq.{set-get_or}
use borrow.Author.Tests.{eq-eqb, ne_eqb, eqb-true, lt-leb}
use Rattle.rules.specs.Tree.{kind_at, is_end, ordinal}
use Rattle.rules.specs.Scheduling.{work_first, most_workers, holds, pushes, after_run, Worker, Steal, Run, worker_at, run_step, oldest}
use Rattle.rules.specs.Scheduling.{steal}
use Rattle.tree_scan.specs.Laws.Shape.{Shape}
use Rattle.tree_scan.specs.Laws.Frames.{end_at, size_at}
use Rattle.run_invariant.specs.Invariant.{stack, Chained, Invariant}
use Rattle.run_invariant.proofs.Laws.Counts.{Has, has_head}
use Rattle.run_invariant.proofs.Laws.Phase.{held_within, oldest_within}
use Rattle.run_invariant.proofs.Laws.Waiting.{run_more}
use Rattle.run_invariant.proofs.Laws.Moves.{some-stack, holds-some, rich-holds, held_facts, onward, ran}
use Rattle.run_invariant.proofs.Laws.Consequences.{steals_most, phases-count, pending_unrun}
use Rattle.policy.specs.Contract.{worker_limit}
use Rattle.policy.proofs.Laws.Workers.{limit_is}
use Rattle.run_spec.specs.Deques.{marked, newest_mark, oldest_mark, popped, robbed}
use Rattle.run_spec.specs.Running.{held_next, place_next}
use Rattle.run_spec.specs.Moves.{Fields, fields_of, ran_fields, next_phase, taken_ordinal, robbed_fields}
use Rattle.run_refinement.specs.Tie.{HandShown, Shows}
use Rattle.run_refinement.proofs.Laws.Hands.{opened-shown, ended-nothing, ended-newest, ended-idle-shown, ended-shown}
use Rattle.run_refinement.proofs.Laws.Hands.{oldest-none, oldest-pusher, oldest-ordinal, robbed-shown, idle_none_lem}
use Rattle.run_refinement.proofs.Laws.Hands.{thief-shown, other_shown, push-other, pop-other, rob-other, push-unrun}
use Rattle.run_refinement.proofs.Laws.Hands.{push-run, pop-unrun, pop-run, rob-unrun, popped-length, robbed-length}
use Rattle.run_refinement.proofs.Laws.Ready.{run-ready, steal-ready}
use Rattle.run_refinement.proofs.Laws.Tables.{Table, Spared, tables_of_lem, shows-by, table-set}

-- What a run of step i by worker w does to the places.
record Stored (ks before after : List ℕ) (w i : ℕ) : Type 0 where
  pub places : length after ≡ 4095
  pub spared : Spared ks before after w
  pub ran : marked after 17 i ≡ false
  pub rest : (j : ℕ) → j < length ks → (j ≡ i → ⊥) → marked after 17 j ≡ marked before 17 j

-- What is known before a move, of an accepted tree's kinds.
pub record Known (p : ℕ) (ks : List ℕ) (s : Fields) (r : Run) : Type 0 where
  pub some-step : 1 ≤ length ks
  pub most : length ks ≤ 4095
  pub shape : Shape (length ks) (end_at ks) (size_at ks)
  pub inv : Invariant p ks r
  pub shows : Shows p ks s r

-- A steal by t from v: step q pushed what is stolen, and the next state shows the next run.
pub record Stolen (p : ℕ) (ks : List ℕ) (s : Fields) (r : Run) (t v q : ℕ) : Type 0 where
  pub found : oldest_mark s.place v (get_or s.low v 0) (length ks) ≡ some q
  pub taken : oldest (worker_at r v).hand.deque ≡ pushes p ks q
  pub numbered : p ≡ work_first → taken_ordinal s ks v q ≡ ordinal ks (pushes p ks q)
  pub next : Shows p ks (robbed_fields s ks t v q) (steal r t v)

module _ {p : ℕ} {ks : List ℕ} {s : Fields} {r : Run} (known : Known p ks s r) where
  open known use {some-step, most, shape as sh, inv, shows}

  -- ---- a worker that the run has

  pub below_most : {w : ℕ} → w < s.setup.workers → w < most_workers
  below_most here = omega (arith, shows.most)

  pub not_far : (w : ℕ) → w < s.setup.workers → leb (worker_limit s.setup.workers) w ≡ false
  not_far w here = lt-leb _ w (rw (limit_is _ shows.most) here)

  -- ---- what a worker holds

  pub held_none : (w : ℕ) → w < most_workers → (worker_at r w).hand.held ≡ none → get_or s.held w 0 ≡ 65535
  held_none w few e = (rw e at (shows.hands w few).holding).0

  module _ (w i : ℕ) (here : w < s.setup.workers) (holding : (worker_at r w).hand.held ≡ some i) where
    few : w < most_workers
    few = below_most here

    chained : Chained p ks (i ∷ (worker_at r w).hand.deque)
    chained = (held_facts p ks r inv w i holding).chain

    within : i < length ks
    within = held_within p ks sh i (worker_at r w).hand.deque chained

    pub held-some : (get_or s.held w 0 ≡ i) × (i < length ks)
    held-some = ((rw holding at (shows.hands w few).holding).0, within)

    unrun : get_or s.place i 0 ≡ 17
    unrun =
        let queued : Has (stack (worker_at r w).hand) i =
        rw (some-stack (worker_at r w) i holding) (has_head i (worker_at r w).hand.deque) in
        eqb-true (get_or s.place i 0) 17
        (shows.unrun i within ∙ ap not (pending_unrun p ks some-step sh r inv w i queued))

    -- ---- a run

    -- The two ways to store.
    pushed : Stored ks s.place (set s.place i w) w i
    pushed =
        let low = get_or s.low w 0 in
        record {
          places = length-set s.place i w ∙ shows.places;
          spared = λ u. push-other p ks sh most s.place shows.places w low few i u within unrun;
          ran = push-run p ks sh most s.place shows.places w low few i within;
          rest = push-unrun p ks sh most s.place shows.places w low few i within;
        }

    emptied : Stored ks s.place (popped s.place w (get_or s.low w 0) i) w i
    emptied =
        let low = get_or s.low w 0 in
        record {
          places = popped-length p ks sh most _ shows.places w low few i;
          spared = λ u. pop-other p ks sh most _ shows.places w low few i u within unrun;
          ran = pop-run p ks sh most _ shows.places w low few i within;
          rest = pop-unrun p ks sh most _ shows.places w low few i within;
        }

    next : Worker
    next = record { hand = after_run (λ x. false) p ks i (worker_at r w).hand.deque; phase = (worker_at r w).phase }

    stored-shows : (after : List ℕ) (h : ℕ) → Stored ks s.place after w i
        → HandShown p ks after w h (get_or s.low w 0) (get_or s.base w 0)
        (get_or s.phase w 0) next
        → Shows p ks (fields_of after (set s.held w h) s.phase s.low s.base s.steals s.setup)
        (run_step p ks r w)
    unfolding run_step next marked ran onward
    stored-shows after h stored shown =
        let hand = shows.hands w few in
        let table = rw (set-get_or s.low w 0, set-get_or s.base w 0, set-get_or s.phase w 0) at
        (table-set p _ ks sh most _ _ _ _ _ _ (tables_of_lem p ks s r shows) after w h (get_or s.low w 0)
        (get_or s.base w 0) (get_or s.phase w 0) next stored.places here shown stored.spared) in
        rw (holding, run_step)
        (shows-by p ks _ _ table shows.policy
        (λ j l. rw run_more (elim (ℕ_discrete j i) [
          | yes e ↦ rw (e, eq-eqb i i refl, or-true) stored.ran
          | no n ↦ rw (ne_eqb i j (λ e. n (sym e)), or-false) (stored.rest j l n ∙ shows.unrun j l)
        ]))
        shows.steals
        (run-ready p ks sh r inv s.low shows.ready w i few (omega (arith, shows.workers)) holding hand.pushers hand.deque
        (rw holding at hand.holding).1))

    -- What it holds next, and its hand then.
    next-opened : is_end (kind_at ks i) ≡ false → held_next s.setup.policy ks s.place w (get_or s.low w 0) i ≡ holds p ks i
    unfolding held_next
    next-opened e = rw (e, shows.policy) refl

    next-idle : is_end (kind_at ks i) ≡ true → newest_mark s.place w (get_or s.low w 0) i ≡ none
        → held_next s.setup.policy ks s.place w (get_or s.low w 0) i ≡ 65535
    unfolding held_next
    next-idle e found = rw (e, found) refl

    next-newest : is_end (kind_at ks i) ≡ true → (q : ℕ) → newest_mark s.place w (get_or s.low w 0) i ≡ some q
        → held_next s.setup.policy ks s.place w (get_or s.low w 0) i ≡ pushes p ks q
    unfolding held_next
    next-newest e q found = rw (e, found, shows.policy) refl

    hand-after : is_end (kind_at ks i) ≡ true → (deque : List ℕ) → (worker_at r w).hand.deque ≡ deque
        → HandShown p ks (popped s.place w (get_or s.low w 0) i) w (held_next s.setup.policy ks s.place w (get_or s.low w 0) i)
        (get_or s.low w 0) (get_or s.base w 0) (get_or s.phase w 0) next
    unfolding next
    hand-after e [] d =
        let hand = shows.hands w few in
        rw (next-idle e (ended-nothing p ks sh most _ shows.places w _ _ _ _ _ few hand i holding unrun e d))
        (ended-idle-shown p ks sh most _ shows.places w _ _ _ _ _ few hand i holding unrun e d)
    hand-after e (x ∷ xs) d =
        let hand = shows.hands w few in
        let found = ended-newest p ks sh most _ shows.places w _ _ _ _ _ few hand i holding unrun e x xs d in
        rw (next-newest e found.0 found.1)
        (ended-shown p ks sh most _ shows.places w _ _ _ _ _ few hand i holding unrun e found.0 found.1)

    shows-next : (b : Bool) → is_end (kind_at ks i) ≡ b → Shows p ks (ran_fields s ks w i) (run_step p ks r w)
    unfolding ran_fields place_next next
    shows-next true e =
        rw e
        (stored-shows (popped s.place w (get_or s.low w 0) i) (held_next s.setup.policy ks s.place w (get_or s.low w 0) i)
        emptied
        (hand-after e (worker_at r w).hand.deque refl))
    shows-next false e =
        rw (e, next-opened e)
        (stored-shows (set s.place i w) (holds p ks i) pushed
        (opened-shown p ks sh most _ shows.places w _ _ _ _ _ few (shows.hands w few) i holding unrun e))

    pub run-shows : Shows p ks (ran_fields s ks w i) (run_step p ks r w)
    run-shows = shows-next (is_end (kind_at ks i)) refl

  -- ---- a steal

  -- From an empty deque there is nothing to steal.
  pub nothing-found : (v : ℕ) → v < s.setup.workers → (worker_at r v).hand.deque ≡ []
      → oldest_mark s.place v (get_or s.low v 0) (length ks) ≡ none
  nothing-found v here d = by (worker_at r v).hand.held refl
    where
      few : v < most_workers
      few = below_most here

      by : (o : Option ℕ) → (worker_at r v).hand.held ≡ o → oldest_mark s.place v (get_or s.low v 0) (length ks) ≡ none
      by none e = idle_none_lem p ks sh most _ shows.places v _ _ _ _ _ (shows.hands v few) e
      by (some i) e = oldest-none p ks sh most _ shows.places v _ _ _ _ _ few (shows.hands v few) i e (unrun v i here e) d

  thief_phase : next_phase s ≡ length r.phases
  unfolding next_phase
  thief_phase = omega (arith, shows.steals, phases-count p ks some-step sh r inv, steals_most p ks some-step sh r inv)

  module _ (t v : ℕ) (thief-here : t < s.setup.workers) (here : v < s.setup.workers) (other : t ≡ v → ⊥)
      (idle : (worker_at r t).hand.held ≡ none) (full : length (worker_at r v).hand.deque ≡ 0 → ⊥) where
    thief-few : t < most_workers
    thief-few = below_most thief-here

    victim-few : v < most_workers
    victim-few = below_most here

    step : ℕ
    step = oldest (worker_at r v).hand.deque

    -- The victim and the thief afterwards, and the places.
    victim : Worker
    victim =
        record {
          hand = record { held = (worker_at r v).hand.held; deque = drop_last (worker_at r v).hand.deque };
          phase = (worker_at r v).phase;
        }

    thief : Worker
    thief = record { hand = record { held = some step; deque = [] }; phase = length r.phases }

    after : List ℕ
    after = robbed s.place v (get_or s.low v 0) (length ks)

    places : length after ≡ 4095
    unfolding after
    places = robbed-length p ks sh most _ shows.places v (get_or s.low v 0) victim-few

    spared : Spared ks s.place after v
    unfolding after
    spared = rob-other p ks sh most _ shows.places v (get_or s.low v 0) victim-few

    -- The victim holds step i, and step q pushed what is stolen.
    module _ (i : ℕ) (holding : (worker_at r v).hand.held ≡ some i) (q : ℕ)
        (found : oldest_mark s.place v (get_or s.low v 0) (length ks) ≡ some q)
        (pushed-by : step ≡ pushes p ks q) (past : q < i) (not-below : get_or s.low v 0 ≤ q) where
      taken-ordinal : p ≡ work_first → taken_ordinal s ks v q ≡ ordinal ks (pushes p ks q)
      unfolding taken_ordinal
      taken-ordinal first =
          rw shows.policy
          (oldest-ordinal p ks sh most _ shows.places v _ _ _ _ _ victim-few (shows.hands v victim-few) i holding
          (unrun v i here holding) first q found)

      victim-table : Table p s.setup.workers ks after s.held (set s.low v (suc q)) (set s.base v 0)
          s.phase (set r.workers v victim)
      unfolding victim after
      victim-table =
          rw (set-get_or s.held v 0, set-get_or s.phase v 0) at
          (table-set p _ ks sh most _ _ _ _ _ _ (tables_of_lem p ks s r shows) after v (get_or s.held v 0) (suc q) 0
          (get_or s.phase v 0) victim places here
          (robbed-shown p ks sh most _ shows.places v _ _ _ _ _ victim-few (shows.hands v victim-few) i holding (unrun v i here holding)
          q found)
          spared)

      thief-hand : HandShown p ks after t step step (taken_ordinal s ks v q) (length r.phases) thief
      unfolding thief step
      thief-hand =
          thief-shown p ks sh most after places t _ _ _ _ _
          (other_shown p ks sh most _ shows.places after t _ _ _ _ _ (shows.hands t thief-few) (spared t thief-few other))
          idle step (length r.phases) (taken_ordinal s ks v q)
          (oldest_within p ks sh i (worker_at r v).hand.deque full (chained v i here holding))
          (λ first. taken-ordinal first ∙ ap (ordinal ks) (sym pushed-by))

      both-table : Table p s.setup.workers ks after (set s.held t step) (set (set s.low v (suc q)) t step)
          (set (set s.base v 0) t (taken_ordinal s ks v q)) (set s.phase t (length r.phases))
          (set (set r.workers v victim) t thief)
      both-table =
          table-set p _ ks sh most _ _ _ _ _ _ victim-table after t step step (taken_ordinal s ks v q) (length r.phases)
          thief places thief-here thief-hand (λ u l n j b. refl)

      shows-stolen : Shows p ks (robbed_fields s ks t v q) (steal r t v)
      unfolding robbed_fields steal victim thief step after marked
      shows-stolen =
          let taken : pushes s.setup.policy ks q ≡ step = ap (λ (x : ℕ). pushes x ks q) shows.policy ∙ sym pushed-by in
          let stolen : Steal = record { thief = t; victim = v; step = step } in
          rw (taken, thief_phase)
          (shows-by p ks _ _ both-table shows.policy
          (λ j l. rob-unrun p ks sh most _ shows.places v (get_or s.low v 0) victim-few j l ∙ shows.unrun j l)
          (omega (arith, phases-count p ks some-step sh r inv, length-append r.steals (stolen ∷ [])))
          (steal-ready p ks sh r inv s.low shows.ready t v i q shows.lows thief-few victim-few (omega (arith, shows.workers))
          (omega (arith, shows.workers)) other holding pushed-by not-below past))

    -- A worker with steps in its deque holds one.
    pub steal-shows : (q : ℕ) × Stolen p ks s r t v q
    unfolding step
    steal-shows =
        let held = holds-some (worker_at r v) (rich-holds r v (inv.workers v) full) in
        let i = held.0 in
        let e = held.1 in
        let found = oldest-pusher p ks sh most _ shows.places v _ _ _ _ _ victim-few (shows.hands v victim-few) i e (unrun v i here e)
        full in (
          found.0,
          record {
            found = found.1;
            taken = found.2;
            numbered = taken-ordinal i e found.0 found.1 found.2 found.3 found.4;
            next = shows-stolen i e found.0 found.1 found.2 found.3 found.4;
          },
        )
