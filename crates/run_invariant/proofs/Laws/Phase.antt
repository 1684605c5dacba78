-- One phase alone: its facts hold as it begins, after it has run a step, and after a steal from it. Workers and other phases
-- do not matter here.
use Prim.Native.Nat.{ℕ, suc, ◌+◌, ◌-◌, ◌≤◌, ◌<◌}
use Rattle.std.specs.Prelude.{◌≡◌, Bool, take, eqb}
use Rattle.std.proofs.Math.Path.{refl}
use Rattle.std.proofs.Common.{sym, subst, ap, ◌∙◌, eqb-true}
use Rattle.std.proofs.Math.Bool.{true, false, and-false}
use mathlib.Core.List.{List, [], ◌∷◌, ◌++◌, drop_last, append_assoc}
use Rattle.std.proofs.Math.Option.{some}
use native.Mathlib.Omega.{arith}
use Rattle.std.proofs.Math.ListN.{length, length-append}
use Rattle.rules.specs.Bytes.{all, any, sum}
use Rattle.rules.specs.Tree.{kind_at, is_async, is_finish, is_end, task_end, cont}
use Rattle.rules.specs.Scheduling.{work_first, help_first, pushes_child, holds, pushes, pop, after_run, Phase, oldest}
use Rattle.rules.specs.Traces.{last_stolen, run_alone}
use Rattle.tree.specs.Laws.Verdicts.{or_none}
use Rattle.tree_scan.specs.Laws.Shape.{Shape}
use Rattle.tree_scan.specs.Laws.Frames.{end_at, size_at}
use Rattle.run_invariant.specs.Invariant.{stack, Weighs, Chain, Pushed, Chained, EndToEnd, frontier_end, kept, PhaseFacts}
use Rattle.run_invariant.proofs.Laws.Counts.{and_both, sum_ones}
use Rattle.run_invariant.proofs.Laws.Weights.{sum_append, end_within, cont-inside, size_weighs, run_weighs, holds-inside}
use Rattle.run_invariant.proofs.Laws.Weights.{pushes-inside, nested_end, pushed_within}

-- ---- lists

module _ (gone : ℕ → Bool) where
  any_append : (xs ys : List ℕ) → any gone (xs ++ ys) ≡ false → (any gone xs ≡ false) × (any gone ys ≡ false)
  unfolding any
  any_append [] ys e = (refl, e)
  any_append (x ∷ xs) ys e =
      let first = or_none (gone x) (any gone (xs ++ ys)) e in
      let rest = any_append xs ys first.1 in
      (rw first.0 rest.0, rest.1)

  all_last : (xs : List ℕ) (o : ℕ) → all gone (xs ++ (o ∷ [])) ≡ true → (all gone xs ≡ true) × (gone o ≡ true)
  unfolding all
  all_last [] o e = (refl, (and_both (gone o) true e).0)
  all_last (x ∷ xs) o e =
      let first = and_both (gone x) (all gone (xs ++ (o ∷ []))) e in
      let rest = all_last xs o first.1 in
      (rw first.0 rest.0, rest.1)

  kept-last : (xs : List ℕ) (o : ℕ) → gone o ≡ true → kept gone (xs ++ (o ∷ [])) ≡ kept gone xs
  unfolding kept
  kept-last [] o g = rw g
  kept-last (x ∷ xs) o g = rw (kept-last xs o g)

pub last_stolen_lem : (xs : List ℕ) (o : ℕ) → last_stolen (xs ++ (o ∷ [])) ≡ some o
unfolding last_stolen
last_stolen_lem [] o = refl
last_stolen_lem (x ∷ []) o = refl
last_stolen_lem (x ∷ y ∷ xs) o = last_stolen_lem (y ∷ xs) o

-- A deque that is not empty ends with its oldest step.
pub oldest-last : (deque : List ℕ) → (length deque ≡ 0 → ⊥) → deque ≡ drop_last deque ++ (oldest deque ∷ [])
unfolding oldest
oldest-last [] n = absurd (n refl)
oldest-last (x ∷ []) n = refl
oldest-last (x ∷ y ∷ r) n = ap (λ (l : List ℕ). x ∷ l) (oldest-last (y ∷ r) (omega arith))

module _ (ks : List ℕ) (e : ℕ) where
  ends_same : (x y : ℕ) (r : List ℕ) → task_end ks y ≡ task_end ks x → EndToEnd ks (x ∷ r) e → EndToEnd ks (y ∷ r) e
  ends_same x y [] same h = same ∙ h
  ends_same x y (z ∷ r) same h = (same ∙ h.0, h.1)

  ends_rest : (x : ℕ) (r : List ℕ) → EndToEnd ks (x ∷ r) e → EndToEnd ks r e
  ends_rest x [] h = omega arith
  ends_rest x (y ∷ r) h = h.1

  ends_robbed : (x : ℕ) (front : List ℕ) (o : ℕ) → EndToEnd ks (x ∷ front ++ (o ∷ [])) e → EndToEnd ks (x ∷ front) o
  ends_robbed x [] o h = h.0
  ends_robbed x (y ∷ front) o h = (h.0, ends_robbed y front o h.1)

stack-pop : (deque : List ℕ) → stack (pop deque) ≡ deque
unfolding stack pop
stack-pop [] = refl
stack-pop (x ∷ r) = refl

-- What running a step leaves: an end, an opening step whose pushed part is gone, and one whose pushed part is not.
module _ (gone : ℕ → Bool) (p : ℕ) (ks : List ℕ) (i : ℕ) (deque : List ℕ) where
  pub after-ended : is_end (kind_at ks i) ≡ true → pop deque ≡ after_run gone p ks i deque
  unfolding after_run
  after-ended e = rw e

  pub after-dropped : is_end (kind_at ks i) ≡ false → gone (pushes p ks i) ≡ true
      → pop (holds p ks i ∷ deque) ≡ after_run gone p ks i deque
  unfolding after_run pop
  after-dropped e g = rw (e, g)

  pub after_kept : is_end (kind_at ks i) ≡ false → gone (pushes p ks i) ≡ false
      → pop (holds p ks i ∷ pushes p ks i ∷ deque) ≡ after_run gone p ks i deque
  unfolding after_run pop
  after_kept e g = rw (e, g)

module _ (p : ℕ) (ks : List ℕ) where
  -- A phase that runs alone does the same to what it has kept.
  kept-opens : (gone : ℕ → Bool) (i : ℕ) (deque : List ℕ) → is_end (kind_at ks i) ≡ false → gone (holds p ks i) ≡ false
      → pop (kept gone (holds p ks i ∷ pushes p ks i ∷ deque)) ≡ after_run gone p ks i (kept gone deque)
  unfolding after_run kept pop
  kept-opens gone i deque e g = rw (e, g)

  alone-step : (gone : ℕ → Bool) (m i : ℕ) (deque : List ℕ) → gone i ≡ false
      → run_alone gone p ks (suc m) (pop (kept gone (i ∷ deque))) ≡ i ∷ run_alone gone p ks m (after_run gone p ks i (kept gone deque))
  unfolding run_alone kept pop
  alone-step gone m i deque g = rw g

  -- Work-first holds the child and pushes the continuation.
  pub first_holds : (i : ℕ) → p ≡ work_first → holds p ks i ≡ suc i
  unfolding holds pushes_child
  first_holds i w = rw w

  pub first-pushes : (i : ℕ) → p ≡ work_first → pushes p ks i ≡ cont ks i
  unfolding pushes pushes_child
  first-pushes i w = rw w

  -- So does either policy where the child is a finish child.
  pub finish_pushes : (i : ℕ) → is_finish (kind_at ks i) ≡ true → pushes p ks i ≡ cont ks i
  unfolding pushes pushes_child is_async is_finish
  finish_pushes i f = rw (eqb-true (kind_at ks i) 2 f, and-false (eqb p help_first)) refl

module _ (p : ℕ) (ks : List ℕ) (sh : Shape (length ks) (end_at ks) (size_at ks)) where
  -- A held step and the oldest step of a deque are steps of the tree.
  pub held_within : (i : ℕ) (deque : List ℕ) → Chained p ks (i ∷ deque) → i < length ks
  held_within i [] c = c
  held_within i (s ∷ r) c = omega (arith, c.4, end_within ks sh c.0 (held_within c.0 r c.5))

  last_pushed : (i : ℕ) (front : List ℕ) (o : ℕ) → Chain p ks i (front ++ (o ∷ [])) → Pushed p ks o
  last_pushed i [] o c = (c.0, c.5, c.2, c.1)
  last_pushed i (s ∷ front) o c = last_pushed c.0 front o c.5

  pub oldest_pushed : (i : ℕ) (deque : List ℕ) → (length deque ≡ 0 → ⊥) → Chained p ks (i ∷ deque) → Pushed p ks (oldest deque)
  oldest_pushed i deque n c = last_pushed i (drop_last deque) (oldest deque) (rw (oldest-last deque n) at c)

  pub oldest_within : (i : ℕ) (deque : List ℕ) → (length deque ≡ 0 → ⊥) → Chained p ks (i ∷ deque) → oldest deque < length ks
  oldest_within i deque n c = pushed_within ks sh p (oldest deque) (oldest_pushed i deque n c)

  -- A step inside the part from q is chained as q is.
  chain-inside : (q s : ℕ) (r : List ℕ) → q ≤ s → s < task_end ks q → Chain p ks q r → Chain p ks s r
  chain-inside q s [] l u c = omega (arith, end_within ks sh q c)
  chain-inside q s (t ∷ r) l u c =
      let above = nested_end ks sh c.0 q (held_within c.0 r c.5) (omega arith) c.4 in
      (c.0, c.1, c.2, omega (arith, c.3), omega arith, c.5)

  -- Once the held step has ended, the newest pushed step is chained.
  chain_rest : (i : ℕ) (deque : List ℕ) → Chain p ks i deque → Chained p ks deque
  chain_rest i [] c = omega arith
  chain_rest i (s ∷ r) c =
      let inside = pushes-inside ks sh p c.0 (held_within c.0 r c.5) c.2 in
      chain-inside c.0 s r (omega (arith, c.1)) (omega (arith, c.1)) c.5

  chain-robbed : (i : ℕ) (front : List ℕ) (o : ℕ) → Chain p ks i (front ++ (o ∷ [])) → Chain p ks i front
  chain-robbed i [] o c = held_within i (o ∷ []) c
  chain-robbed i (s ∷ front) o c = (c.0, c.1, c.2, c.3, c.4, chain-robbed c.0 front o c.5)

  pub phase_begins : (w s : ℕ) → s < length ks → PhaseFacts p ks (record { worker = w; first = s; stolen = [] }) [] (s ∷ [])
  unfolding sum any kept pop frontier_end last_stolen
  phase_begins w s h =
      record {
        begins = h;
        cover = λ whole each v. omega arith;
        chain = h;
        order = λ gone a n.
            let all : length ks - 0 ≡ length ks = omega arith in
            rw (all, (or_none (gone s) false n).0);
        frontier = λ v. refl;
      }

  module _ (ph : Phase) (log : List ℕ) (i : ℕ) (deque : List ℕ) (f : PhaseFacts p ks ph log (i ∷ deque)) where
    here : i < length ks
    here = held_within i deque f.chain

    -- There is room for one more step: what has run and the part from i are inside the first step's part.
    log-short : length log < length ks
    unfolding sum
    log-short =
        omega (
          arith,
          f.cover (size_at ks) (λ x. 1) (size_weighs ks sh),
          sum_ones log,
          (sh.at i here).some,
          (sh.at ph.first f.begins).fits,
        )

    -- What is common to ends and opening steps, `next` being what is pending after the step.
    runs-into : (next : List ℕ)
        → ((whole each : ℕ → ℕ) → Weighs ks whole each → each i + sum whole next ≡ whole i + sum whole deque)
        → Chained p ks next
        → ((gone : ℕ → Bool) → any gone (take 1 next) ≡ false → pop (kept gone next) ≡ after_run gone p ks i (kept gone deque))
        → (p ≡ work_first → EndToEnd ks next (frontier_end ks ph))
        → PhaseFacts p ks ph (log ++ (i ∷ [])) next
    unfolding sum any
    runs-into next weighs chain alone ends =
        record {
          begins = f.begins;
          cover = λ whole each v. omega (arith, f.cover whole each v, weighs whole each v, sum_append each log (i ∷ []));
          chain = chain;
          order = λ gone a n.
              let ran = any_append gone (log ++ (i ∷ [])) (take 1 next) n in
              let held = (or_none (gone i) false (any_append gone log (i ∷ []) ran.0).1).0 in
              let m = length ks - length (log ++ (i ∷ [])) in
              let left : length ks - length log ≡ suc m = omega (arith, log-short, length-append log (i ∷ [])) in
              rw (alone gone ran.1, append_assoc, ← alone-step p ks gone m i deque held, ← left) (f.order gone a ran.0);
          frontier = ends;
        }

    runs_by : (b : Bool) → is_end (kind_at ks i) ≡ b → PhaseFacts p ks ph (log ++ (i ∷ [])) (stack (after_run (λ x. false) p ks i deque))
    unfolding any sum cont
    runs_by true e =
        rw (← after-ended (λ x. false) p ks i deque e, stack-pop deque)
        (runs-into deque (λ whole each v. omega (arith, v.end i here e)) (chain_rest i deque f.chain)
        (λ gone n. after-ended gone p ks i (kept gone deque) e) (λ w. ends_rest ks (frontier_end ks ph) i deque (f.frontier w)))
    runs_by false e =
        let inside = holds-inside ks sh p i here e in
        rw (← after_kept (λ x. false) p ks i deque e refl, stack-pop)
        (runs-into (holds p ks i ∷ pushes p ks i ∷ deque) (λ whole each v. omega (arith, run_weighs ks sh p whole each v i here e))
        (i, refl, e, inside.0, inside.1, f.chain)
        (λ gone n. kept-opens p ks gone i deque e (or_none (gone (holds p ks i)) false n).0)
        (λ w.
        let pushed = sym (first-pushes p ks i w) in
        let ends = ends_same ks (frontier_end ks ph) i (cont ks i) deque (cont-inside ks sh i here e).3 (f.frontier w) in
        rw (first_holds p ks i w)
        (pushed, subst (λ (x : ℕ). EndToEnd ks (x ∷ deque) (frontier_end ks ph)) pushed ends)))

  pub phase_runs : (ph : Phase) (log : List ℕ) (i : ℕ) (deque : List ℕ) → PhaseFacts p ks ph log (i ∷ deque)
      → PhaseFacts p ks ph (log ++ (i ∷ [])) (stack (after_run (λ x. false) p ks i deque))
  phase_runs ph log i deque f = runs_by ph log i deque f (is_end (kind_at ks i)) refl

  robbed : (ph : Phase) (log : List ℕ) (i : ℕ) (front : List ℕ) (o : ℕ) → PhaseFacts p ks ph log (i ∷ front ++ (o ∷ []))
      → PhaseFacts p ks (record { worker = ph.worker; first = ph.first; stolen = ph.stolen ++ (o ∷ []) }) log (i ∷ front)
  unfolding sum frontier_end
  robbed ph log i front o f =
      record {
        begins = f.begins;
        cover = λ whole each v.
            omega (arith, f.cover whole each v, sum_append whole front (o ∷ []), sum_append whole ph.stolen (o ∷ []));
        chain = chain-robbed i front o f.chain;
        order = λ gone a n.
            let both = all_last gone ph.stolen o a in
            rw (← kept-last gone (i ∷ front) o both.1) (f.order gone both.0 n);
        frontier = λ w. rw (last_stolen_lem ph.stolen o, frontier_end) (ends_robbed ks (frontier_end ks ph) i front o (f.frontier w));
      }

  pub phase_robbed : (ph : Phase) (log : List ℕ) (i : ℕ) (deque : List ℕ) → (length deque ≡ 0 → ⊥) → PhaseFacts p ks ph log (i ∷ deque)
      → PhaseFacts p ks (record { worker = ph.worker; first = ph.first; stolen = ph.stolen ++ (oldest deque ∷ []) })
      log (i ∷ drop_last deque)
  phase_robbed ph log i deque n f = robbed ph log i (drop_last deque) (oldest deque) (rw (oldest-last deque n) at f)
