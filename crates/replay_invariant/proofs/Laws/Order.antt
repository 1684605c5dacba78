-- Running a phase alone runs each step that it covers once, and no other.
use Prim.Native.Nat.{ℕ, zero, suc, ◌+◌, ◌-◌, ◌*◌, ◌≤◌, ◌<◌}
use Rattle.std.specs.Prelude.{◌≡◌, ◌&&◌, eqb, ltb, leb}
use Rattle.std.proofs.Math.Path.{refl}
use Rattle.std.proofs.Common.{sym, ◌∙◌, true≢false, add-mul, one-mul, zero-mul, ltb-true, ltb-false, eqb-true, le-leb}
use Rattle.std.proofs.Math.Bool.{Bool, true, false, cond, and_self_left}
use mathlib.Core.List.{List, [], ◌∷◌, ◌++◌, append_assoc, append-nil}
use native.Mathlib.Omega.{arith}
use Rattle.std.proofs.Math.ListN.{length, length-append}
use Rattle.rules.specs.Bytes.{count, any, sum}
use Rattle.rules.specs.Tree.{kind_at, is_end, task_end, cont}
use Rattle.rules.specs.Scheduling.{work_first, holds, pushes, pop, after_run, Phase}
use Rattle.rules.specs.Traces.{from_step, covers, run_alone, running_order}
use Rattle.tree.specs.Laws.Counts.{count_snoc}
use Rattle.tree_scan.specs.Laws.Shape.{Shape}
use Rattle.tree_scan.specs.Laws.Frames.{end_at, size_at, end_size}
use Rattle.run_invariant.specs.Invariant.{self, frontier_end}
use Rattle.run_invariant.proofs.Laws.Counts.{and_both, Has, has_head, has_cases, has_none, sum_ones, not_so, at_most_one, has_tail}
use Rattle.run_invariant.proofs.Laws.Counts.{sum_same, sum_none, sum_self}
use Rattle.run_invariant.proofs.Laws.Weights.{sum_append, span, end_within, cont-inside, span_weighs, size_weighs}
use Rattle.run_invariant.proofs.Laws.Weights.{run_weighs, from-self}
use Rattle.run_invariant.proofs.Laws.Phase.{first_holds, first-pushes, after-ended, after-dropped, after_kept}
use Rattle.replay_invariant.specs.Invariant.{Cut}
use Rattle.replay_invariant.proofs.Laws.Parts.{covered-inside, first-covered, held-covered, pushed-covered, stolen-uncovered}

-- The sum of `f` over the steps of the part from x that a phase covers.
unfoldable pub covered_from : List ℕ → Phase → (ℕ → ℕ) → ℕ → ℕ
covered_from ks ph f x = sum (λ j. cond (from_step ks x j && covers ks ph j) (f j) 0) (count 0 (length ks))

-- A phase that runs alone has run the steps of `log` and has those of `stack` pending: the held step, then the deque, newest
-- first.
pub record Alone (p : ℕ) (ks : List ℕ) (ph : Phase) (log stack : List ℕ) : Type 0 where
  pub order : log ++ run_alone (λ x. any (eqb x) ph.stolen) p ks (length ks - length log) (pop stack) ≡ running_order p ks ph
  pub covered : (x : ℕ) → Has stack x → covers ks ph x ≡ true
  pub left : (f : ℕ → ℕ) → sum f log + sum (covered_from ks ph f) stack ≡ covered_from ks ph f ph.first
  -- Each pending step has its part to run, and they are apart: so there are not many.
  pub room : sum (λ x. suc (size_at ks x)) stack ≤ suc (length ks)

-- ---- sums

-- A sum that is three sums member by member.
sum_parts : (f g h k : ℕ → ℕ) → ((j : ℕ) → f j ≡ g j + h j + k j) → (l : List ℕ) → sum f l ≡ sum g l + sum h l + sum k l
unfolding sum
sum_parts f g h k e [] = refl
sum_parts f g h k e (j ∷ l) = omega (arith, e j, sum_parts f g h k e l)

-- A count of places is at most their number.
sum_few : (g : ℕ → Bool) (m a : ℕ) → sum (λ j. cond (g j) 1 0) (count a m) ≤ m
unfolding sum count
sum_few g zero a = omega arith
sum_few g (suc m) a = omega (arith, at_most_one (g a), sum_few g m (suc a))

-- What is chosen by two tests, and by one that implies the other, as products.
scaled : (a v : Bool) (n : ℕ) → cond (a && v) n 0 ≡ cond a 1 0 * cond v n 0
scaled true v n = sym (one-mul (cond v n 0))
scaled false v n = sym (zero-mul (cond v n 0))

scaled_within : (s v : Bool) (n : ℕ) → (s ≡ true → v ≡ true) → cond s n 0 ≡ cond s 1 0 * cond v n 0
scaled_within true v n t = rw (t refl) (sym (one-mul n))
scaled_within false v n t = sym (zero-mul (cond v n 0))

chosen_parts : (a s b c v : Bool) (n : ℕ) → cond a 1 0 ≡ cond s 1 0 + cond b 1 0 + cond c 1 0 → (s ≡ true → v ≡ true)
    → cond (a && v) n 0 ≡ cond s n 0 + cond (b && v) n 0 + cond (c && v) n 0
chosen_parts a s b c v n e t =
    rw (scaled a v n, scaled_within s v n t, scaled b v n, scaled c v n, e)
    (rw (add-mul (cond s 1 0 + cond b 1 0) (cond c 1 0) (cond v n 0), add-mul (cond s 1 0) (cond b 1 0) (cond v n 0)) refl)

chosen_self : (a s v : Bool) (n : ℕ) → ◌≡◌ {A = ℕ} (cond a 1 0) (cond s 1 0) → (s ≡ true → v ≡ true)
    → cond (a && v) n 0 ≡ cond s n 0
chosen_self a s v n e t = rw (scaled a v n, scaled_within s v n t, e) refl

-- ---- one step of a phase that runs alone

module _ (gone : ℕ → Bool) (p : ℕ) (ks : List ℕ) where
  alone-step : (m x : ℕ) (deque : List ℕ)
      → run_alone gone p ks (suc m) (pop (x ∷ deque)) ≡ x ∷ run_alone gone p ks m (after_run gone p ks x deque)
  unfolding run_alone pop
  alone-step m x deque = refl

  pub alone-none : (m : ℕ) → run_alone gone p ks m (pop []) ≡ []
  unfolding run_alone pop
  alone-none zero = refl
  alone-none (suc m) = refl

module _ (p : ℕ) (ks : List ℕ) (sh : Shape (length ks) (end_at ks) (size_at ks)) (ph : Phase) (cut : Cut p ks ph) where
  -- All that a phase covers is in the part from its first step.
  pub covered_first : (f : ℕ → ℕ)
      → covered_from ks ph f ph.first ≡ sum (λ j. cond (covers ks ph j) (f j) 0) (count 0 (length ks))
  unfolding covered_from covers
  covered_first f = simp and_self_left

  -- ---- what is covered of a part

  inside : (x : ℕ) → covers ks ph x ≡ true → x < length ks
  inside x c = (covered-inside ks sh p ph cut x c).2

  only_self : (x j : ℕ) → covers ks ph x ≡ true → eqb x j ≡ true → covers ks ph j ≡ true
  only_self x j c e = rw (eqb-true x j e) at c

  covered_end : (f : ℕ → ℕ) (x : ℕ) → covers ks ph x ≡ true → is_end (kind_at ks x) ≡ true → covered_from ks ph f x ≡ f x
  unfolding covered_from span self
  covered_end f x c e =
      sum_same (λ j. cond (from_step ks x j && covers ks ph j) (f j) 0) (λ j. cond (eqb x j) (f j) 0)
      (λ j. chosen_self (from_step ks x j) (eqb x j) (covers ks ph j) (f j) ((span_weighs ks sh j).end x (inside x c) e)
      (only_self x j c)) (count 0 (length ks))
      ∙ sum_self f x (length ks) 0 (omega arith) (omega (arith, inside x c))

  covered_opens : (f : ℕ → ℕ) (x : ℕ) → covers ks ph x ≡ true → is_end (kind_at ks x) ≡ false
      → covered_from ks ph f x ≡ f x + covered_from ks ph f (holds p ks x) + covered_from ks ph f (pushes p ks x)
  unfolding covered_from span self
  covered_opens f x c e =
      let h = holds p ks x in
      let q = pushes p ks x in
      let part : ℕ → ℕ → ℕ = λ y j. cond (from_step ks y j && covers ks ph j) (f j) 0 in
      omega (
        arith,
        sum_parts (part x) (λ j. cond (eqb x j) (f j) 0) (part h) (part q)
            (λ j. chosen_parts (from_step ks x j) (eqb x j) (from_step ks h j) (from_step ks q j) (covers ks ph j) (f j)
            (run_weighs ks sh p (span ks j) (self j) (span_weighs ks sh j) x (inside x c) e) (only_self x j c))
            (count 0 (length ks)),
        sum_self f x (length ks) 0 (omega arith) (omega (arith, inside x c)),
      )

  covered_gone : (f : ℕ → ℕ) (s : ℕ) → Has ph.stolen s → covered_from ks ph f s ≡ 0
  unfolding covered_from
  covered_gone f s m =
      sum_none (λ j. cond (from_step ks s j && covers ks ph j) (f j) 0) 0 (count 0 (length ks)) (λ i. by _ (from_step ks s _) refl)
    where
      by : (j : ℕ) (b : Bool) → from_step ks s j ≡ b → cond (b && covers ks ph j) (f j) 0 ≡ 0
      by j true e = rw (stolen-uncovered ks sh p ph cut s j m e)
      by j false e = refl

  covered_some : (x : ℕ) → covers ks ph x ≡ true → 1 ≤ covered_from ks ph (λ j. 1) x
  covered_some x c = by (is_end (kind_at ks x)) refl
    where
      by : (b : Bool) → is_end (kind_at ks x) ≡ b → 1 ≤ covered_from ks ph (λ j. 1) x
      by true e = omega (arith, covered_end (λ j. 1) x c e)
      by false e = omega (arith, covered_opens (λ j. 1) x c e)

  covered_few : covered_from ks ph (λ j. 1) ph.first ≤ length ks
  unfolding covered_from
  covered_few = sum_few (λ j. from_step ks ph.first j && covers ks ph j) (length ks) 0

  -- A pushed step is stolen where it is not covered, and no covered step is stolen.
  uncovered_stolen : (x : ℕ) → covers ks ph x ≡ true → is_end (kind_at ks x) ≡ false → covers ks ph (pushes p ks x) ≡ false
      → Has ph.stolen (pushes p ks x)
  uncovered_stolen x c e n = by (any (eqb (pushes p ks x)) ph.stolen) refl
    where
      by : (b : Bool) → any (eqb (pushes p ks x)) ph.stolen ≡ b → b ≡ true
      by true g = refl
      by false g = absurd (true≢false (sym (pushed-covered ks sh p ph cut x c e (λ m. true≢false (sym m ∙ g))) ∙ n))

  covered_unstolen : (x : ℕ) → covers ks ph x ≡ true → any (eqb x) ph.stolen ≡ false
  covered_unstolen x c =
      not_so (any (eqb x) ph.stolen) (λ g.
      true≢false (sym c ∙ stolen-uncovered ks sh p ph cut x x g (from-self ks sh x (inside x c))))

  -- ---- runs

  pub alone-start : Alone p ks ph [] (ph.first ∷ [])
  unfolding sum pop running_order
  alone-start =
      record {
        order = let all : length ks - 0 ≡ length ks = omega arith in rw all refl;
        covered = λ x m. has_cases x ph.first [] m (λ s. rw s (first-covered ks sh p ph cut)) (λ t. has_none x t);
        left = λ f. omega arith;
        room = omega (arith, (sh.at ph.first cut.begins).fits);
      }

  module _ (log : List ℕ) (x : ℕ) (deque : List ℕ) (a : Alone p ks ph log (x ∷ deque)) where
    here : covers ks ph x ≡ true
    here = a.covered x (has_head x deque)

    behind : (y : ℕ) → Has deque y → covers ks ph y ≡ true
    behind y m = a.covered y (has_tail y x deque m)

    log-short : length log < length ks
    unfolding sum
    log-short = omega (arith, a.left (λ j. 1), sum_ones log, covered_some x here, covered_few)

    -- What is common to the three, `next` being what is pending after the step.
    runs-into : (next : List ℕ) → pop next ≡ after_run (λ y. any (eqb y) ph.stolen) p ks x deque
        → ((y : ℕ) → Has next y → covers ks ph y ≡ true)
        → ((f : ℕ → ℕ) → f x + sum (covered_from ks ph f) next ≡ covered_from ks ph f x + sum (covered_from ks ph f) deque)
        → sum (λ y. suc (size_at ks y)) next ≤ suc (size_at ks x) + sum (λ y. suc (size_at ks y)) deque
        → Alone p ks ph (log ++ (x ∷ [])) next
    unfolding sum
    runs-into next pops covered left room =
        let gone : ℕ → Bool = λ y. any (eqb y) ph.stolen in
        let m = length ks - length (log ++ (x ∷ [])) in
        let more : length ks - length log ≡ suc m = omega (arith, log-short, length-append log (x ∷ [])) in
        record {
          order = rw (pops, append_assoc, ← alone-step gone p ks m x deque, ← more) a.order;
          covered = covered;
          left = λ f. omega (arith, a.left f, left f, sum_append f log (x ∷ []));
          room = omega (arith, a.room);
        }

  -- A step is run: an end, an opening step whose pushed part is stolen, and one whose pushed part is kept.
  pub alone_end : (log : List ℕ) (x : ℕ) (deque : List ℕ) → Alone p ks ph log (x ∷ deque) → is_end (kind_at ks x) ≡ true
      → Alone p ks ph (log ++ (x ∷ [])) deque
  alone_end log x deque a e =
      let c = here log x deque a in
      runs-into log x deque a deque (after-ended (λ y. any (eqb y) ph.stolen) p ks x deque e) (behind log x deque a)
      (λ f. omega (arith, covered_end f x c e)) (omega arith)

  pub alone_drops : (log : List ℕ) (x : ℕ) (deque : List ℕ) → Alone p ks ph log (x ∷ deque) → is_end (kind_at ks x) ≡ false
      → covers ks ph (pushes p ks x) ≡ false → Alone p ks ph (log ++ (x ∷ [])) (holds p ks x ∷ deque)
  unfolding sum
  alone_drops log x deque a e n =
      let c = here log x deque a in
      let g = uncovered_stolen x c e n in
      runs-into log x deque a (holds p ks x ∷ deque) (after-dropped (λ y. any (eqb y) ph.stolen) p ks x deque e g)
      (λ y m. has_cases y (holds p ks x) deque m (λ s. rw s (held-covered ks sh p ph cut x c e)) (behind log x deque a y))
      (λ f. omega (arith, covered_opens f x c e, covered_gone f (pushes p ks x) g))
      (omega (arith, run_weighs ks sh p (size_at ks) (λ i. 1) (size_weighs ks sh) x (inside x c) e))

  pub alone_keeps : (log : List ℕ) (x : ℕ) (deque : List ℕ) → Alone p ks ph log (x ∷ deque) → is_end (kind_at ks x) ≡ false
      → covers ks ph (pushes p ks x) ≡ true → Alone p ks ph (log ++ (x ∷ [])) (holds p ks x ∷ pushes p ks x ∷ deque)
  unfolding sum
  alone_keeps log x deque a e k =
      let c = here log x deque a in
      let g = covered_unstolen (pushes p ks x) k in
      runs-into log x deque a (holds p ks x ∷ pushes p ks x ∷ deque)
      (after_kept (λ y. any (eqb y) ph.stolen) p ks x deque e g)
      (λ y m. has_cases y (holds p ks x) (pushes p ks x ∷ deque) m (λ s. rw s (held-covered ks sh p ph cut x c e))
      (λ t. has_cases y (pushes p ks x) deque t (λ s. rw s k) (behind log x deque a y)))
      (λ f. omega (arith, covered_opens f x c e))
      (omega (arith, run_weighs ks sh p (size_at ks) (λ i. 1) (size_weighs ks sh) x (inside x c) e))

  -- The phase ends where nothing is pending.
  pub alone-done : (log : List ℕ) → Alone p ks ph log [] → log ≡ running_order p ks ph
  alone-done log a =
      sym (append-nil log) ∙ (rw (alone-none (λ y. any (eqb y) ph.stolen) p ks (length ks - length log)) at a.order)

  -- ---- to the end

  -- Every step keeps statement P on the log and what is pending: then it holds at the end.
  Kept : (List ℕ → List ℕ → Type 0) → Type 0
  Kept P =
      (log : List ℕ) (x : ℕ) (deque : List ℕ) → Alone p ks ph log (x ∷ deque) → P log (x ∷ deque)
      → (is_end (kind_at ks x) ≡ true → P (log ++ (x ∷ [])) deque)
      × (is_end (kind_at ks x) ≡ false → covers ks ph (pushes p ks x) ≡ false → P (log ++ (x ∷ [])) (holds p ks x ∷ deque))
      × (is_end (kind_at ks x) ≡ false → covers ks ph (pushes p ks x) ≡ true
      → P (log ++ (x ∷ [])) (holds p ks x ∷ pushes p ks x ∷ deque))

  module _ (P : List ℕ → List ℕ → Type 0) (kept : Kept P) where
    next-by : (log : List ℕ) (x : ℕ) (deque : List ℕ) → Alone p ks ph log (x ∷ deque) → P log (x ∷ deque)
        → (b k : Bool) → is_end (kind_at ks x) ≡ b → covers ks ph (pushes p ks x) ≡ k
        → (next : List ℕ) × Alone p ks ph (log ++ (x ∷ [])) next × P (log ++ (x ∷ [])) next
    unfolding Kept
    next-by log x deque a h true k e c = (deque, alone_end log x deque a e, (kept log x deque a h).0 e)
    next-by log x deque a h false false e c = (holds p ks x ∷ deque, alone_drops log x deque a e c, (kept log x deque a h).1 e c)
    next-by log x deque a h false true e c =
        (holds p ks x ∷ pushes p ks x ∷ deque, alone_keeps log x deque a e c, (kept log x deque a h).2 e c)

    run_out : (m : ℕ) (log stack : List ℕ) → Alone p ks ph log stack → P log stack → sum (covered_from ks ph (λ j. 1)) stack ≤ m
        → (done : List ℕ) × Alone p ks ph done [] × P done []
    unfolding sum
    run_out zero log [] a h l = (log, a, h)
    run_out (suc m) log [] a h l = (log, a, h)
    run_out zero log (x ∷ deque) a h l = absurd (omega (arith, covered_some x (here log x deque a)))
    run_out (suc m) log (x ∷ deque) a h l =
        let n = next-by log x deque a h (is_end (kind_at ks x)) (covers ks ph (pushes p ks x)) refl refl in
        run_out m (log ++ (x ∷ [])) n.0 n.1 n.2
        (omega (arith, a.left (λ j. 1), n.1.left (λ j. 1), sum_append (λ j. 1) log (x ∷ [])))

    at-end : P [] (ph.first ∷ []) → Alone p ks ph (running_order p ks ph) [] × P (running_order p ks ph) []
    at-end h =
        let e = run_out (sum (covered_from ks ph (λ j. 1)) (ph.first ∷ [])) [] (ph.first ∷ []) alone-start h (omega arith) in
        rw (← alone-done e.0 e.1) (e.1, e.2)

  -- The running order has each step that the phase covers once, and no other.
  pub order_sum : (f : ℕ → ℕ) → sum f (running_order p ks ph) ≡ sum (λ j. cond (covers ks ph j) (f j) 0) (count 0 (length ks))
  unfolding sum Kept
  order_sum f =
      let end = at-end (λ log stack. 0 ≤ 0) (λ log x deque a h. (λ e. h, λ e c. h, λ e c. h)) (omega arith) in
      omega (arith, end.0.left f, covered_first f)

  -- No part is empty: steps and the sizes of their parts are together at least twice the steps.
  sizes_room : (l : List ℕ) → ((y : ℕ) → Has l y → y < length ks) → length l + length l ≤ sum (λ y. suc (size_at ks y)) l
  unfolding sum
  sizes_room [] t = omega arith
  sizes_room (x ∷ l) t =
      omega (arith, sizes_room l (λ y m. t y (has_tail y x l m)), (sh.at x (t x (has_head x l))).some)

  -- What is pending is in the tree, still to be run, and fits.
  pub alone_within : (log : List ℕ) (x : ℕ) (deque : List ℕ) → Alone p ks ph log (x ∷ deque)
      → (x < length ks) × (length log < length (running_order p ks ph)) × (suc (length deque + length deque) ≤ length ks)
  unfolding sum
  alone_within log x deque a =
      let c = here log x deque a in
      let total = order_sum (λ j. 1) in
      let room = sizes_room deque (λ y m. inside y (behind log x deque a y m)) in (
        inside x c,
        omega (arith, a.left (λ j. 1), sum_ones log, sum_ones (running_order p ks ph), covered_first (λ j. 1), covered_some x c),
        omega (arith, a.room, (sh.at x (inside x c)).some),
      )

  -- ---- work-first

  -- From the held step on, each pending step stands where the task of the one before it ends, the first at `at`, and the last
  -- one's task ends no earlier than the frontier task.
  Lined : ℕ → List ℕ → Type 0
  Lined at [] = frontier_end ks ph ≤ at
  Lined at (x ∷ r) = (x ≡ at) × Lined (task_end ks x) r

  -- What has run is an interval, and goes on so.
  Rising : List ℕ → List ℕ → Type 0
  Rising log stack =
      (log ≡ count ph.first (length log)) × Lined (ph.first + length log) stack × (ph.first + length log ≤ frontier_end ks ph)

  module _ (w : p ≡ work_first) where
    below-frontier : (j : ℕ) → covers ks ph j ≡ true → j < frontier_end ks ph
    below-frontier j c =
        ltb-true j (frontier_end ks ph) (and_both (leb ph.first j) (ltb j (frontier_end ks ph)) (sym (cut.interval w j) ∙ c)).1

    past-frontier : (j : ℕ) → ph.first ≤ j → covers ks ph j ≡ false → frontier_end ks ph ≤ j
    past-frontier j l c =
        ltb-false j (frontier_end ks ph) (rw (le-leb ph.first j l) at (sym (cut.interval w j) ∙ c))

    frontier-within : frontier_end ks ph ≤ task_end ks ph.first
    frontier-within = by (covers ks ph (task_end ks ph.first)) refl
      where
        by : (b : Bool) → covers ks ph (task_end ks ph.first) ≡ b → frontier_end ks ph ≤ task_end ks ph.first
        by true c = absurd (omega (arith, covered-inside ks sh p ph cut (task_end ks ph.first) c))
        by false c = past-frontier (task_end ks ph.first) (omega (arith, end_within ks sh ph.first cut.begins)) c

    -- Where the continuation is stolen, nothing is pending behind.
    lined-drops : (c e : ℕ) (deque : List ℕ) → ph.first ≤ c → c < e → covers ks ph c ≡ false
        → ((y : ℕ) → Has deque y → covers ks ph y ≡ true) → Lined e deque → Lined c deque
    unfolding Lined
    lined-drops c e [] l h n behind lined = past-frontier c l n
    lined-drops c e (y ∷ r) l h n behind lined =
        absurd (omega (arith, past-frontier c l n, below-frontier y (behind y (has_head y r))))

    -- The child is held, and its task ends just before the continuation.
    lined-held : (deque : List ℕ) (x : ℕ) → Lined (cont ks x) deque → Lined (suc x) (holds p ks x ∷ deque)
    unfolding Lined cont
    lined-held deque x lined = (first_holds p ks x w, rw (first_holds p ks x w) lined)

    rising-kept : Kept Rising
    unfolding Kept Rising Lined end_at
    rising-kept log x deque a (upto, lined, l) =
        let c = here log x deque a in
        let some = inside x c in
        let size = end_size ks sh x some in
        let more : length (log ++ (x ∷ [])) ≡ suc (length log) = omega (arith, length-append log (x ∷ [])) in
        let at : ph.first + suc (length log) ≡ suc x = omega arith in
        let grown : log ++ (x ∷ []) ≡ count ph.first (suc (length log)) =
        rw (count_snoc (length log) ph.first, ← upto, ← lined.0) refl in
        let low : suc x ≤ frontier_end ks ph = below-frontier x c in
        rw (more, at) (
          λ e.
              let one : task_end ks x ≡ suc x = omega (arith, (sh.at x some).leaf e) in
              (grown, rw one at lined.1, low),
          λ e n.
              let inside-x = cont-inside ks sh x some e in (
                grown,
                lined-held deque x (lined-drops (cont ks x) (task_end ks x) deque (omega arith) inside-x.2
                    (rw (first-pushes p ks x w) at n) (behind log x deque a) lined.1),
                low,
              ),
          λ e k.
              let inside-x = cont-inside ks sh x some e in (
                grown,
                lined-held (pushes p ks x ∷ deque) x
                    (first-pushes p ks x w, rw (first-pushes p ks x w, inside-x.3) lined.1),
                low,
              ),
        )

  -- Work-first it is an interval of serial numbers, in order.
  pub order_interval : p ≡ work_first → running_order p ks ph ≡ count ph.first (frontier_end ks ph - ph.first)
  unfolding Rising Lined count
  order_interval w =
      let end = (at-end Rising (rising-kept w) (refl, (omega arith, frontier-within w), omega (arith, cut.some w))).1 in
      let all : length (running_order p ks ph) ≡ frontier_end ks ph - ph.first = omega (arith, end.1, end.2) in
      rw (← all) end.0
