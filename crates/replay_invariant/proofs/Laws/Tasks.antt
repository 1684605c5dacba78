-- The steps of one task, by their ordinals: where they stand, which of them opens, and how many children the task has.
-- `task_step` and `child_count` are document 01's words; a walk from continuation to continuation finds the same steps.
use Prim.Native.Nat.{ℕ, zero, suc, pred, ◌+◌, ◌≤◌, ◌<◌}
use Rattle.std.specs.Prelude.{◌≡◌, Bool, true, false, cond, List, length, leb}
use Rattle.std.proofs.Math.Path.{refl, sym, ap}
use Rattle.std.proofs.Common.{◌∙◌}
use Rattle.std.proofs.Math.Logic.{⊎_elim}
use Rattle.std.proofs.Math.Option.{none, some}
use Rattle.std.proofs.Math.Decide.{ℕ_discrete}
use native.Mathlib.Omega.{arith}
use borrow.Author.Tests.{le-leb, lt-leb}
use Rattle.rules.specs.Tree.{kind_at, is_end, task, ordinal, task_end, cont}
use Rattle.rules.specs.Traces.{child_count, task_step}
use Rattle.tree_scan.specs.Laws.Shape.{Shape, after, child-inside, tree-ind}
use Rattle.tree_scan.specs.Laws.Frames.{end_at, size_at, cont-after, end_size}
use Rattle.tree_scan.specs.Laws.Places.{Part, part, task-child, ordinal-child, task-cont as cont-task, ordinal-cont, last_step}
use Rattle.tree_scan.specs.Laws.Places.{root-first}
use Rattle.run_invariant.proofs.Laws.Counts.{not_so}
use Rattle.run_invariant.proofs.Laws.Weights.{cont-inside}
use Rattle.replay_invariant.specs.Terms.{hopped}

module _ (ks : List ℕ) (sh : Shape (length ks) (end_at ks) (size_at ks)) where
  -- Induction over the steps of each task: its first step, and a continuation from the step that opens the child before it.
  module _ (P : ℕ → Type 0) (at-root : P 0) (child : (q : ℕ) → q < length ks → is_end (kind_at ks q) ≡ false → P (suc q))
      (rest : (q : ℕ) → q < length ks → is_end (kind_at ks q) ≡ false → P q → P (cont ks q)) where
    from-part : (x : ℕ) → Part ks x → ((q : ℕ) → q < x → P q) → P x
    unfolding end_at
    from-part x p before =
        let c = cont-inside ks sh p.of p.within p.opens in
        ⊎_elim (λ e. rw e (child p.of p.within p.opens))
        (λ e. rw e (rest p.of p.within p.opens (before p.of (omega arith))))
        p.which

    from-before : (x : ℕ) → x < length ks → ((q : ℕ) → q < x → P q) → P x
    from-before zero h before = at-root
    from-before (suc x) h before = from-part (suc x) (part ks sh (suc x) (omega arith) h) before

    by-bound : (m x : ℕ) → x < m → x < length ks → P x
    by-bound zero x l h = absurd (omega arith)
    by-bound (suc m) x l h = from-before x h (λ q b. by-bound m q (omega arith) (omega arith))

    task-ind : (x : ℕ) → x < length ks → P x
    task-ind x h = by-bound (suc x) x (omega arith) h

  -- A step is its task's step of its ordinal.
  StepOf : ℕ → Type 0
  StepOf x = task_step ks (task ks x) (ordinal ks x) ≡ x

  step-root : StepOf 0
  unfolding StepOf task_step
  step-root = rw ((root-first ks).0, (root-first ks).1)

  step-child : (q : ℕ) → q < length ks → is_end (kind_at ks q) ≡ false → StepOf (suc q)
  unfolding StepOf task_step end_at
  step-child q h e = rw (ordinal-child ks sh q h e, task-child ks sh q h e)

  step_rest : (q : ℕ) → q < length ks → is_end (kind_at ks q) ≡ false → StepOf q → StepOf (cont ks q)
  unfolding StepOf task_step end_at
  step_rest q h e s =
      rw (ordinal-cont ks sh q h e)
      (ap (λ t. cont ks (task_step ks t (ordinal ks q))) (cont-task ks sh q h e) ∙ ap (cont ks) s)

  pub step_of : (x : ℕ) → x < length ks → task_step ks (task ks x) (ordinal ks x) ≡ x
  unfolding StepOf
  step_of = task-ind StepOf step-root step-child step_rest

  -- A task, named by its first step, ends where every step's of it does.
  SameEnd : ℕ → Type 0
  SameEnd x = task_end ks (task ks x) ≡ task_end ks x

  same_root : SameEnd 0
  unfolding SameEnd
  same_root = rw (root-first ks).0 refl

  same_child : (q : ℕ) → q < length ks → is_end (kind_at ks q) ≡ false → SameEnd (suc q)
  unfolding SameEnd end_at
  same_child q h e = rw (task-child ks sh q h e) refl

  same_rest : (q : ℕ) → q < length ks → is_end (kind_at ks q) ≡ false → SameEnd q → SameEnd (cont ks q)
  unfolding SameEnd end_at
  same_rest q h e same = rw (cont-task ks sh q h e) (same ∙ sym (cont-inside ks sh q h e).3)

  pub task_ends_lem : (x : ℕ) → x < length ks → task_end ks (task ks x) ≡ task_end ks x
  unfolding SameEnd
  task_ends_lem = task-ind SameEnd same_root same_child same_rest

  -- The ordinals grow up to the task's end.
  Grows : ℕ → Type 0
  Grows x = ordinal ks x ≤ ordinal ks (pred (task_end ks x))

  last-self : (x : ℕ) → x < length ks → is_end (kind_at ks x) ≡ true → pred (task_end ks x) ≡ x
  unfolding end_at
  last-self x h e = omega (arith, end_size ks sh x h, (sh.at x h).leaf e)

  grows_end : (x : ℕ) → x < length ks → end_at ks x ≡ true → Grows x
  unfolding Grows end_at
  grows_end x h e = rw (last-self x h e) (omega arith)

  grows_open : (x : ℕ) → x < length ks → end_at ks x ≡ false → Grows (suc x) → Grows (after (size_at ks) x) → Grows x
  unfolding Grows end_at
  grows_open x h e child rest =
      let r = rw (← cont-after ks x h, (cont-inside ks sh x h e).3, ordinal-cont ks sh x h e) at rest in
      omega arith

  grows : (x : ℕ) → x < length ks → Grows x
  grows = tree-ind sh Grows grows_end grows_open

  count-last : (x : ℕ) → x < length ks → child_count ks (task ks x) ≡ ordinal ks (pred (task_end ks x))
  unfolding child_count
  count-last x h = rw (task_ends_lem x h)

  -- A task's end has its count of children for an ordinal, and no step has more.
  pub end_count : (x : ℕ) → x < length ks → is_end (kind_at ks x) ≡ true → ordinal ks x ≡ child_count ks (task ks x)
  end_count x h e = rw (count-last x h, last-self x h e)

  pub at_most_count : (x : ℕ) → x < length ks → ordinal ks x ≤ child_count ks (task ks x)
  unfolding Grows
  at_most_count x h = rw (count-last x h) (grows x h)

  count-opens : (x : ℕ) → x < length ks → ordinal ks x < child_count ks (task ks x) → is_end (kind_at ks x) ≡ false
  count-opens x h l = not_so (is_end (kind_at ks x)) (λ e. omega (arith, end_count x h e))

  -- Step y is the step of ordinal o in x's task, from x on.
  abbrev FromOn : ℕ → ℕ → ℕ → Type 0
  FromOn x o y = (x ≤ y) × (y < length ks) × (task ks y ≡ task ks x) × (ordinal ks y ≡ o) × (task_end ks y ≡ task_end ks x)

  from-self : (x o : ℕ) → x < length ks → ordinal ks x ≡ o → FromOn x o (task_step ks (task ks x) o)
  from-self x o h e = rw (← e, step_of x h) (omega arith, h, refl, refl, refl)

  from_next : (x o y : ℕ) → o < child_count ks (task ks x) → FromOn x o y
      → (is_end (kind_at ks y) ≡ false) × FromOn x (suc o) (cont ks y)
  unfolding end_at
  from_next x o y l f =
      let e = count-opens y f.1 (rw (f.2, f.3) l) in
      let c = cont-inside ks sh y f.1 e in
      (e, (omega arith, c.1, cont-task ks sh y f.1 e ∙ f.2, ordinal-cont ks sh y f.1 e ∙ ap suc f.3, c.3 ∙ f.4))

  -- The steps of x's task from x on.
  pub task_step_lem : (x o : ℕ) → x < length ks → ordinal ks x ≤ o → o ≤ child_count ks (task ks x)
      → (x ≤ task_step ks (task ks x) o)
      × (task_step ks (task ks x) o < length ks)
      × (task ks (task_step ks (task ks x) o) ≡ task ks x)
      × (ordinal ks (task_step ks (task ks x) o) ≡ o)
      × (task_end ks (task_step ks (task ks x) o) ≡ task_end ks x)
  unfolding task_step
  task_step_lem x zero h l u = from-self x 0 h (omega arith)
  task_step_lem x (suc o) h l u =
      elim (ℕ_discrete (ordinal ks x) (suc o)) [
        | yes e ↦ from-self x (suc o) h e
        | no n ↦ (from_next x o (task_step ks (task ks x) o) (omega arith) (task_step_lem x o h (omega arith) (omega arith))).1
      ]

  -- One of them past x is the continuation of an opening one before it, from x on.
  pub task-cont : (x o : ℕ) → x < length ks → ordinal ks x < o → o ≤ child_count ks (task ks x)
      → (q : ℕ) × (x ≤ q) × (q < length ks) × (is_end (kind_at ks q) ≡ false) × (task_step ks (task ks x) o ≡ cont ks q)
  unfolding task_step
  task-cont x zero h l u = absurd (omega arith)
  task-cont x (suc o) h l u =
      let s = task_step_lem x o h (omega arith) (omega arith) in
      (task_step ks (task ks x) o, s.0, s.1, (from_next x o (task_step ks (task ks x) o) (omega arith) s).0, refl)

  -- The walk from continuation to continuation.
  Hopped : ℕ → ℕ → Type 0
  Hopped m x =
      hopped ks m x
      ≡ cond (leb (ordinal ks x + m) (child_count ks (task ks x))) (some (task_step ks (task ks x) (ordinal ks x + m))) none

  hopped-none : (x : ℕ) → x < length ks → Hopped 0 x
  unfolding Hopped hopped
  hopped-none x h =
      let same : ordinal ks x + 0 ≡ ordinal ks x = omega arith in
      rw (same, le-leb (ordinal ks x) (child_count ks (task ks x)) (at_most_count x h), step_of x h)

  hopped_end : (m x : ℕ) → x < length ks → is_end (kind_at ks x) ≡ true → Hopped (suc m) x
  unfolding Hopped hopped
  hopped_end m x h e = rw (e, lt-leb (ordinal ks x + suc m) (child_count ks (task ks x)) (omega (arith, end_count x h e)))

  hopped_open : (m x : ℕ) → x < length ks → is_end (kind_at ks x) ≡ false → Hopped m (cont ks x) → Hopped (suc m) x
  unfolding Hopped hopped end_at
  hopped_open m x h e rest =
      let on : ordinal ks (cont ks x) + m ≡ ordinal ks x + suc m = omega (arith, ordinal-cont ks sh x h e) in
      rw e (rest ∙ rw (on, cont-task ks sh x h e))

  hopped-more : (m x : ℕ) → x < length ks → ((y : ℕ) → y < length ks → Hopped m y) → (b : Bool) → is_end (kind_at ks x) ≡ b
      → Hopped (suc m) x
  hopped-more m x h rest true e = hopped_end m x h e
  hopped-more m x h rest false e = hopped_open m x h e (rest (cont ks x) (cont-inside ks sh x h e).1)

  pub hopped-is : (m x : ℕ) → x < length ks
      → hopped ks m x
      ≡ cond (leb (ordinal ks x + m) (child_count ks (task ks x))) (some (task_step ks (task ks x) (ordinal ks x + m))) none
  unfolding Hopped
  hopped-is zero x h = hopped-none x h
  hopped-is (suc m) x h = hopped-more m x h (hopped-is m) (is_end (kind_at ks x)) refl

  -- The child whose end stands just before a continuation.
  pub child_before : (q : ℕ) → q < length ks → is_end (kind_at ks q) ≡ false → task ks (pred (cont ks q)) ≡ suc q
  unfolding end_at after
  child_before q h e =
      rw (cont-after ks q h) ((last_step ks sh (suc q) (child-inside sh q h e)).1 ∙ task-child ks sh q h e)
