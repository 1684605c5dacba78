-- Where a step stands: its task, its ordinal and the finish child before it, from the opening step that it is a part of. Every
-- step but the first is the child of an opening step or its continuation.
use Prim.Native.Nat.{ℕ, suc, pred, ◌+◌, ◌<◌, zero, ◌≤◌}
use Rattle.std.specs.Prelude.{◌≡◌, true, false, cond, ◌⊎◌, length}
use Rattle.std.proofs.Math.Path.{refl, sym, ap}
use Rattle.std.proofs.Common.{◌∙◌, arith}
use mathlib.Core.List.{List, ◌∷◌}
use Rattle.std.proofs.Math.Logic.{inl, inr, ⊎_elim}
use Rattle.std.proofs.Math.Option.{none, some}
use Rattle.std.proofs.Math.Decide.{ℕ_discrete}
use Rattle.rules.specs.Tree.{is_finish, kind_at, Task, innermost, leave, enter, task_at, task, ordinal, cont, finish_child}
use Rattle.rules.specs.Tree.{finish_before, root, open_tasks}
use Rattle.tree_scan.specs.Laws.Scans.{open_at, open_step}
use Rattle.tree_scan.specs.Laws.Shape.{after, Inside, Shape, child-inside, after_end, tree-ind, inside_end, inside_parts}
use Rattle.tree_scan.specs.Laws.Shape.{inside-first}
use Rattle.tree_scan.specs.Laws.Frames.{end_at, size_at, cont-after}

-- Step j is a part of an opening step: its child or its continuation.
pub record Part (ks : List ℕ) (j : ℕ) : Type 0 where
  pub of : ℕ
  pub within : of < length ks
  pub opens : end_at ks of ≡ false
  pub which : (j ≡ suc of) ⊎ (j ≡ cont ks of)

-- The innermost task with one child more.
unfoldable grown : List Task → Task
grown ts = record { first = (innermost ts).first; children = suc (innermost ts).children }

task_open : (ks : List ℕ) (i : ℕ) → task ks i ≡ (innermost (open_at ks i)).first
unfolding task task_at open_at
task_open ks i = refl

ordinal_open : (ks : List ℕ) (i : ℕ) → ordinal ks i ≡ (innermost (open_at ks i)).children
unfolding ordinal task_at open_at
ordinal_open ks i = refl

-- Step 0 is the root's first.
pub root-first : (ks : List ℕ) → (task ks 0 ≡ 0) × (ordinal ks 0 ≡ 0)
unfolding task ordinal task_at open_tasks innermost root
root-first ks = (refl, refl)

module _ (ks : List ℕ) (sh : Shape (length ks) (end_at ks) (size_at ks)) where
  -- ---- open tasks

  -- In a child, the child is innermost.
  open_child : (i : ℕ) → i < length ks → end_at ks i ≡ false → open_at ks (suc i) ≡ enter (suc i) (open_at ks i)
  unfolding end_at
  open_child i h e = open_step ks i h ∙ rw e refl

  -- Past the end of a step's task, that task is left.
  Past : ℕ → Type 0
  Past i = open_at ks (i + size_at ks i) ≡ leave (open_at ks i)

  past_end : (i : ℕ) → i < length ks → end_at ks i ≡ true → Past i
  unfolding Past end_at
  past_end i h e =
      let next : i + size_at ks i ≡ suc i = omega (arith, (sh.at i h).leaf e) in
      rw next (open_step ks i h ∙ rw e refl)

  after-child : (i : ℕ) → i < length ks → end_at ks i ≡ false → Past (suc i)
      → open_at ks (after (size_at ks) i) ≡ grown (open_at ks i) ∷ leave (open_at ks i)
  unfolding Past after grown enter leave
  after-child i h e past = past ∙ ap leave (open_child i h e)

  past_parts : (i : ℕ) → i < length ks → end_at ks i ≡ false → Past (suc i) → Past (after (size_at ks) i) → Past i
  unfolding Past leave
  past_parts i h e child rest =
      let same = after_end sh i h e in
      rw (← same) (rest ∙ ap leave (after-child i h e child))

  open_past : (i : ℕ) → i < length ks → Past i
  open_past = tree-ind sh Past past_end past_parts

  open_cont : (i : ℕ) → i < length ks → end_at ks i ≡ false → open_at ks (cont ks i) ≡ grown (open_at ks i) ∷ leave (open_at ks i)
  open_cont i h e = rw (cont-after ks i h) (after-child i h e (open_past (suc i) (child-inside sh i h e)))

  -- ---- tasks and ordinals

  pub task-child : (i : ℕ) → i < length ks → end_at ks i ≡ false → task ks (suc i) ≡ suc i
  unfolding enter innermost
  task-child i h e = task_open ks (suc i) ∙ ap (λ (x : List Task). (innermost x).first) (open_child i h e)

  pub ordinal-child : (i : ℕ) → i < length ks → end_at ks i ≡ false → ordinal ks (suc i) ≡ 0
  unfolding enter innermost
  ordinal-child i h e = ordinal_open ks (suc i) ∙ ap (λ (x : List Task). (innermost x).children) (open_child i h e)

  pub task-cont : (i : ℕ) → i < length ks → end_at ks i ≡ false → task ks (cont ks i) ≡ task ks i
  unfolding grown innermost
  task-cont i h e =
      task_open ks (cont ks i) ∙ (ap (λ (x : List Task). (innermost x).first) (open_cont i h e) ∙ sym (task_open ks i))

  pub ordinal-cont : (i : ℕ) → i < length ks → end_at ks i ≡ false → ordinal ks (cont ks i) ≡ suc (ordinal ks i)
  unfolding grown innermost
  ordinal-cont i h e =
      ordinal_open ks (cont ks i)
      ∙ (ap (λ (x : List Task). (innermost x).children) (open_cont i h e) ∙ ap suc (sym (ordinal_open ks i)))

  -- The last step from i to the end of its task ends that task, and belongs to it.
  Last : ℕ → Type 0
  Last i = (end_at ks (pred (i + size_at ks i)) ≡ true) × (task ks (pred (i + size_at ks i)) ≡ task ks i)

  last_end : (i : ℕ) → i < length ks → end_at ks i ≡ true → Last i
  unfolding Last
  last_end i h e =
      let same : pred (i + size_at ks i) ≡ i = omega (arith, (sh.at i h).leaf e) in
      (rw same e, rw same refl)

  last_parts : (i : ℕ) → i < length ks → end_at ks i ≡ false → Last (suc i) → Last (after (size_at ks) i) → Last i
  unfolding Last
  last_parts i h e child rest =
      let same = after_end sh i h e in
      (rw (← same) rest.0, rw (← same) (rest.1 ∙ (rw (← cont-after ks i h) (task-cont i h e))))

  pub last_step : (i : ℕ) → i < length ks
      → (end_at ks (pred (i + size_at ks i)) ≡ true) × (task ks (pred (i + size_at ks i)) ≡ task ks i)
  unfolding Last
  last_step = tree-ind sh Last last_end last_parts

  -- ---- the finish child before a step

  -- Nothing has ended just before a child's first step.
  pub finish_child_lem : (i : ℕ) → end_at ks i ≡ false → finish_before ks (suc i) ≡ none
  unfolding finish_before end_at
  finish_child_lem i e = rw e refl

  -- Before a continuation the child has, and it is a finish child where the step opens one.
  pub finish_cont : (i : ℕ) → i < length ks → end_at ks i ≡ false
      → finish_before ks (cont ks i) ≡ cond (is_finish (kind_at ks i)) (some (suc i)) none
  unfolding finish_before finish_child end_at after
  finish_cont i h e =
      let at : cont ks i ≡ suc (pred (suc i + size_at ks (suc i))) = omega (arith, cont-after ks i h) in
      let last = last_step (suc i) (child-inside sh i h e) in
      rw (at, last.0, last.1 ∙ task-child i h e) refl

  -- ---- every step but the first

  Parts : ℕ → Type 0
  Parts i = (j : ℕ) → Inside (size_at ks) i j → (j ≡ i → ⊥) → Part ks j

  parts_end : (i : ℕ) → i < length ks → end_at ks i ≡ true → Parts i
  unfolding Parts
  parts_end i h e j w n = absurd (n (inside_end sh i j h e w))

  parts_open : (i : ℕ) → i < length ks → end_at ks i ≡ false → Parts (suc i) → Parts (after (size_at ks) i) → Parts i
  unfolding Parts
  parts_open i h e child rest j w n =
      ⊎_elim (λ same. absurd (n same))
      (⊎_elim
      (λ l. elim (ℕ_discrete j (suc i)) [
        | yes s ↦ record { of = i; within = h; opens = e; which = inl s }
        | no m ↦ child j l m
      ])
      (λ r. elim (ℕ_discrete j (after (size_at ks) i)) [
        | yes s ↦ record { of = i; within = h; opens = e; which = inr (s ∙ sym (cont-after ks i h)) }
        | no m ↦ rest j r m
      ]))
      (inside_parts sh i j h e w)

  pub part : (j : ℕ) → 0 < j → j < length ks → Part ks j
  unfolding Parts
  part j p h = tree-ind sh Parts parts_end parts_open 0 (omega arith) j (inside-first sh j h) (λ z. absurd (omega arith))

  most_step : (i : ℕ) → i < length ks → ((j : ℕ) → j < i → j < length ks → ordinal ks j ≤ j) → ordinal ks i ≤ i
  unfolding after
  most_step zero h smaller = omega (arith, (root-first ks).1)
  most_step (suc i) h smaller =
      let p = part (suc i) (omega arith) h in
      let past = cont-after ks p.of p.within in
      ⊎_elim (λ s. rw s (omega (arith, ordinal-child p.of p.within p.opens)))
      (λ s. rw s (omega (arith, ordinal-cont p.of p.within p.opens, smaller p.of (omega arith) p.within)))
      p.which

  most_by : (m i : ℕ) → i < m → i < length ks → ordinal ks i ≤ i
  most_by zero i l h = absurd (omega arith)
  most_by (suc m) i l h = most_step i h (λ j s. most_by m j (omega arith))

  -- A step's ordinal is at most its serial number.
  pub ordinal_most : (i : ℕ) → i < length ks → ordinal ks i ≤ i
  ordinal_most i h = most_by (suc i) i (omega arith) h
