-- The two scans of a tree, as loops make them: forward to a child's end, backward to a task's opening. Each has an invariant
-- with named parts, and a law for its start, for each turn and for its end, in the terms of the code.
use Prim.Native.Nat.{ℕ, zero, suc, ◌+◌, ◌-◌, ◌≤◌, ◌<◌}
use Rattle.std.specs.Prelude.{◌≡◌, cond, length, take, drop, get_or}
use Rattle.std.proofs.Math.Path.{refl, ap}
use Rattle.std.proofs.Common.{sym, ◌∙◌, length-drop, drop-cons, take-suc, take_all, length-take-le, ne_eqb}
use mathlib.Core.List.{List, [], ◌∷◌, reverse, reverse-append}
use Rattle.std.proofs.Math.Numerals.{add-one}
use native.Mathlib.Omega.{arith}
use Rattle.std.proofs.lemmas.List.{length-reverse}
use Rattle.std.proofs.Math.ListN.{drop_of_length-le}
use Rattle.rules.specs.Tree.{is_end, kind_at, Task, root, innermost, leave, enter, open_tasks, task_at, task, ordinal, open_after}
use Rattle.rules.specs.Tree.{after_ends, task_end, cont}

-- ---- forward

-- At position j the scan from step i's child still waits for the ends of `left` tasks.
pub record Forward (ks : List ℕ) (i j left : ℕ) : Type 0 where
  pub within : j ≤ length ks
  pub small : left ≤ j
  pub same : after_ends (drop j ks) left ≡ after_ends (drop (suc i) ks) 1

pub after_none : (ks : List ℕ) → after_ends ks 0 ≡ ks
unfolding after_ends
after_none [] = refl
after_none (k ∷ ks) = refl

pub after_one : (ks : List ℕ) (j d : ℕ) → j < length ks
    → after_ends (drop j ks) (suc d) ≡ after_ends (drop (suc j) ks) (open_after (kind_at ks j) (suc d))
unfolding after_ends kind_at
after_one ks j d h = rw (drop-cons ks j 0 h) refl

module _ (ks : List ℕ) (i : ℕ) where
  pub forward_start : i < length ks → Forward ks i (i + 1) 1
  forward_start h = record { within = omega arith; small = omega arith; same = rw add-one refl }

  turn : (j left : ℕ) → Forward ks i j left → j < length ks → (d : ℕ) → left ≡ suc d
      → after_ends (drop (suc j) ks) (open_after (kind_at ks j) (suc d)) ≡ after_ends (drop (suc i) ks) 1
  turn j left f h d e = sym (after_one ks j d h) ∙ (rw e at f.same)

  pub forward_end : (j left : ℕ) → Forward ks i j left → j < length ks → 0 < left → kind_at ks j ≡ 3
      → Forward ks i (j + 1) (left - 1)
  unfolding open_after is_end
  forward_end j zero f h p e = absurd (omega arith)
  forward_end j (suc d) f h p e =
      let same = turn j (suc d) f h d refl in
      let d' : suc d - 1 ≡ d = omega arith in
      record {
        within = omega arith;
        small = omega (arith, f.small);
        same = rw (add-one, d') (rw (e) at same);
      }

  pub forward_open : (j left : ℕ) → Forward ks i j left → j < length ks → 0 < left → (kind_at ks j ≡ 3 → ⊥)
      → Forward ks i (j + 1) (left + 1)
  unfolding open_after is_end
  forward_open j zero f h p e = absurd (omega arith)
  forward_open j (suc d) f h p e =
      let same = turn j (suc d) f h d refl in
      record {
        within = omega arith;
        small = omega (arith, f.small);
        same = rw (add-one, add-one) (rw (ne_eqb (kind_at ks j) 3 e) at same);
      }

  pub forward_done : (j : ℕ) → Forward ks i j 0 → cont ks i ≡ j
  unfolding cont task_end
  forward_done j f = rw (← f.same, after_none (drop j ks), length-drop) (omega (arith, f.within))

  pub forward_past : (j left : ℕ) → Forward ks i j left → length ks ≤ j → cont ks i ≡ length ks
  unfolding cont task_end after_ends
  forward_past j left f h = rw (← f.same, drop_of_length-le ks h) (omega arith)

  pub cont_past : length ks ≤ i → cont ks i ≡ length ks
  unfolding cont task_end after_ends
  cont_past h = rw (drop_of_length-le ks {i = suc i} (omega arith)) (omega arith)

-- ---- backward

-- The task that is innermost once d more have ended.
unfoldable pub below : List Task → ℕ → Task
below ts zero = innermost ts
below ts (suc d) = below (leave ts) d

-- The tasks open before step j.
unfoldable pub open_at : List ℕ → ℕ → List Task
open_at ks j = open_tasks (reverse (take j ks))

-- At position j, on the way back from step i: `ended` tasks have ended on the way that are still to be opened, and the task
-- of step i has opened `children` children there.
pub record Backward (ks : List ℕ) (i j ended children : ℕ) : Type 0 where
  pub within : j ≤ length ks
  pub few : children + j ≤ length ks
  pub small : ended + j ≤ length ks
  pub first : task ks i ≡ (below (open_at ks j) ended).first
  pub count : ordinal ks i ≡ children + (below (open_at ks j) ended).children

-- One record more.
pub open_step : (ks : List ℕ) (j : ℕ) → j < length ks
    → open_at ks (suc j) ≡ cond (is_end (kind_at ks j)) (leave (open_at ks j)) (enter (suc j) (open_at ks j))
unfolding open_at open_tasks kind_at
open_step ks j h =
    let len : length (reverse (take j ks)) ≡ j = length-reverse (take j ks) ∙ length-take-le j ks (omega arith) in
    rw (take-suc ks j 0 h, reverse-append (take j ks) (get_or ks j 0 ∷ [])) (rw len refl)

open_end : (ks : List ℕ) (j : ℕ) → j < length ks → kind_at ks j ≡ 3 → open_at ks (suc j) ≡ leave (open_at ks j)
unfolding is_end
open_end ks j h e = open_step ks j h ∙ rw e refl

open_child : (ks : List ℕ) (j : ℕ) → j < length ks → (kind_at ks j ≡ 3 → ⊥) → open_at ks (suc j) ≡ enter (suc j) (open_at ks j)
unfolding is_end
open_child ks j h e = open_step ks j h ∙ rw (ne_eqb (kind_at ks j) 3 e) refl

-- Nothing is below the root.
below-nothing : (d : ℕ) → below [] d ≡ root
unfolding below innermost leave
below-nothing zero = refl
below-nothing (suc d) = below-nothing d

below_root : (d : ℕ) → below (root ∷ []) d ≡ root
unfolding below innermost leave
below_root zero = refl
below_root (suc d) = below-nothing d

module _ (ks : List ℕ) (i : ℕ) where
  at : (j : ℕ) → take i ks ≡ take j ks → j ≤ length ks → Backward ks i j 0 0
  unfolding task ordinal task_at open_at below
  at j e h =
      let count : ordinal ks i ≡ (below (open_at ks j) 0).children = ap (λ (x : List ℕ). (innermost (open_tasks (reverse x))).children) e in
      record {
        within = h;
        few = omega arith;
        small = omega arith;
        first = ap (λ (x : List ℕ). (innermost (open_tasks (reverse x))).first) e;
        count = omega arith;
      }

  pub backward_start : i ≤ length ks → Backward ks i i 0 0
  backward_start h = at i refl h

  pub backward_start_past : length ks ≤ i → Backward ks i (length ks) 0 0
  backward_start_past h = at (length ks) (take_all i ks h ∙ sym (take_all (length ks) ks (omega arith))) (omega arith)

  -- A turn takes one record back: what holds at j holds at j - 1 + 1.
  pub backward_turn : (j ended children : ℕ) → Backward ks i j ended children → 0 < j → Backward ks i (j - 1 + 1) ended children
  backward_turn j ended children b h =
      let same : j - 1 + 1 ≡ j = omega arith in
      rw same b

  -- Over an end: one task more to be opened.
  pub backward_end : (j ended children : ℕ) → Backward ks i (j + 1) ended children → kind_at ks j ≡ 3
      → Backward ks i j (ended + 1) children
  unfolding below
  backward_end j ended children b e =
      let same = open_end ks j (omega (arith, b.within)) e in
      record {
        within = omega (arith, b.within);
        few = omega (arith, b.few);
        small = omega (arith, b.small);
        first = rw add-one (b.first ∙ ap (λ (x : List Task). (below x ended).first) (rw add-one same));
        count = rw add-one (b.count ∙ ap (λ (x : List Task). children + (below x ended).children) (rw add-one same));
      }

  -- What a task looks like from one record before its parent's or its own opening.
  opened-first : (j ended children : ℕ) → Backward ks i (j + 1) ended children → (kind_at ks j ≡ 3 → ⊥)
      → task ks i ≡ (below (enter (suc j) (open_at ks j)) ended).first
  opened-first j ended children b e =
      b.first ∙ ap (λ (x : List Task). (below x ended).first) (rw add-one (open_child ks j (omega (arith, b.within)) e))

  opened-count : (j ended children : ℕ) → Backward ks i (j + 1) ended children → (kind_at ks j ≡ 3 → ⊥)
      → ordinal ks i ≡ children + (below (enter (suc j) (open_at ks j)) ended).children
  opened-count j ended children b e =
      b.count
      ∙ ap (λ (x : List Task). children + (below x ended).children) (rw add-one (open_child ks j (omega (arith, b.within)) e))

  -- Over the opening of step i's task.
  pub backward_found : (j children : ℕ) → Backward ks i (j + 1) 0 children → (kind_at ks j ≡ 3 → ⊥)
      → (task ks i ≡ j + 1) × (ordinal ks i ≡ children)
  unfolding below enter innermost
  backward_found j children b e =
      let first = opened-first j 0 children b e in
      let count = opened-count j 0 children b e in
      (omega arith, omega arith)

  -- Over the opening of a child of that task.
  pub backward_child : (j children : ℕ) → Backward ks i (j + 1) 1 children → (kind_at ks j ≡ 3 → ⊥)
      → Backward ks i j 0 (children + 1)
  unfolding below enter innermost leave
  backward_child j children b e =
      let count = opened-count j 1 children b e in
      record {
        within = omega (arith, b.within);
        few = omega (arith, b.few);
        small = omega (arith, b.small);
        first = opened-first j 1 children b e;
        count = omega arith;
      }

  -- Over the opening of a task further in.
  pub backward_inner : (j ended children : ℕ) → Backward ks i (j + 1) (ended + 1) children → 0 < ended → (kind_at ks j ≡ 3 → ⊥)
      → Backward ks i j ended children
  unfolding below enter leave
  backward_inner j zero children b h e = absurd (omega arith)
  backward_inner j (suc d) children b h e =
      let b' : Backward ks i (j + 1) (suc (suc d)) children = rw (add-one (suc d)) at b in
      record {
        within = omega (arith, b.within);
        few = omega (arith, b.few);
        small = omega (arith, b.small);
        first = opened-first j (suc (suc d)) children b' e;
        count = opened-count j (suc (suc d)) children b' e;
      }

  -- At the file's start: the task is the root.
  pub backward_done : (ended children : ℕ) → Backward ks i 0 ended children → (task ks i ≡ 0) × (ordinal ks i ≡ children)
  unfolding open_at open_tasks root
  backward_done ended children b =
      let first : task ks i ≡ 0 = b.first ∙ ap (λ (x : Task). x.first) (below_root ended) in
      let none : (below (root ∷ []) ended).children ≡ 0 = ap (λ (x : Task). x.children) (below_root ended) in
      (first, omega (arith, b.count, none))
