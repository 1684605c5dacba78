-- An accepted tree, as later proofs use it: its length, its kinds and classes, its shape, its count of spawned tasks and its open
-- tasks.
use Prim.Native.Nat.{ℕ, zero, suc, pred, ◌+◌, ◌-◌, ◌*◌, ◌/◌, ◌%◌, ◌≤◌, ◌<◌}
use Rattle.std.specs.Prelude.{◌≡◌, Bool, true, false, cond, get_or, eqb}
use Rattle.std.proofs.Math.Path.{refl, ap}
use Rattle.std.proofs.Common.{sym, ◌∙◌, true≢false, lt_of_not-le, drop-cons, eq-eqb, ne_eqb}
use mathlib.Core.List.{List, [], ◌∷◌, map}
use Rattle.std.proofs.Math.Decide.{ℕ_discrete, dec_le}
use native.Mathlib.Omega.{arith}
use Rattle.std.proofs.Math.ListN.{length, drop, length-drop, get_or-map}
use Rattle.std.proofs.Math.Seq.{drop-drop}
use Rattle.std.proofs.lemmas.Bool.{eqb-false}
use Rattle.rules.specs.Bytes.{Verdict, Walked, walk}
use Rattle.rules.specs.Tree.{tree_records, kind, is_end, class_count, class, kinds, classes, kind_at, Task, leave, enter, open_tasks}
use Rattle.rules.specs.Tree.{open_after, after_ends, task_end, cont, judge_tree_record, next_open, tree_walk, wrong_length, tree_verdict}
use Rattle.tree.specs.Laws.Records.{length-records, length-kinds}
use Rattle.tree.specs.Laws.Walks.{walk_each}
use Rattle.tree_scan.specs.Laws.Scans.{after_none, after_one, open_at, open_step}
use Rattle.tree.specs.Laws.Acceptance.{judged_open, judged-kind, judged-class, wrong_empty, wrong_part, wrong_long, verdict_wrong}
use Rattle.tree.specs.Laws.Acceptance.{verdict_stop, verdict_open}
use Rattle.tree_scan.specs.Laws.Shape.{after, At, Shape}
use Rattle.tree_scan.specs.Laws.Balance.{Balanced, spawned, after_sum, after-short, after-drop, balanced_after}
use Rattle.tree_scan.specs.Laws.Balance.{balanced_drop, balanced_kind, balanced_none, balanced_some, balanced_count}

-- ---- the shape of balanced kinds

-- Whether step i ends its task.
unfoldable pub end_at : List ℕ → ℕ → Bool
end_at ks i = is_end (kind_at ks i)

-- How many steps there are from i to the end of i's task, with all that they spawn.
unfoldable pub size_at : List ℕ → ℕ → ℕ
size_at ks i = task_end ks i - i

length-step : (x : Bool) (f : ℕ) (ts : List Task) → 1 ≤ length ts
    → length (cond x (leave ts) (enter f ts)) ≡ cond x (pred (length ts)) (suc (length ts))
unfolding leave enter
length-step x f [] h = absurd (omega arith)
length-step true f (t ∷ ts) h = refl
length-step false f (t ∷ ts) h = refl

module _ (ks : List ℕ) where
  end_within : (i : ℕ) → i ≤ length ks → (i ≤ task_end ks i) × (task_end ks i ≤ length ks)
  unfolding task_end
  end_within i h = omega (arith, after-short (drop i ks) 1, length-drop i ks)

  -- What stands after the task's end.
  end_drop : (i : ℕ) → i ≤ length ks → drop (task_end ks i) ks ≡ after_ends (drop i ks) 1
  unfolding task_end
  end_drop i h =
      let short = after-short (drop i ks) 1 in
      let left = length (after_ends (drop i ks) 1) in
      let at : length ks - left ≡ i + (length (drop i ks) - left) = omega (arith, length-drop i ks) in
      rw (at, ← drop-drop (length (drop i ks) - left) i ks) (after-drop (drop i ks) 1)

  -- An end's task ends with it.
  end_of_end : (i : ℕ) → i < length ks → end_at ks i ≡ true → task_end ks i ≡ suc i
  unfolding task_end end_at open_after
  end_of_end i h e =
      let rest : after_ends (drop i ks) 1 ≡ drop (suc i) ks = after_one ks i 0 h ∙ (rw e (after_none (drop (suc i) ks))) in
      rw (rest, length-drop) (omega arith)

  end_same : (i j : ℕ) → after_ends (drop i ks) 1 ≡ after_ends (drop j ks) 1 → task_end ks i ≡ task_end ks j
  unfolding task_end
  end_same i j e = ap (λ (x : List ℕ). length ks - length x) e

  -- An opening step's task ends with its continuation's.
  end_of_cont : (i : ℕ) → i < length ks → end_at ks i ≡ false → task_end ks (cont ks i) ≡ task_end ks i
  unfolding cont end_at open_after
  end_of_cont i h e =
      let two : after_ends (drop i ks) 1 ≡ after_ends (drop (suc i) ks) 2 = after_one ks i 0 h ∙ rw e refl in
      let parts : after_ends (drop (suc i) ks) 2 ≡ after_ends (after_ends (drop (suc i) ks) 1) 1 = after_sum (drop (suc i) ks) 1 1 in
      end_same (task_end ks (suc i)) i (rw (end_drop (suc i) h) (sym (two ∙ parts)))

  -- The continuation of an opening step, by sizes.
  pub cont-after : (i : ℕ) → i < length ks → cont ks i ≡ after (size_at ks) i
  unfolding cont after size_at
  cont-after i h = omega (arith, end_within (suc i) h)

  -- The end of a step's task, by sizes.
  pub end_size : Shape (length ks) (end_at ks) (size_at ks) → (i : ℕ) → i < length ks → task_end ks i ≡ i + size_at ks i
  unfolding size_at
  end_size sh i h = omega (arith, (sh.at i h).some)

  -- How many tasks are open after one record more.
  open_length : (j : ℕ) → j < length ks → 1 ≤ length (open_at ks j)
      → length (open_at ks (suc j)) ≡ open_after (kind_at ks j) (length (open_at ks j))
  unfolding open_after
  open_length j h some = ap (λ (x : List Task). length x) (open_step ks j h) ∙ length-step (is_end (kind_at ks j)) (suc j) (open_at ks j) some

  module _ (b : Balanced 1 ks) where
    -- A task is open before each record, so something follows a child's end.
    followed : (i d : ℕ) → i < length ks → end_at ks i ≡ false → Balanced d (drop i ks) → cont ks i < length ks
    unfolding cont task_end end_at kind_at open_after
    followed i d h e left =
        let here : Balanced d (get_or ks i 0 ∷ drop (suc i) ks) = rw (drop-cons ks i 0 h) at left in
        let rest : Balanced (suc d) (drop (suc i) ks) = rw e at here.3 in
        let one : suc d ≡ 1 + d = omega arith in
        let past : Balanced d (after_ends (drop (suc i) ks) 1) = balanced_after (drop (suc i) ks) 1 d (rw one at rest) in
        let some : d ≡ suc (pred d) = omega (arith, here.0) in
        omega (arith, balanced_some (after_ends (drop (suc i) ks) 1) (pred d) (rw some at past))

    cont-within : (i : ℕ) → i < length ks → end_at ks i ≡ false → cont ks i < length ks
    cont-within i h e =
        let left = balanced_drop ks i 1 b (omega arith) in
        followed i left.0 h e left.1

    -- The continuation stands between its step and the end of the task.
    cont-between : (i : ℕ) → i < length ks → end_at ks i ≡ false → (suc i ≤ cont ks i) × (cont ks i ≤ task_end ks i)
    unfolding cont
    cont-between i h e =
        let child = end_within (suc i) h in
        (child.0, omega (arith, end_within (task_end ks (suc i)) child.1, end_of_cont i h e))

    some-by : (i : ℕ) → i < length ks → (x : Bool) → end_at ks i ≡ x → suc i ≤ task_end ks i
    some-by i h true e = omega (arith, end_of_end i h e)
    some-by i h false e = omega (arith, cont-between i h e)

    parts_at : (i : ℕ) → i < length ks → end_at ks i ≡ false
        → task_end ks i - i ≡ suc (task_end ks (suc i) - suc i + (task_end ks (cont ks i) - cont ks i))
    unfolding cont
    parts_at i h e = omega (arith, cont-between i h e, end_of_cont i h e)

    shape_at : (i : ℕ) → i < length ks → At (length ks) (end_at ks) (size_at ks) i
    unfolding size_at
    shape_at i h =
        record {
          some = omega (arith, some-by i h (end_at ks i) refl);
          fits = omega (arith, end_within i (omega arith));
          leaf = λ e. omega (arith, end_of_end i h e);
          room = λ e. rw (← cont-after i h) (cont-within i h e);
          parts = λ e. rw (← cont-after i h) (parts_at i h e);
        }

    pub shape_of : Shape (length ks) (end_at ks) (size_at ks)
    unfolding size_at task_end
    shape_of =
        record { at = shape_at; whole = omega (arith, balanced_none (after_ends ks 1) (balanced_after ks 1 0 b)) }

    -- Before each step as many tasks are open as the rest ends.
    open-left : (j : ℕ) → j ≤ length ks → Balanced (length (open_at ks j)) (drop j ks)
    unfolding open_at open_tasks kind_at
    open-left zero h = b
    open-left (suc j) h = more (open-left j (omega arith))
      where
        more : Balanced (length (open_at ks j)) (drop j ks) → Balanced (length (open_at ks (suc j))) (drop (suc j) ks)
        more left =
            let here : Balanced (length (open_at ks j)) (get_or ks j 0 ∷ drop (suc j) ks) = rw (drop-cons ks j 0 h) at left in
            rw (open_length j h here.0) here.3

    -- "At most 64 tasks are open together, the root counted", and one is while a record is to come.
    open_by : (d : ℕ) (l : List ℕ) → Balanced d l → (d ≤ 64) × (0 < length l → 1 ≤ d)
    open_by d [] left = (omega arith, λ h. absurd (omega arith))
    open_by d (k ∷ l) left = (left.1, λ h. left.0)

    pub open-count : (j : ℕ) → j ≤ length ks → (length (open_at ks j) ≤ 64) × (j < length ks → 1 ≤ length (open_at ks j))
    open-count j h =
        let by = open_by (length (open_at ks j)) (drop j ks) (open-left j h) in
        (by.0, λ l. by.1 (omega (arith, length-drop j ks)))

-- ---- accepted trees

-- A record that is not refused leaves at most 64 tasks open.
open_most : (d : ℕ) (r : List ℕ) → d ≤ 64 → judge_tree_record d r ≡ 0 → open_after (kind r) d ≤ 64
unfolding open_after is_end
open_most d r h j = by (eqb (kind r) 3) refl
  where
    by : (x : Bool) → eqb (kind r) 3 ≡ x → cond x (pred d) (suc d) ≤ 64
    by true e =
        let less : pred d ≤ 64 = omega arith in
        less
    by false e =
        let room : d ≡ 64 → ⊥ = λ full. eqb-false (kind r) 3 e ((judged_open d r j).1 full) in
        let more : suc d ≤ 64 = omega arith in
        more

-- The walk accepts, so the kinds are balanced.
walked : ℕ → ℕ → List (List ℕ) → Walked ℕ
walked i d rs = walk judge_tree_record next_open i d rs

module _ (r : List ℕ) (rs : List (List ℕ)) (i d : ℕ) where
  balanced_one : d ≤ 64 → (walked i d (r ∷ rs)).verdict.number ≡ 0 → (walked i d (r ∷ rs)).state ≡ 0
      → (open_after (kind r) d ≤ 64 → (walked (suc i) (open_after (kind r) d) rs).verdict.number ≡ 0
      → (walked (suc i) (open_after (kind r) d) rs).state ≡ 0 → Balanced (open_after (kind r) d) (map kind rs))
      → Balanced d (map kind (r ∷ rs))
  unfolding walked walk next_open
  balanced_one h v s rest =
      elim (ℕ_discrete (judge_tree_record d r) 0) [
        | yes e ↦ (
          omega (arith, (judged_open d r e).0),
          h,
          judged-kind d r e,
          rest (open_most d r h e) (rw (eq-eqb (judge_tree_record d r) 0 e) at v) (rw (eq-eqb (judge_tree_record d r) 0 e) at s),
        )
        | no n ↦ absurd (n (rw (ne_eqb (judge_tree_record d r) 0 n) at v))
      ]

walk_balanced : (rs : List (List ℕ)) (i d : ℕ) → d ≤ 64 → (walked i d rs).verdict.number ≡ 0 → (walked i d rs).state ≡ 0
    → Balanced d (map kind rs)
unfolding walk walked next_open
walk_balanced [] i d h v s = s
walk_balanced (r ∷ rs) i d h v s =
    balanced_one r rs i d h v s (λ l x y. walk_balanced rs (suc i) (open_after (kind r) d) l x y)

-- An accepted tree.
pub record Frame (tree : List ℕ) : Type 0 where
  pub some : 1 ≤ length (kinds tree)
  pub most : length (kinds tree) ≤ 4095
  pub whole : length tree ≡ 8 * length (kinds tree)
  pub kind : (i : ℕ) → i < length (kinds tree) → (1 ≤ kind_at (kinds tree) i) × (kind_at (kinds tree) i ≤ 3)
  pub class : (i : ℕ) → i < length (kinds tree) → get_or (classes tree) i 0 < class_count
  pub shape : Shape (length (kinds tree)) (end_at (kinds tree)) (size_at (kinds tree))
  -- n is odd, and (n - 1) / 2 tasks are spawned
  pub odd : length (kinds tree) ≡ suc (spawned (kinds tree) + spawned (kinds tree))
  pub spawns : spawned (kinds tree) ≡ (length (kinds tree) - 1) / 2
  -- at most 64 tasks are open, and one is while a record is to come
  pub opens : (j : ℕ) → j ≤ length (kinds tree)
      → (length (open_at (kinds tree) j) ≤ 64) × (j < length (kinds tree) → 1 ≤ length (open_at (kinds tree) j))

module _ (tree : List ℕ) (accepts : (tree_verdict tree).number ≡ 0) where
  number : (v : Verdict) → tree_verdict tree ≡ v → v.number ≡ 0
  number v e = ap (λ (x : Verdict). x.number) (sym e) ∙ accepts

  fitting : wrong_length tree ≡ false
  fitting = by (wrong_length tree) refl
    where
      by : (x : Bool) → wrong_length tree ≡ x → wrong_length tree ≡ false
      by true m = absurd (omega (arith, number (record { number = 2; position = 0 }) (verdict_wrong tree m)))
      by false m = m

  walk_number : (tree_walk tree).verdict.number ≡ 0
  walk_number =
      elim (ℕ_discrete (tree_walk tree).verdict.number 0) [
        | yes e ↦ e
        | no n ↦ number (tree_walk tree).verdict (verdict_stop tree fitting (tree_walk tree).verdict refl n)
      ]

  walk_state : (tree_walk tree).state ≡ 0
  walk_state =
      elim (ℕ_discrete (tree_walk tree).state 0) [
        | yes e ↦ e
        | no n ↦ absurd
            (omega (arith, number (record { number = 5; position = length tree / 8 }) (verdict_open tree fitting walk_number n)))
      ]

  -- Refusal 2's condition does not hold.
  never : {A : Type 0} → wrong_length tree ≡ true → A
  never m = absurd (true≢false (sym m ∙ fitting))

  bytes-some : 1 ≤ length tree / 8
  bytes-some = elim (ℕ_discrete (length tree / 8) 0) [ yes e ↦ never (wrong_empty tree e) | no n ↦ omega arith ]

  bytes_whole : length tree % 8 ≡ 0
  bytes_whole = elim (ℕ_discrete (length tree % 8) 0) [ yes e ↦ e | no n ↦ never (wrong_part tree n) ]

  bytes_most : length tree / 8 ≤ 4095
  bytes_most = elim (dec_le (length tree / 8) 4095) [ yes l ↦ l | no n ↦ never (wrong_long tree (lt_of_not-le n)) ]

  balanced : Balanced 1 (kinds tree)
  unfolding kinds tree_walk walked
  balanced = walk_balanced (tree_records tree) 0 1 (omega arith) walk_number walk_state

  classed : (i : ℕ) → i < length (kinds tree) → get_or (classes tree) i 0 < class_count
  unfolding classes class tree_walk tree_records
  classed i h =
      let below =
      walk_each judge_tree_record next_open (λ r. class r < class_count) [] judged-class (tree_records tree) 0 1 walk_number i
      (omega (arith, length-kinds tree, length-records 8 tree))
      in
      rw (get_or-map class (tree_records tree) i []) below

  pub accepted-frame : Frame tree
  accepted-frame =
      record {
        some = omega (arith, length-kinds tree, bytes-some);
        most = omega (arith, length-kinds tree, bytes_most);
        whole = omega (arith, length-kinds tree, bytes_whole);
        kind = λ i h. balanced_kind (kinds tree) i 1 balanced h;
        class = classed;
        shape = shape_of (kinds tree) balanced;
        odd = omega (arith, balanced_count (kinds tree) 1 balanced);
        spawns = omega (arith, balanced_count (kinds tree) 1 balanced);
        opens = open-count (kinds tree) balanced;
      }
