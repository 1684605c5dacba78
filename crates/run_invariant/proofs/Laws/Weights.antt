-- Sums over parts of the tree: which steps are inside, how many, how many of them open; and what running a step does to them.
use Rattle.std.specs.Prelude.{ℕ, suc, ◌+◌, ◌-◌, ◌/◌, ◌≤◌, ◌<◌, ◌≡◌, cond, length, ltb, leb}
use Rattle.std.proofs.Math.Path.{refl, ap}
use Rattle.std.proofs.Math.Bool.{true, false}
use mathlib.Core.List.{List, [], ◌∷◌, ◌++◌}
use Rattle.std.proofs.Math.Decide.{ℕ_discrete, dec_lt, dec_le}
use Rattle.std.proofs.Common.{add-one}
use native.Mathlib.Omega.{arith}
use borrow.Author.Tests.{lt-ltb, le-ltb, le-leb, lt-leb, eq-eqb, ne_eqb, ltb-true, leb-true}
use Rattle.rules.specs.Bytes.{sum}
use Rattle.rules.specs.Tree.{kind_at, is_end, task_end, cont}
use Rattle.rules.specs.Scheduling.{pushes_child, holds, pushes}
use Rattle.rules.specs.Traces.{from_step}
use Rattle.tree_scan.specs.Laws.Shape.{after, Shape, child-inside, nested, odd}
use Rattle.tree_scan.specs.Laws.Frames.{end_at, size_at, cont-after, end_size}
use Rattle.run_invariant.specs.Invariant.{Weighs, self, opening, Pushed}
use Rattle.run_invariant.proofs.Laws.Counts.{and_both, not_so, at_most_one, one-true}

-- ---- sums of lists

module _ {A : Type 0} where
  pub sum_append : (f : A → ℕ) (xs ys : List A) → sum f (xs ++ ys) ≡ sum f xs + sum f ys
  unfolding sum
  sum_append f [] ys = omega arith
  sum_append f (x ∷ xs) ys = omega (arith, sum_append f xs ys)

-- ---- steps inside a part

module _ (ks : List ℕ) (i j : ℕ) where
  pub inside-from : i ≤ j → j < task_end ks i → from_step ks i j ≡ true
  unfolding from_step
  inside-from l u = rw (le-leb i j l, lt-ltb j (task_end ks i) u)

  pub from-inside : from_step ks i j ≡ true → (i ≤ j) × (j < task_end ks i)
  unfolding from_step
  from-inside e =
      let both = and_both (leb i j) (ltb j (task_end ks i)) e in
      (leb-true i j both.0, ltb-true j (task_end ks i) both.1)

  pub outside_from : (i ≤ j → j < task_end ks i → ⊥) → from_step ks i j ≡ false
  outside_from n = not_so (from_step ks i j) (λ e. n (from-inside e).0 (from-inside e).1)

-- 1 where step j is in the part from i, else 0.
unfoldable pub span : List ℕ → ℕ → ℕ → ℕ
span ks j i = cond (from_step ks i j) 1 0

module _ (ks : List ℕ) (j i : ℕ) where
  pub span-one : from_step ks i j ≡ true → span ks j i ≡ 1
  unfolding span
  span-one e = rw e

  pub span-some : 1 ≤ span ks j i → from_step ks i j ≡ true
  unfolding span
  span-some h = one-true (from_step ks i j) h

  pub span_most : span ks j i ≤ 1
  unfolding span
  span_most = at_most_one (from_step ks i j)

  pub span_in : i ≤ j → j < task_end ks i → span ks j i ≡ 1
  span_in l u = span-one (inside-from ks i j l u)

  pub span-inside : 1 ≤ span ks j i → (i ≤ j) × (j < task_end ks i)
  span-inside h = from-inside ks i j (span-some h)

  pub span_out : (i ≤ j → j < task_end ks i → ⊥) → span ks j i ≡ 0
  unfolding span
  span_out n = rw (outside_from ks i j n)

pub self_same : (j : ℕ) → self j j ≡ 1
unfolding self
self_same j = rw (eq-eqb j j refl)

-- ---- the parts of an opening step

-- How many steps of the part from i open a task.
unfoldable pub openings : List ℕ → ℕ → ℕ
openings ks i = size_at ks i / 2

-- 1 where j is below e, else 0. The steps of a part are those below its end less those below its first.
below : ℕ → ℕ → ℕ
below j e = cond (ltb j e) 1 0

below-yes : (j e : ℕ) → j < e → below j e ≡ 1
unfolding below
below-yes j e h = rw (lt-ltb j e h)

below_no : (j e : ℕ) → e ≤ j → below j e ≡ 0
unfolding below
below_no j e h = rw (le-ltb j e h)

below_order : (j a e : ℕ) → a ≤ e → below j a ≤ below j e
below_order j a e h =
    elim (dec_lt j a) [
      | yes l ↦ omega (arith, below-yes j a l, below-yes j e (omega arith))
      | no n ↦ omega (arith, below_no j a (omega arith))
    ]

self-below : (j i : ℕ) → self j i ≡ below j (suc i) - below j i
unfolding self
self-below j i =
    elim (ℕ_discrete i j) [
      | yes e ↦ rw (eq-eqb i j e) (omega (arith, below-yes j (suc i) (omega arith), below_no j i (omega arith)))
      | no n ↦ rw (ne_eqb i j n) (elim (dec_lt j i) [
        | yes l ↦ omega (arith, below-yes j (suc i) (omega arith), below-yes j i l)
        | no m ↦ omega (arith, below_no j (suc i) (omega arith))
      ])
    ]

module _ (ks : List ℕ) where
  span_below : (j i : ℕ) → i ≤ task_end ks i → span ks j i ≡ below j (task_end ks i) - below j i
  unfolding span from_step below
  span_below j i h =
      elim (dec_lt j i) [
        | yes l ↦ rw (lt-leb i j l, lt-ltb j i l, lt-ltb j (task_end ks i) (omega arith))
        | no n ↦ rw (le-leb i j (omega arith), le-ltb j i (omega arith)) (omega arith)
      ]

  -- What holds of the two parts either way round holds of the held and the pushed one.
  two_parts : (P : ℕ → ℕ → Type 0) (p i : ℕ) → P (suc i) (cont ks i) → P (cont ks i) (suc i) → P (holds p ks i) (pushes p ks i)
  unfolding holds pushes
  two_parts P p i a b =
      elim (pushes_child p (kind_at ks i)) as (λ x. P (cond x (cont ks i) (suc i)) (cond x (suc i) (cont ks i))) [ true ↦ b | false ↦ a ]

  -- Either policy pushes the child or the continuation.
  pub pushes_either : (P : ℕ → Type 0) (p i : ℕ) → P (suc i) → P (cont ks i) → P (pushes p ks i)
  pushes_either P p i child rest = two_parts (λ a b. P b) p i rest child

module _ (ks : List ℕ) (sh : Shape (length ks) (end_at ks) (size_at ks)) where
  pub end_within : (i : ℕ) → i < length ks → (i < task_end ks i) × (task_end ks i ≤ length ks)
  end_within i h = omega (arith, end_size ks sh i h, (sh.at i h).some, (sh.at i h).fits)

  -- A step is in the part from it.
  pub from-self : (i : ℕ) → i < length ks → from_step ks i i ≡ true
  from-self i h = inside-from ks i i (omega arith) (end_within i h).0

  pub span-self : (i : ℕ) → i < length ks → span ks i i ≡ 1
  span-self i h = span-one ks i i (from-self i h)

  -- The continuation is a step past the child's first, and its task ends with the opening step's.
  pub cont-inside : (i : ℕ) → i < length ks → is_end (kind_at ks i) ≡ false
      → (suc i < cont ks i) × (cont ks i < length ks) × (cont ks i < task_end ks i) × (task_end ks (cont ks i) ≡ task_end ks i)
  unfolding end_at after
  cont-inside i h e =
      let room = (sh.at i h).room e in
      let size = end_size ks sh i h in
      let parts = (sh.at i h).parts e in
      rw (cont-after ks i h) (
        omega (arith, (sh.at (suc i) (child-inside sh i h e)).some),
        room,
        omega (arith, (sh.at (after (size_at ks) i) room).some),
        omega (arith, end_size ks sh (after (size_at ks) i) room),
      )

  pub span_weighs : (j : ℕ) → Weighs ks (span ks j) (self j)
  unfolding end_at cont
  span_weighs j =
      record {
        end = λ i h e. rw (span_below ks j i (omega (arith, end_within i h)), self-below, end_size ks sh i h, (sh.at i h).leaf e, add-one);
        opens = λ i h e.
            let c = cont-inside i h e in
            omega (
              arith,
              span_below ks j i (omega (arith, end_within i h)),
              span_below ks j (suc i) (omega arith),
              span_below ks j (cont ks i) (omega arith),
              self-below j i,
              below_order j i (suc i) (omega arith),
              below_order j (suc i) (cont ks i) (omega arith),
              below_order j (cont ks i) (task_end ks i) (omega arith),
              ap (λ (x : ℕ). below j x) c.3,
            );
      }

  pub size_weighs : Weighs ks (size_at ks) (λ i. 1)
  unfolding end_at
  size_weighs =
      record { end = λ i h e. (sh.at i h).leaf e; opens = λ i h e. rw (cont-after ks i h) (omega (arith, (sh.at i h).parts e)) }

  pub openings-weigh : Weighs ks (openings ks) (opening ks)
  unfolding end_at openings opening
  openings-weigh =
      record {
        end = λ i h e. rw e (omega (arith, (sh.at i h).leaf e));
        opens = λ i h e.
            let here : opening ks i ≡ 1 = rw e refl in
            let child = odd sh (suc i) (child-inside sh i h e) in
            let rest = odd sh (after (size_at ks) i) ((sh.at i h).room e) in
            rw (cont-after ks i h) (omega (arith, (sh.at i h).parts e, child.1, rest.1));
      }

  -- Whatever the policy, running an opening step puts its two parts in its place, one held and one pushed. Both are steps of
  -- the tree, past the step and before the end of its task.
  pub run_weighs : (p : ℕ) (whole each : ℕ → ℕ) → Weighs ks whole each → (i : ℕ) → i < length ks → is_end (kind_at ks i) ≡ false
      → whole i ≡ each i + whole (holds p ks i) + whole (pushes p ks i)
  run_weighs p whole each w i h e =
      let parts = w.opens i h e in
      two_parts ks (λ a b. whole i ≡ each i + whole a + whole b) p i parts (omega arith)

  inside_both : (p i : ℕ) → i < length ks → is_end (kind_at ks i) ≡ false
      → ((i < holds p ks i) × (holds p ks i < task_end ks i)) × ((i < pushes p ks i) × (pushes p ks i < task_end ks i))
  inside_both p i h e =
      let c = cont-inside i h e in
      two_parts ks (λ a b. ((i < a) × (a < task_end ks i)) × ((i < b) × (b < task_end ks i))) p i (omega arith) (omega arith)

  pub holds-inside : (p i : ℕ) → i < length ks → is_end (kind_at ks i) ≡ false → (i < holds p ks i) × (holds p ks i < task_end ks i)
  holds-inside p i h e = (inside_both p i h e).0

  pub pushes-inside : (p i : ℕ) → i < length ks → is_end (kind_at ks i) ≡ false → (i < pushes p ks i) × (pushes p ks i < task_end ks i)
  pushes-inside p i h e = (inside_both p i h e).1

  -- So what was pushed is a step of the tree.
  pub pushed_within : (p s : ℕ) → Pushed p ks s → s < length ks
  pushed_within p s by = omega (arith, by.3, pushes-inside p by.0 by.1 by.2, end_within by.0 by.1)

  -- Nesting, by ends of tasks.
  pub nested_end : (i j : ℕ) → i < length ks → i ≤ j → j < task_end ks i → task_end ks j ≤ task_end ks i
  nested_end i j h l u =
      let here = end_size ks sh i h in
      omega (arith, end_size ks sh j (omega (arith, end_within i h)), nested sh i j h (l, omega arith))

  -- Step q opens a child. A part from a step pushed below q that has a step of that child has the continuation too.
  pub child_shared : (p q r y j : ℕ) → q < length ks → is_end (kind_at ks q) ≡ false → r < q → y ≡ pushes p ks r
      → q < j → j < cont ks q → 1 ≤ span ks j y → span ks (cont ks q) y ≡ 1
  unfolding cont
  child_shared p q r y j h opens below pushed past before has =
      let c = cont-inside q h opens in
      let at = span-inside ks j y has in
      elim (dec_le y q) [
        | yes s ↦ span_in ks (cont ks q) y (omega arith) (omega (arith, nested_end y q (omega arith) s (omega arith)))
        | no n ↦ absurd (pushes_either ks (λ z. y ≡ z → ⊥) p r (λ e. omega arith)
            (λ e. omega (arith, nested_end (suc r) q (omega arith) below (omega arith))) pushed)
      ]
