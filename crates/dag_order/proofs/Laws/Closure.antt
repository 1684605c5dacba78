-- The test that computes is the closure of the links: going back over links from a step, as often as there are steps, meets just the
-- steps that precede it.
use Prim.Native.Nat.{ℕ, zero, suc, ◌+◌, ◌≤◌, ◌<◌}
use Rattle.std.specs.Prelude.{◌≡◌, Bool, cond, ◌⊎◌, length}
use Rattle.std.proofs.Math.Path.{refl}
use Rattle.std.proofs.Common.{sym, true≢false, inl, inr, arith}
use Rattle.std.proofs.Math.Bool.{true, false}
use mathlib.Core.List.{List, [], ◌∷◌, ◌++◌}
use Rattle.std.proofs.Math.Logic.{⊎_elim}
use Rattle.std.proofs.Math.Decide.{ℕ_discrete}
use Rattle.rules.specs.Bytes.{count, any}
use Rattle.rules_dag.specs.Precedence.{directly, Precedes, link, more, select, linked_to, preceding, must_precede}
use Rattle.tree_scan.specs.Laws.Shape.{Shape}
use Rattle.tree_scan.specs.Laws.Frames.{end_at, size_at}
use Rattle.run_invariant.proofs.Laws.Counts.{Has, has_head, has_tail, has_cases, has_none}
use Rattle.dag_order.specs.Order.{Order}
use Rattle.dag_order.proofs.Laws.Links.{or_either, or_left, or_right, directly-is}
use Rattle.dag_order.proofs.Laws.Ahead.{direct_higher, precedes_higher, precedes_trans}

-- ---- members of lists

has_append : (l r : List ℕ) (x : ℕ) → Has (l ++ r) x → Has l x ⊎ Has r x
has_append [] r x m = inr m
has_append (y ∷ l) r x m =
    has_cases x y (l ++ r) m (λ s. inl (rw s (has_head y l)))
    (λ t. ⊎_elim (λ a. inl (has_tail x y l a)) (λ b. inr b) (has_append l r x t))

append_left : (l r : List ℕ) (x : ℕ) → Has l x → Has (l ++ r) x
append_left [] r x m = has_none x m
append_left (y ∷ l) r x m =
    has_cases x y l m (λ s. rw s (has_head y (l ++ r))) (λ t. has_tail x y (l ++ r) (append_left l r x t))

append_right : (l r : List ℕ) (x : ℕ) → Has r x → Has (l ++ r) x
append_right [] r x m = m
append_right (y ∷ l) r x m = has_tail x y (l ++ r) (append_right l r x m)

has_count : (m a x : ℕ) → a ≤ x → x < a + m → Has (count a m) x
unfolding count
has_count zero a x l u = absurd (omega arith)
has_count (suc m) a x l u =
    elim (ℕ_discrete x a) [
      | yes e ↦ rw e (has_head a (count (suc a) m))
      | no n ↦ has_tail x a (count (suc a) m) (has_count m (suc a) x (omega arith) (omega arith))
    ]

-- What is selected by a test.
module _ (f : ℕ → Bool) where
  select_cons : (y : ℕ) (l : List ℕ) (b : Bool) → f y ≡ b → select f (y ∷ l) ≡ cond b (y ∷ select f l) (select f l)
  unfolding select
  select_cons y l b e = rw e refl

  has_select : (l : List ℕ) (x : ℕ) → Has l x → f x ≡ true → Has (select f l) x
  has_select [] x m t = has_none x m
  has_select (y ∷ l) x m t =
      has_cases x y l m (λ s. rw (s, select_cons y l true (rw s at t)) (has_head y (select f l)))
      (λ r. keep (f y) refl (has_select l x r t))
    where
      keep : (b : Bool) → f y ≡ b → Has (select f l) x → Has (select f (y ∷ l)) x
      keep true e h = rw (select_cons y l true e) (has_tail x y (select f l) h)
      keep false e h = rw (select_cons y l false e) h

  select_has : (l : List ℕ) (x : ℕ) → Has (select f l) x → f x ≡ true
  select_has [] x m = has_none x (none m)
    where
      none : Has (select f []) x → Has [] x
      none h = unfold select in h
  select_has (y ∷ l) x m = by (λ t. select_has l x t) (f y) refl
    where
      by : (Has (select f l) x → f x ≡ true) → (b : Bool) → f y ≡ b → f x ≡ true
      by tail true e = has_cases x y (select f l) (rw (select_cons y l true e) at m) (λ s. rw s e) tail
      by tail false e = tail (rw (select_cons y l false e) at m)

-- One of a list that passes a test.
module _ (f : ℕ → Bool) where
  one_of : (js : List ℕ) → any f js ≡ true → (j : ℕ) × (f j ≡ true) × Has js j
  unfolding any
  one_of [] e = absurd (true≢false (sym e))
  one_of (j ∷ js) e =
      ⊎_elim (λ s. (j, s, has_head j js))
      (λ t.
      let r = one_of js t in
      (r.0, r.1, has_tail r.0 j js r.2))
      (or_either (f j) (any f js) e)

  of_one : (js : List ℕ) (j : ℕ) → f j ≡ true → Has js j → any f js ≡ true
  of_one [] j d m = has_none j m
  of_one (k ∷ js) j d m =
      has_cases j k js m (λ s. first (rw s at d)) (λ t. later (of_one js j d t))
    where
      first : f k ≡ true → any f (k ∷ js) ≡ true
      first e = unfold any in or_left (f k) (any f js) e

      later : any f js ≡ true → any f (k ∷ js) ≡ true
      later e = unfold any in or_right (f k) (any f js) e

-- ---- going back over links

module _ (ks : List ℕ) (sh : Shape (length ks) (end_at ks) (size_at ks)) where
  -- What is met by one link back from a list.
  linked_one : (js : List ℕ) (i : ℕ) → Has (linked_to ks js) i → (j : ℕ) × (directly ks i j ≡ true) × Has js j
  unfolding linked_to
  linked_one js i a = one_of (directly ks i) js (select_has (λ k. any (directly ks k) js) (count 0 (length ks)) i a)

  one_linked : (i j : ℕ) (js : List ℕ) → directly ks i j ≡ true → j < length ks → Has js j → Has (linked_to ks js) i
  unfolding linked_to
  one_linked i j js d h m =
      let less = direct_higher ks sh i j h (directly-is ks i j d) in
      has_select (λ k. any (directly ks k) js) (count 0 (length ks)) i (has_count (length ks) 0 i (omega arith) (omega arith))
      (of_one (directly ks i) js j d m)

  met : (m : ℕ) (js : List ℕ) (i : ℕ) → Has (preceding m ks js) i → (j : ℕ) × Precedes ks i j × Has js j
  unfolding preceding
  met zero js i h = has_none i h
  met (suc m) js i h =
      ⊎_elim (λ a. let r = linked_one js i a in (r.0, link r.1, r.2))
      (λ b.
      let r = met m (linked_to ks js) i b in
      let q = linked_one js r.0 r.2 in
      (q.0, more r.1 q.1, q.2))
      (has_append (linked_to ks js) (preceding m ks (linked_to ks js)) i h)

  meets : (m : ℕ) {i j : ℕ} (js : List ℕ) → j < length ks → j ≤ m → Has js j → Precedes ks i j → Has (preceding m ks js) i
  unfolding preceding
  meets zero {i} {j} js h l m b = absurd (omega (arith, precedes_higher ks sh h b))
  meets (suc f) {i} {j} js h l m (link d) =
      append_left (linked_to ks js) (preceding f ks (linked_to ks js)) i (one_linked i j js d h m)
  meets (suc f) {i} {j} js h l m (more {k = k} b d) =
      let less = direct_higher ks sh k j h (directly-is ks k j d) in
      append_right (linked_to ks js) (preceding f ks (linked_to ks js)) i
      (meets f (linked_to ks js) (omega arith) (omega arith) (one_linked k j js d h m) b)

  pub must_precedes : (i j : ℕ) → must_precede ks i j ≡ true → Precedes ks i j
  unfolding must_precede
  must_precedes i j t =
      let r = met (length ks) (j ∷ []) i t in
      has_cases r.0 j [] r.2 (λ e. rw e at r.1) (λ n. has_none r.0 n)

  pub precedes_must : (i j : ℕ) → j < length ks → Precedes ks i j → must_precede ks i j ≡ true
  unfolding must_precede
  precedes_must i j h b = meets (length ks) (j ∷ []) h (omega arith) (has_head j []) b

  pub order : Order ks
  order =
      record {
        test_then = must_precedes;
        test_only = precedes_must;
        along = λ i k j a b. precedes_trans ks sh a b;
        higher = λ i j h b. precedes_higher ks sh h b;
      }
