-- How long the rest of a task lasts with all that it spawned, as equations: more records than remain change nothing.
use Prim.Native.Nat.{ℕ, zero, suc, ◌+◌, ◌*◌, ◌≤◌, ◌<◌, max}
use Rattle.std.specs.Prelude.{◌≡◌, Bool, true, false, List, get_or}
use Rattle.std.proofs.Math.Path.{refl, sym}
use Rattle.std.proofs.Common.{◌∙◌, arith}
use Rattle.std.proofs.Math.Nat.{max-le}
use Rattle.std.proofs.Math.ListN.{length}
use Rattle.rules.specs.Tree.{kind_at, is_finish, cont}
use Rattle.rules_dag.specs.Spans.{rest_lasts, lasts}
use Rattle.tree_scan.specs.Laws.Shape.{Shape, child-inside, tree-ind}
use Rattle.tree_scan.specs.Laws.Frames.{end_at, size_at, cont-after}
use Rattle.tree_scan.specs.Laws.Openings.{opened, finish_opens}
use Rattle.dag_chain.specs.Terms.{joined}

module _ (ks ws : List ℕ) where
  -- A step at a time.
  rest_end : (m i : ℕ) → end_at ks i ≡ true → rest_lasts (suc m) ks ws i ≡ get_or ws i 0
  unfolding rest_lasts end_at
  rest_end m i e = rw (e, rest_lasts) refl

  rest_open : (m i : ℕ) → end_at ks i ≡ false
      → rest_lasts (suc (suc m)) ks ws i
      ≡ joined (is_finish (kind_at ks i)) (get_or ws i 0) (rest_lasts m ks ws (suc i)) (rest_lasts (suc m) ks ws (cont ks i))
  unfolding rest_lasts end_at joined
  rest_open m i e = rw (e, rest_lasts) refl

  module _ (sh : Shape (length ks) (end_at ks) (size_at ks)) where
    -- Two counts that are enough answer the same.
    Enough : ℕ → Type 0
    Enough i = (m k : ℕ) → 2 * size_at ks i ≤ m → 2 * size_at ks i ≤ k → rest_lasts m ks ws i ≡ rest_lasts k ks ws i

    enough-end : (i : ℕ) → i < length ks → end_at ks i ≡ true → Enough i
    unfolding Enough
    enough-end i h e zero k a b = absurd (omega (arith, (sh.at i h).some))
    enough-end i h e (suc m) zero a b = absurd (omega (arith, (sh.at i h).some))
    enough-end i h e (suc m) (suc k) a b = rest_end m i e ∙ sym (rest_end k i e)

    enough-open : (i : ℕ) → i < length ks → end_at ks i ≡ false → Enough (suc i) → Enough (cont ks i) → Enough i
    unfolding Enough
    enough-open i h e child rest zero k a b = absurd (omega (arith, (sh.at i h).some))
    enough-open i h e child rest (suc zero) k a b = absurd (omega (arith, (sh.at i h).some))
    enough-open i h e child rest (suc (suc m)) zero a b = absurd (omega (arith, (sh.at i h).some))
    enough-open i h e child rest (suc (suc m)) (suc zero) a b = absurd (omega (arith, (sh.at i h).some))
    enough-open i h e child rest (suc (suc m)) (suc (suc k)) a b =
        let o = opened ks sh i h e in
        let one = child m k (omega (arith, o.size, o.right)) (omega (arith, o.size, o.right)) in
        let two = rest (suc m) (suc k) (omega (arith, o.size, o.left)) (omega (arith, o.size, o.left)) in
        rest_open m i e ∙ (rw (one, two) (sym (rest_open k i e)))

    enough : (i : ℕ) → i < length ks → Enough i
    enough = tree-ind sh Enough enough-end (λ i h e l r. enough-open i h e l (rw (cont-after ks i h) r))

    enough-is : (m i : ℕ) → i < length ks → 2 * size_at ks i ≤ m → rest_lasts m ks ws i ≡ lasts ks ws i
    unfolding Enough lasts
    enough-is m i h b = enough i h m (2 * length ks) b (omega (arith, (sh.at i h).fits))

    -- ---- the equations

    pub lasts-end : (i : ℕ) → i < length ks → end_at ks i ≡ true → lasts ks ws i ≡ get_or ws i 0
    lasts-end i h e = sym (enough-is (suc (2 * size_at ks i)) i h (omega arith)) ∙ rest_end (2 * size_at ks i) i e

    pub lasts-open : (i : ℕ) → i < length ks → end_at ks i ≡ false
        → lasts ks ws i ≡ joined (is_finish (kind_at ks i)) (get_or ws i 0) (lasts ks ws (suc i)) (lasts ks ws (cont ks i))
    lasts-open i h e =
        let o = opened ks sh i h e in
        let m = 2 * size_at ks i in
        let child = enough-is m (suc i) (child-inside sh i h e) (omega (arith, o.size)) in
        let rest = enough-is (suc m) (cont ks i) o.room (omega (arith, o.size)) in
        sym (enough-is (suc (suc m)) i h (omega arith)) ∙ (rest_open m i e ∙ rw (child, rest) refl)

    pub lasts-async : (i : ℕ) → i < length ks → end_at ks i ≡ false → is_finish (kind_at ks i) ≡ false
        → lasts ks ws i ≡ get_or ws i 0 + max (lasts ks ws (suc i)) (lasts ks ws (cont ks i))
    unfolding joined
    lasts-async i h e f = lasts-open i h e ∙ rw f refl

    pub lasts-finish : (i : ℕ) → i < length ks → is_finish (kind_at ks i) ≡ true
        → lasts ks ws i ≡ get_or ws i 0 + (lasts ks ws (suc i) + lasts ks ws (cont ks i))
    unfolding joined
    lasts-finish i h f = lasts-open i h (finish_opens ks i f) ∙ rw f refl

    -- A step lasts at least its weight, and an opening step at most its weight and what both parts last.
    pub lasts-own : (i : ℕ) → i < length ks → get_or ws i 0 ≤ lasts ks ws i
    lasts-own i h = by (end_at ks i) refl
      where
        by : (b : Bool) → end_at ks i ≡ b → get_or ws i 0 ≤ lasts ks ws i
        by true e = omega (arith, lasts-end i h e)
        by false e = opens (is_finish (kind_at ks i)) refl
          where
            opens : (f : Bool) → is_finish (kind_at ks i) ≡ f → get_or ws i 0 ≤ lasts ks ws i
            opens true f = omega (arith, lasts-finish i h f)
            opens false f = omega (arith, lasts-async i h e f)

    pub lasts-most : (i : ℕ) → i < length ks → end_at ks i ≡ false
        → lasts ks ws i ≤ get_or ws i 0 + (lasts ks ws (suc i) + lasts ks ws (cont ks i))
    lasts-most i h e = by (is_finish (kind_at ks i)) refl
      where
        by : (f : Bool) → is_finish (kind_at ks i) ≡ f → lasts ks ws i ≤ get_or ws i 0 + (lasts ks ws (suc i) + lasts ks ws (cont ks i))
        by true f = omega (arith, lasts-finish i h f)
        by false f =
            let child = lasts ks ws (suc i) in
            let rest = lasts ks ws (cont ks i) in
            let most : max child rest ≤ child + rest = max-le (omega arith) (omega arith) in
            omega (arith, lasts-async i h e f)
