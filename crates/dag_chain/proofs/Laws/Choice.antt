-- The rules' chain, which is chosen by the order and the weights alone, is the walk: what the heaviest chain from a step on weighs is what
-- remains there, so the lowest step to go on with is the walk's.
use Prim.Native.Nat.{ℕ, zero, suc, ◌+◌, ◌-◌, ◌≤◌, ◌<◌}
use Rattle.std.specs.Prelude.{◌≡◌, Bool, true, false, cond, ◌&&◌, ◌⊎◌, eqb}
use Rattle.std.proofs.Math.Path.{refl, sym, ap}
use Rattle.std.proofs.Common.{◌∙◌, true≢false, inl, inr, le_antisymm}
use mathlib.Core.List.{List, [], ◌∷◌, zip_with}
use Rattle.std.proofs.Math.Logic.{⊎_elim}
use Rattle.std.proofs.Math.Option.{some}
use Rattle.std.proofs.Math.Decide.{ℕ_discrete, dec_lt}
use native.Mathlib.Omega.{arith}
use Rattle.std.proofs.Math.ListN.{length, get_or}
use borrow.Author.Tests.{eq-eqb, eqb-true, le-leb, lt-leb}
use Rattle.rules.specs.Bytes.{count, find}
use Rattle.rules.specs.Traces.{largest}
use Rattle.rules_dag.specs.Precedence.{must_precede}
use Rattle.rules_dag.specs.Spans.{span, froms_of, chain_from, chain}
use Rattle.tree.specs.Laws.Counts.{length-count, count_at}
use Rattle.tree.specs.Laws.Largest.{largest_most, largest_stands}
use Rattle.tree_scan.specs.Laws.Shape.{Shape}
use Rattle.tree_scan.specs.Laws.Frames.{end_at, size_at}
use Rattle.run_invariant.proofs.Laws.Counts.{and_both}
use Rattle.dag_order.specs.Terms.{Ahead}
use Rattle.dag_order.proofs.Laws.Ahead.{ahead_higher, precedes_ahead, ahead_precedes}
use Rattle.dag_order.proofs.Laws.Closure.{must_precedes, precedes_must}
use Rattle.dag_chain.specs.WorkAndSpan.{weigh}
use Rattle.dag_chain.specs.Terms.{onward, pending, path, walked, Pending, remains, Linked}
use Rattle.dag_chain.proofs.Laws.Times.{span-lasts}
use Rattle.dag_chain.proofs.Laws.Bounds.{weigh_cons, weigh-one, linked_within}
use Rattle.dag_chain.proofs.Laws.Walk.{remains-root, remains_most, self-inside, pending-root, goes, best}
use Rattle.dag_chain.proofs.Laws.Walk.{path-last, path-more}

-- ---- lists

module _ (f : ℕ → ℕ → ℕ) where
  zip_length : (xs ys : List ℕ) → length xs ≡ length ys → length (zip_with f xs ys) ≡ length xs
  unfolding zip_with
  zip_length [] [] e = refl
  zip_length [] (y ∷ ys) e = absurd (omega arith)
  zip_length (x ∷ xs) [] e = absurd (omega arith)
  zip_length (x ∷ xs) (y ∷ ys) e = ap suc (zip_length xs ys (omega arith))

  zip_at : (xs ys : List ℕ) → length xs ≡ length ys → (k : ℕ) → k < length xs
      → get_or (zip_with f xs ys) k 0 ≡ f (get_or xs k 0) (get_or ys k 0)
  unfolding zip_with
  zip_at [] ys e k h = absurd (omega arith)
  zip_at (x ∷ xs) [] e k h = absurd (omega arith)
  zip_at (x ∷ xs) (y ∷ ys) e zero h = refl
  zip_at (x ∷ xs) (y ∷ ys) e (suc k) h = zip_at xs ys (omega arith) k (omega arith)

-- The first number that passes a test is the lowest.
find_lowest : (f : ℕ → Bool) (m a d : ℕ) → a ≤ d → d < a + m → f d ≡ true → ((k : ℕ) → k < d → f k ≡ true → ⊥)
    → find f (count a m) ≡ some d
unfolding find count
find_lowest f zero a d l u t n = absurd (omega arith)
find_lowest f (suc m) a d l u t n = by (λ g. find_lowest f m (suc a) d g (omega arith) t n) (f a) refl
  where
    by : (suc a ≤ d → find f (count (suc a) m) ≡ some d) → (b : Bool) → f a ≡ b
        → cond b (some a) (find f (count (suc a) m)) ≡ some d
    by on true e =
        elim (dec_lt a d) [
          | yes g ↦ absurd (n a g e)
          | no g ↦ (let same : a ≡ d = omega arith in rw same refl)
        ]
    by on false e = elim (ℕ_discrete a d) [ yes s ↦ absurd (true≢false (sym t ∙ rw s at e)) | no g ↦ on (omega arith) ]

module _ (ks ws : List ℕ) where
  -- ---- what the heaviest chain from a step on weighs

  froms_length : (m : ℕ) → length (froms_of ks ws m) ≡ m
  unfolding froms_of
  froms_length zero = refl
  froms_length (suc m) = ap suc (froms_length m)

  -- The list of fewer steps stands at the end of a longer one.
  froms_end : (d m k : ℕ) → get_or (froms_of ks ws (d + m)) (d + k) 0 ≡ get_or (froms_of ks ws m) k 0
  unfolding froms_of
  froms_end zero m k =
      let e : 0 + m ≡ m = omega arith in
      let f : 0 + k ≡ k = omega arith in
      rw (e, f) refl
  froms_end (suc d) m k =
      let e : suc d + m ≡ suc (d + m) = omega arith in
      let f : suc d + k ≡ suc (d + k) = omega arith in
      rw (e, f) (froms_end d m k)

  unfoldable pub from : ℕ → ℕ
  from i = get_or (froms_of ks ws (length ks)) i 0

  -- The later steps, each with what the heaviest chain from it on weighs if step i must precede it.
  reach : ℕ → ℕ → List ℕ
  reach i m = zip_with (λ j weighs. cond (must_precede ks i j) weighs 0) (count (suc i) m) (froms_of ks ws m)

  module _ (i m : ℕ) (all : i + suc m ≡ length ks) where
    from_is : from i ≡ get_or ws i 0 + largest (reach i m)
    unfolding from froms_of reach
    from_is =
        let here : i + 0 ≡ i = omega arith in
        let step : length ks - suc m ≡ i = omega arith in
        ap (λ (x : ℕ). get_or (froms_of ks ws x) i 0) (sym all) ∙ (rw here at (froms_end i (suc m) 0) ∙ rw step refl)

    later-is : (k : ℕ) → get_or (froms_of ks ws m) k 0 ≡ from (suc i + k)
    unfolding from
    later-is k =
        let e : suc i + m ≡ length ks = omega arith in
        sym (froms_end (suc i) m k) ∙ rw e refl

    reach-length : length (reach i m) ≡ m
    unfolding reach
    reach-length =
        zip_length _ (count (suc i) m) (froms_of ks ws m) (length-count m (suc i) ∙ sym (froms_length m)) ∙ length-count m (suc i)

    reach-at : (k : ℕ) → k < m → get_or (reach i m) k 0 ≡ cond (must_precede ks i (suc i + k)) (from (suc i + k)) 0
    unfolding reach
    reach-at k h =
        let many = length-count m (suc i) in
        zip_at _ (count (suc i) m) (froms_of ks ws m) (many ∙ sym (froms_length m)) k (omega arith)
        ∙ rw (count_at m (suc i) k h, later-is k) refl

  rest_of : (i : ℕ) → i < length ks → i + suc (length ks - suc i) ≡ length ks
  rest_of i h = omega arith

  from_own : (i : ℕ) → i < length ks → get_or ws i 0 ≤ from i
  from_own i h = omega (arith, from_is i (length ks - suc i) (rest_of i h))

  from_most : (i j : ℕ) → i < j → j < length ks → must_precede ks i j ≡ true → get_or ws i 0 + from j ≤ from i
  from_most i j l h t =
      let m = length ks - suc i in
      let all = rest_of i (omega arith) in
      let place : suc i + (j - suc i) ≡ j = omega arith in
      let at = reach-at i m all (j - suc i) (omega arith) in
      omega (arith, from_is i m all, largest_most (reach i m) (j - suc i), rw (place, t) at at)

  from_stands : (i : ℕ) → i < length ks
      → (from i ≡ get_or ws i 0) ⊎ ((j : ℕ) × (j < length ks) × (must_precede ks i j ≡ true) × (from i ≡ get_or ws i 0 + from j))
  from_stands i h =
      ⊎_elim (λ z. inl (omega (arith, whole))) (λ r. by r.0 (omega (arith, r.1, size)) r.2 (must_precede ks i (suc i + r.0)) refl)
      (largest_stands (reach i (length ks - suc i)))
    where
      whole : from i ≡ get_or ws i 0 + largest (reach i (length ks - suc i))
      whole = from_is i (length ks - suc i) (rest_of i h)

      size : length (reach i (length ks - suc i)) ≡ length ks - suc i
      size = reach-length i (length ks - suc i) (rest_of i h)

      by : (k : ℕ) → k < length ks - suc i → get_or (reach i (length ks - suc i)) k 0 ≡ largest (reach i (length ks - suc i))
          → (b : Bool) → must_precede ks i (suc i + k) ≡ b
          → (from i ≡ get_or ws i 0) ⊎ ((j : ℕ) × (j < length ks) × (must_precede ks i j ≡ true) × (from i ≡ get_or ws i 0 + from j))
      by k l e true t =
          let at = reach-at i (length ks - suc i) (rest_of i h) k l in
          inr (suc i + k, omega arith, t, omega (arith, whole, e, rw t at at))
      by k l e false t =
          let at = reach-at i (length ks - suc i) (rest_of i h) k l in
          inl (omega (arith, whole, e, rw t at at))

  module _ (sh : Shape (length ks) (end_at ks) (size_at ks)) where
    ahead-must : (i j : ℕ) → j < length ks → Ahead ks i j → must_precede ks i j ≡ true
    ahead-must i j h c = precedes_must ks sh i j h (ahead_precedes ks sh i j h c)

    must-ahead : (i j : ℕ) → j < length ks → must_precede ks i j ≡ true → Ahead ks i j
    must-ahead i j h t = precedes_ahead ks sh h (must_precedes ks sh i j t)

    -- No chain from the step on weighs more,
    from-upper : (i : ℕ) (r : List ℕ) → Linked ks i r → weigh ws (i ∷ r) ≤ from i
    from-upper i [] l = omega (arith, weigh-one ws i, from_own i l)
    from-upper i (j ∷ r) l =
        let h = linked_within ks ws sh j r l.1 in
        let most = from_most i j (ahead_higher ks sh i j l.0) h (ahead-must i j h l.0) in
        omega (arith, weigh_cons ws i (j ∷ r), from-upper j r l.1, most)

    -- and one weighs that.
    Attained : ℕ → Type 0
    Attained i = (r : List ℕ) × Linked ks i r × (weigh ws (i ∷ r) ≡ from i)

    attained-by : (m i : ℕ) → length ks ≤ m + i → i < length ks → Attained i
    unfolding Attained
    attained-by zero i f h = absurd (omega arith)
    attained-by (suc m) i f h =
        ⊎_elim (λ z. ([], h, omega (arith, weigh-one ws i, z)))
        (λ r.
        let c = must-ahead i r.0 r.1 r.2 in
        let a = attained-by m r.0 (omega (arith, ahead_higher ks sh i r.0 c)) r.1 in
        (r.0 ∷ a.0, (c, a.1), omega (arith, weigh_cons ws i (r.0 ∷ a.0), a.2, r.3)))
        (from_stands i h)

    attained : (i : ℕ) → i < length ks → (r : List ℕ) × Linked ks i r × (weigh ws (i ∷ r) ≡ from i)
    unfolding Attained
    attained i h = attained-by (length ks) i (omega arith) h

    -- So it is what remains at a step, where the walk comes to it.
    from-remains : (d : ℕ) (qs : List ℕ) → d < length ks → Pending ks d qs → from d ≡ remains ks ws d qs
    from-remains d qs h p =
        let a = attained d h in
        let up = remains_most ks ws sh d qs h p d a.0 (self-inside ks ws sh d h) a.1 in
        let b = best ks ws sh (length ks) d qs (omega arith) h p in
        le_antisymm (omega (arith, up, a.2)) (omega (arith, from-upper d b.rest b.linked, b.weighs))

    -- ---- the lowest step to go on with

    next-found : (c : ℕ) (qs : List ℕ) → c < length ks → get_or ws c 0 < remains ks ws c qs → Pending ks c qs
        → find (λ j. must_precede ks c j && eqb (from j) (remains ks ws (onward ks ws c qs) (pending ks c qs))) (count 0 (length ks))
        ≡ some (onward ks ws c qs)
    next-found c qs h left p =
        let g = goes ks ws sh c qs h left p in
        let d = onward ks ws c qs in
        let rest = remains ks ws d (pending ks c qs) in
        find_lowest (λ j. must_precede ks c j && eqb (from j) rest) (length ks) 0 d (omega arith) (omega (arith, g.within))
        (rw (ahead-must c d g.within g.ahead, eq-eqb (from d) rest (from-remains d (pending ks c qs) g.within g.waiting)) refl)
        (λ k l t.
        let b = and_both (must_precede ks c k) (eqb (from k) rest) t in
        let hk : k < length ks = omega (arith, g.within) in
        let a = attained k hk in
        ⊎_elim (λ s. omega arith) (λ s. omega arith)
        (g.lowest k a.0 (must-ahead c k hk b.0) a.1 (a.2 ∙ eqb-true (from k) rest b.1)))

    root-found : 0 < length ks → find (λ j. true && eqb (from j) (span ks ws)) (count 0 (length ks)) ≡ some 0
    root-found h =
        let all : from 0 ≡ span ks ws =
        from-remains 0 [] h (pending-root ks ws sh) ∙ (remains-root ks ws sh ∙ sym (span-lasts ks ws sh h)) in
        find_lowest (λ j. true && eqb (from j) (span ks ws)) (length ks) 0 0 (omega arith) (omega arith)
        (rw (eq-eqb (from 0) (span ks ws) all) refl) (λ k l t. omega arith)

    -- ---- the same list

    -- The rules' chain a step at a time.
    module _ (m : ℕ) (next : ℕ → Bool) (left c : ℕ) (found : find (λ j. next j && eqb (from j) left) (count 0 (length ks)) ≡ some c) where
      chain-last : left ≤ get_or ws c 0 → chain_from (suc m) ks ws (froms_of ks ws (length ks)) next left ≡ c ∷ []
      unfolding chain_from from
      chain-last l = rw (found, chain_from, le-leb left (get_or ws c 0) l) refl

      chain_more : get_or ws c 0 < left
          → chain_from (suc m) ks ws (froms_of ks ws (length ks)) next left
          ≡ c ∷ chain_from m ks ws (froms_of ks ws (length ks)) (must_precede ks c) (left - get_or ws c 0)
      unfolding chain_from from
      chain_more l = rw (found, chain_from, lt-leb left (get_or ws c 0) l) refl

    same : (m : ℕ) (next : ℕ → Bool) (c : ℕ) (qs : List ℕ) → c < length ks → Pending ks c qs
        → find (λ j. next j && eqb (from j) (remains ks ws c qs)) (count 0 (length ks)) ≡ some c
        → chain_from m ks ws (froms_of ks ws (length ks)) next (remains ks ws c qs) ≡ path ks ws m c (remains ks ws c qs) qs
    same zero next c qs h p found = none
      where
        none : chain_from zero ks ws (froms_of ks ws (length ks)) next (remains ks ws c qs) ≡ path ks ws zero c (remains ks ws c qs) qs
        none = unfold chain_from in unfold path in refl
    same (suc m) next c qs h p found = by (dec_lt (get_or ws c 0) left) (λ d rest g q f. same m (must_precede ks c) d rest g q f)
      where
        left : ℕ
        left = remains ks ws c qs

        by : Dec (get_or ws c 0 < left)
            → ((d : ℕ) (rest : List ℕ) → d < length ks → Pending ks d rest
            → find (λ j. must_precede ks c j && eqb (from j) (remains ks ws d rest)) (count 0 (length ks)) ≡ some d
            → chain_from m ks ws (froms_of ks ws (length ks)) (must_precede ks c) (remains ks ws d rest)
            ≡ path ks ws m d (remains ks ws d rest) rest)
            → chain_from (suc m) ks ws (froms_of ks ws (length ks)) next left ≡ path ks ws (suc m) c left qs
        by (yes more) on =
            let g = goes ks ws sh c qs h more p in
            let d = onward ks ws c qs in
            let rest = pending ks c qs in
            let less : left - get_or ws c 0 ≡ remains ks ws d rest = omega (arith, g.rest) in
            chain_more m next left c found more
            ∙ (rw less (ap (λ (l : List ℕ). c ∷ l) (on d rest g.within g.waiting (next-found c qs h more p)))
            ∙ sym (path-more ks ws sh m c qs h more p))
        by (no all) on =
            let last : left ≤ get_or ws c 0 = omega arith in
            chain-last m next left c found last ∙ sym (path-last ks ws sh m c left qs last)

    pub chain-walked : 0 < length ks → chain ks ws ≡ walked ks ws
    unfolding chain walked
    chain-walked h =
        let root = remains-root ks ws sh in
        let all = span-lasts ks ws sh h in
        let found = root-found h in
        rw all (rw root at (same (length ks) (λ j. true) 0 [] h (pending-root ks ws sh) (rw (all, sym root) at found)))
