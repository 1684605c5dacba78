-- When steps start and end. A step ends its weight after its start, which is the latest end of what precedes it by one link; so the steps
-- from x to the end of x's task, with all that they spawn, end at the latest when what x lasts is over, and one of them then. For the
-- root that is the span.
use Prim.Native.Nat.{ℕ, zero, suc, ◌+◌, ◌-◌, ◌≤◌, ◌<◌}
use Rattle.std.specs.Prelude.{◌≡◌, Bool, ◌⊎◌, get_or}
use Rattle.std.proofs.Math.Path.{refl, sym, ap}
use Rattle.std.proofs.Common.{◌∙◌, true≢false, le_antisymm}
use Rattle.std.proofs.Math.Bool.{true, false, cond}
use mathlib.Core.List.{List, [], map}
use Rattle.std.proofs.Math.Logic.{inl, inr, ⊎_elim}
use Rattle.std.proofs.Math.Nat.{le-max_left, le-max_right}
use native.Mathlib.Omega.{arith}
use Rattle.std.proofs.Math.ListN.{length, length-append, get_or-append}
use Rattle.std.proofs.Math.Seq.{get_or_at}
use Rattle.rules.specs.Bytes.{count}
use Rattle.rules.specs.Tree.{kind_at, is_finish, cont}
use Rattle.rules.specs.Traces.{largest}
use Rattle.rules_dag.specs.Precedence.{directly, Precedes, link, more}
use Rattle.rules_dag.specs.Spans.{start_of, ends_of, span, lasts}
use Rattle.tree.specs.Laws.Counts.{map_at, map-length, map_is}
use Rattle.tree.specs.Laws.Largest.{max_either, largest_most, largest_least, made_most, made_least, made_stands}
use Rattle.tree_scan.specs.Laws.Shape.{after, Inside, Shape, child-inside, tree-ind, inside_parts, inside_end, inside-first}
use Rattle.tree_scan.specs.Laws.Frames.{end_at, size_at, cont-after}
use Rattle.tree_scan.specs.Laws.Openings.{opened, into-child, into-cont}
use Rattle.dag_order.specs.Terms.{Directly}
use Rattle.dag_order.proofs.Laws.Links.{directly-is, is-directly}
use Rattle.dag_order.proofs.Laws.Ahead.{direct_higher, link_child, link_cont, link_finish, links_child, links_cont}
use Rattle.dag_chain.proofs.Laws.Lasting.{lasts-end, lasts-async, lasts-finish}

-- ---- the list of ends

module _ (ks ws : List ℕ) where
  ends_length : (m : ℕ) → length (ends_of ks ws m) ≡ m
  unfolding ends_of
  ends_length zero = refl
  ends_length (suc m) = rw length-append (omega (arith, ends_length m))

  -- A list of more ends has the same at its front.
  ends_more : (d m i : ℕ) → i < m → get_or (ends_of ks ws (d + m)) i 0 ≡ get_or (ends_of ks ws m) i 0
  unfolding ends_of
  ends_more zero m i l =
      let e : 0 + m ≡ m = omega arith in
      rw e refl
  ends_more (suc d) m i l =
      let e : suc d + m ≡ suc (d + m) = omega arith in
      rw e (get_or-append (ends_of ks ws (d + m)) _ 0 i (omega (arith, ends_length (d + m))) ∙ ends_more d m i l)

  ends_last : (j : ℕ) → get_or (ends_of ks ws (suc j)) j 0 ≡ start_of ks (ends_of ks ws j) j + get_or ws j 0
  unfolding ends_of
  ends_last j = get_or_at (ends_of ks ws j) _ [] 0 j (ends_length j)

  -- The end of a step where another precedes it by one link, and 0 where not.
  linked_end : List ℕ → ℕ → ℕ → ℕ
  linked_end ends j i = cond (directly ks i j) (get_or ends i 0) 0

  -- A start looks at no later end.
  start_same : (ends others : List ℕ) (j : ℕ) → ((i : ℕ) → i < j → get_or ends i 0 ≡ get_or others i 0)
      → start_of ks ends j ≡ start_of ks others j
  unfolding start_of linked_end
  start_same ends others j same =
      ap largest
      (map_is (linked_end others j) j (map (linked_end ends j) (count 0 j)) (map-length (linked_end ends j) j 0)
      (λ i l.
      let place : 0 + i ≡ i = omega arith in
      map_at (linked_end ends j) j 0 i l ∙ rw (place, same i l) refl))

  -- ---- starts and ends

  -- When step j ends, and when it starts.
  unfoldable pub ended : ℕ → ℕ
  ended j = get_or (ends_of ks ws (length ks)) j 0

  unfoldable pub begun : ℕ → ℕ
  begun j = start_of ks (ends_of ks ws (length ks)) j

  ended_early : (m i : ℕ) → i < m → m ≤ length ks → get_or (ends_of ks ws m) i 0 ≡ ended i
  unfolding ended
  ended_early m i l h =
      let e : length ks - m + m ≡ length ks = omega arith in
      rw e at (sym (ends_more (length ks - m) m i l))

  pub ended_is : (j : ℕ) → j < length ks → ended j ≡ begun j + get_or ws j 0
  unfolding begun ended
  ended_is j h =
      sym (ended_early (suc j) j (omega arith) h)
      ∙ (ends_last j
      ∙ rw (start_same (ends_of ks ws j) (ends_of ks ws (length ks)) j (λ i l. ended_early j i l (omega arith))) refl)

  module _ (sh : Shape (length ks) (end_at ks) (size_at ks)) where
    -- What precedes a step by a link has ended when it starts,
    linked-ended : (i j : ℕ) → j < length ks → directly ks i j ≡ true → ended i ≤ begun j
    unfolding begun start_of ended
    linked-ended i j h d =
        let l = direct_higher ks sh i j h (directly-is ks i j d) in
        rw d at (made_most (λ k. cond (directly ks k j) (get_or (ends_of ks ws (length ks)) k 0) 0) 0 j i (omega arith) (omega arith))

    -- and it starts no later than that.
    starts_by : (j b : ℕ) → ((i : ℕ) → Directly ks i j → ended i ≤ b) → begun j ≤ b
    unfolding begun start_of ended
    starts_by j b h =
        made_least (λ k. cond (directly ks k j) (get_or (ends_of ks ws (length ks)) k 0) 0) 0 j b
        (λ i l u. bounded (directly ks i j) (get_or (ends_of ks ws (length ks)) i 0) (λ t. h i (directly-is ks i j t)))
      where
        bounded : (t : Bool) (a : ℕ) → (t ≡ true → a ≤ b) → cond t a 0 ≤ b
        bounded true a h = h refl
        bounded false a h = omega arith

    pub precedes-ended : {i j : ℕ} → j < length ks → Precedes ks i j → ended i ≤ begun j
    precedes-ended {i} {j} h (link d) = linked-ended i j h d
    precedes-ended {i} {j} h (more {k = k} p d) =
        let l = direct_higher ks sh k j h (directly-is ks k j d) in
        omega (arith, precedes-ended (omega arith) p, ended_is k (omega arith), linked-ended k j h d)

    pub starts_with : (j : ℕ) → j < length ks → (begun j ≡ 0) ⊎ ((i : ℕ) × Precedes ks i j × (ended i ≡ begun j))
    unfolding begun start_of ended
    starts_with j h =
        ⊎_elim inl (λ r. by r.0 (directly ks r.0 j) refl r.3)
        (made_stands (λ k. cond (directly ks k j) (get_or (ends_of ks ws (length ks)) k 0) 0) 0 j)
      where
        by : (i : ℕ) (t : Bool) → directly ks i j ≡ t → cond (directly ks i j) (ended i) 0 ≡ begun j
            → (begun j ≡ 0) ⊎ ((i : ℕ) × Precedes ks i j × (ended i ≡ begun j))
        by i true t e = inr (i, link t, rw t at e)
        by i false t e = inl (sym (rw t at e))

    -- ---- from a step to its parts

    begun-child : (x : ℕ) → x < length ks → end_at ks x ≡ false → begun (suc x) ≡ ended x
    begun-child x h e =
        le_antisymm (starts_by (suc x) (ended x) (λ i d. rw (links_child ks sh i x h e d) (omega arith)))
        (linked-ended x (suc x) (child-inside sh x h e) (link_child ks sh x h e))

    -- A continuation starts by a time at which its opener has ended and, where it opened a finish child, all of that.
    begun-cont : (x b : ℕ) → x < length ks → end_at ks x ≡ false → ended x ≤ b
        → (is_finish (kind_at ks x) ≡ true → (i : ℕ) → Inside (size_at ks) (suc x) i → ended i ≤ b) → begun (cont ks x) ≤ b
    begun-cont x b h e l f =
        starts_by (cont ks x) b
        (λ i d.
        ⊎_elim (λ s. rw s l)
        (⊎_elim (λ o. omega (arith, linked-ended i x h (is-directly ks i x o), ended_is x h)) (λ w. f w.0 i w.1))
        (links_cont ks sh i x h e d))

    -- ---- the latest end inside a step

    -- No step inside ends later, and one ends then.
    Lasts : ℕ → Type 0
    Lasts x =
        ((j : ℕ) → Inside (size_at ks) x j → ended j ≤ begun x + lasts ks ws x)
        × ((j : ℕ) × Inside (size_at ks) x j × (ended j ≡ begun x + lasts ks ws x))

    lasts-leaf : (x : ℕ) → x < length ks → end_at ks x ≡ true → Lasts x
    unfolding Lasts
    lasts-leaf x h e =
        let now : ended x ≡ begun x + lasts ks ws x = omega (arith, ended_is x h, lasts-end ks ws sh x h e) in
        (λ j w. rw (inside_end sh x j h e w) (omega arith), (x, (omega arith, omega (arith, (sh.at x h).some)), now))

    -- From the two parts of an opening step, which both end by a time, and one of them then.
    module _ (x : ℕ) (h : x < length ks) (e : end_at ks x ≡ false) (b : ℕ) (own : ended x ≤ b) where
      inside-by : ((j : ℕ) → Inside (size_at ks) (suc x) j → ended j ≤ b) → ((j : ℕ) → Inside (size_at ks) (cont ks x) j → ended j ≤ b)
          → (j : ℕ) → Inside (size_at ks) x j → ended j ≤ b
      inside-by l r j w =
          let c = cont-after ks x h in
          ⊎_elim (λ s. rw s own) (⊎_elim (λ a. l j a) (λ a. r j (rw c a))) (inside_parts sh x j h e w)

    lasts-by-finish : (x : ℕ) → x < length ks → end_at ks x ≡ false → is_finish (kind_at ks x) ≡ true
        → Lasts (suc x) → Lasts (cont ks x) → Lasts x
    unfolding Lasts
    lasts-by-finish x h e f l r =
        let o = opened ks sh x h e in
        let sum = lasts-finish ks ws sh x h f in
        let own = ended_is x h in
        let first = begun-child x h e in
        let up = begun-cont x (ended x + lasts ks ws (suc x)) h e (omega arith) (λ _ i w. omega (arith, l.0 i w, first)) in
        let top = l.1 in
        let low = linked-ended top.0 (cont ks x) o.room (link_finish ks sh x top.0 h f top.1) in
        let next : begun (cont ks x) ≡ ended x + lasts ks ws (suc x) = omega (arith, up, low, top.2, first) in
        let last = r.1 in (
          inside-by x h e (begun x + lasts ks ws x) (omega (arith, own, sum)) (λ j w. omega (arith, l.0 j w, first, own, sum))
              (λ j w. omega (arith, r.0 j w, next, own, sum)),
          (last.0, into-cont ks sh x h e last.0 last.1, omega (arith, last.2, next, own, sum)),
        )

    lasts-by-async : (x : ℕ) → x < length ks → end_at ks x ≡ false → is_finish (kind_at ks x) ≡ false
        → Lasts (suc x) → Lasts (cont ks x) → Lasts x
    unfolding Lasts
    lasts-by-async x h e f l r =
        let o = opened ks sh x h e in
        let longer = lasts-async ks ws sh x h e f in
        let own = ended_is x h in
        let first = begun-child x h e in
        let up = begun-cont x (ended x) h e (omega arith) (λ t. absurd (true≢false (sym t ∙ f))) in
        let low = linked-ended x (cont ks x) o.room (link_cont ks sh x h e) in
        let next : begun (cont ks x) ≡ ended x = omega (arith, up, low) in
        let one = le-max_left (lasts ks ws (suc x)) (lasts ks ws (cont ks x)) in
        let two = le-max_right (lasts ks ws (suc x)) (lasts ks ws (cont ks x)) in (
          inside-by x h e (begun x + lasts ks ws x) (omega (arith, own, longer))
              (λ j w. omega (arith, l.0 j w, first, own, longer, one)) (λ j w. omega (arith, r.0 j w, next, own, longer, two)),
          ⊎_elim (λ s. (l.1.0, into-child ks sh x h e l.1.0 l.1.1, omega (arith, l.1.2, first, own, longer, s)))
              (λ s. (r.1.0, into-cont ks sh x h e r.1.0 r.1.1, omega (arith, r.1.2, next, own, longer, s)))
              (max_either (lasts ks ws (suc x)) (lasts ks ws (cont ks x))),
        )

    lasts-opens : (x : ℕ) → x < length ks → end_at ks x ≡ false → Lasts (suc x) → Lasts (after (size_at ks) x) → Lasts x
    lasts-opens x h e l r = by (is_finish (kind_at ks x)) refl
      where
        by : (b : Bool) → is_finish (kind_at ks x) ≡ b → Lasts x
        by true f = lasts-by-finish x h e f l (rw (cont-after ks x h) r)
        by false f = lasts-by-async x h e f l (rw (cont-after ks x h) r)

    all_last : (x : ℕ) → x < length ks → Lasts x
    all_last = tree-ind sh Lasts lasts-leaf lasts-opens

    pub inside-ends : (x j : ℕ) → x < length ks → Inside (size_at ks) x j → ended j ≤ begun x + lasts ks ws x
    unfolding Lasts
    inside-ends x j h w = (all_last x h).0 j w

    pub inside-last : (x : ℕ) → x < length ks → (j : ℕ) × Inside (size_at ks) x j × (ended j ≡ begun x + lasts ks ws x)
    unfolding Lasts
    inside-last x h = (all_last x h).1

    -- ---- the span

    pub ended-most : (j : ℕ) → ended j ≤ span ks ws
    unfolding span ended
    ended-most j = largest_most (ends_of ks ws (length ks)) j

    pub begun-root : begun 0 ≡ 0
    unfolding begun start_of largest count
    begun-root = refl

    pub span-lasts : 0 < length ks → span ks ws ≡ lasts ks ws 0
    unfolding span ended
    span-lasts h =
        let top = inside-last 0 h in
        let most : span ks ws ≤ lasts ks ws 0 =
        largest_least (ends_of ks ws (length ks)) (lasts ks ws 0)
        (λ k l. omega (arith, inside-ends 0 k h (inside-first sh k (omega (arith, l, ends_length (length ks)))), begun-root))
        in
        omega (arith, most, ended-most top.0, top.2, begun-root)
