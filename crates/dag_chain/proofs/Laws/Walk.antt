-- The walk that finds the chain: with its pending steps it goes on to a step that the one before precedes, the weight left falls by the
-- step's own, and no heaviest chain goes on to a lower step. So it is a chain, weighs the span, and goes before every other of that weight.
use Rattle.std.specs.Prelude.{ℕ, zero, suc, ◌+◌, ◌-◌, ◌≤◌, ◌<◌, ◌≡◌, Bool, ◌⊎◌, length, leb, ltb}
use Rattle.std.proofs.Math.Path.{refl, ap}
use Rattle.std.proofs.Common.{◌∙◌}
use Rattle.std.proofs.Math.Bool.{true, false, or-true}
use mathlib.Core.List.{List, [], ◌∷◌}
use Rattle.std.proofs.Math.Logic.{inl, inr, ⊎_elim}
use Rattle.std.proofs.Math.Decide.{ℕ_discrete, dec_lt}
use Rattle.std.proofs.Math.Nat.{max-eq_left, max-eq_right}
use native.Mathlib.Omega.{arith}
use Rattle.std.proofs.Math.ListN.{get_or}
use borrow.Author.Tests.{lt-ltb, eq-eqb, le-leb, lt-leb, leb-true, leb-false}
use Rattle.rules.specs.Bytes.{sum}
use Rattle.rules.specs.Tree.{kind_at, is_finish, cont}
use Rattle.rules_dag.specs.Spans.{lasts}
use Rattle.tree_scan.specs.Laws.Shape.{Inside, Shape, child-inside, inside_end, inside-first}
use Rattle.tree_scan.specs.Laws.Frames.{end_at, size_at}
use Rattle.tree_scan.specs.Laws.Openings.{opened, into-child, into-cont}
use Rattle.dag_order.specs.Terms.{Ahead}
use Rattle.dag_order.proofs.Laws.Ahead.{ahead_higher, ahead_trans}
use Rattle.dag_chain.specs.WorkAndSpan.{weigh, goes_before}
use Rattle.dag_chain.specs.Terms.{nearest, outer, open_next, onward, pending, path, walked, Pending, remains, Linked}
use Rattle.dag_chain.proofs.Laws.Lasting.{lasts-end, lasts-async, lasts-finish, lasts-own}
use Rattle.dag_chain.proofs.Laws.Bounds.{weigh_cons, weigh-one, linked_within, leaves-cont, leaves-async, past-child, Outer, bounded}

-- ---- chains in order

goes_same : (c : ℕ) (l r : List ℕ) → goes_before l r ≡ true → goes_before (c ∷ l) (c ∷ r) ≡ true
unfolding goes_before
goes_same c l r t = rw (eq-eqb c c refl, t) (or-true (ltb c c))

goes_lower : (c d : ℕ) (l r : List ℕ) → c < d → goes_before (c ∷ l) (d ∷ r) ≡ true
unfolding goes_before
goes_lower c d l r t = rw (lt-ltb c d t) refl

goes_start : (d : ℕ) (r : List ℕ) → goes_before [] (d ∷ r) ≡ true
unfolding goes_before
goes_start d r = refl

-- The list is another, or goes before it.
abbrev pub Leads : List ℕ → List ℕ → Type 0
Leads l r = (r ≡ l) ⊎ (goes_before l r ≡ true)

leads_same : (c : ℕ) (l r : List ℕ) → Leads l r → Leads (c ∷ l) (c ∷ r)
leads_same c l r = ⊎_elim (λ s. inl (rw s refl)) (λ t. inr (goes_same c l r t))

module _ (ks ws : List ℕ) (sh : Shape (length ks) (end_at ks) (size_at ks)) where
  -- ---- what is left

  sum_cons : (q : ℕ) (qs : List ℕ) → sum (lasts ks ws) (q ∷ qs) ≡ lasts ks ws q + sum (lasts ks ws) qs
  unfolding sum
  sum_cons q qs = refl

  sum_none : sum (lasts ks ws) [] ≡ 0
  unfolding sum
  sum_none = refl

  pub remains-root : remains ks ws 0 [] ≡ lasts ks ws 0
  unfolding remains
  remains-root = omega (arith, sum_none)

  remains_own : (c : ℕ) (qs : List ℕ) → c < length ks → get_or ws c 0 ≤ remains ks ws c qs
  unfolding remains
  remains_own c qs h = omega (arith, lasts-own ks ws sh c h)

  pub self-inside : (c : ℕ) → c < length ks → Inside (size_at ks) c c
  self-inside c h = (omega arith, omega (arith, (sh.at c h).some))

  -- ---- pending steps

  -- No more is outside than what the pending steps last.
  pub pending-outer : (c : ℕ) (qs : List ℕ) → Pending ks c qs → Outer ks ws sh c (sum (lasts ks ws) qs)
  unfolding Outer
  pending-outer c [] p i j r a g b l = absurd (p i j a g (linked_within ks ws sh j r l) b)
  pending-outer c (q ∷ qs) p i j r a g b l =
      let inner = bounded ks ws sh q p.0 (sum (lasts ks ws) qs) (pending-outer q qs p.3) in
      ⊎_elim (λ s. omega (arith, sum_cons q qs, inner j r (rw s (self-inside q p.0)) l))
      (λ d. omega (arith, sum_cons q qs, inner q (j ∷ r) (self-inside q p.0) (d, l), weigh_cons ws q (j ∷ r)))
      (p.1 i j a g (linked_within ks ws sh j r l) b)

  -- So no chain from the step on weighs more than what remains.
  pub remains_most : (c : ℕ) (qs : List ℕ) → c < length ks → Pending ks c qs → (i : ℕ) (r : List ℕ) → Inside (size_at ks) c i
      → Linked ks i r → weigh ws (i ∷ r) ≤ remains ks ws c qs
  unfolding remains
  remains_most c qs h p i r w l = bounded ks ws sh c h (sum (lasts ks ws) qs) (pending-outer c qs p) i r w l

  pub pending-root : Pending ks 0 []
  pending-root i j a g l b = b (inside-first sh j l)

  -- A part of a step out of which nothing else leads has the same pending steps.
  narrow : (c d : ℕ) (qs : List ℕ) → ((i : ℕ) → Inside (size_at ks) d i → Inside (size_at ks) c i)
      → ((i j : ℕ) → Ahead ks i j → Inside (size_at ks) d i → (Inside (size_at ks) d j → ⊥) → Inside (size_at ks) c j → ⊥)
      → Pending ks c qs → Pending ks d qs
  narrow c d [] into out p = λ i j a g h b. p i j (into i a) g h (out i j g a b)
  narrow c d (q ∷ qs) into out p =
      (p.0, λ i j a g h b. p.1 i j (into i a) g h (out i j g a b), λ i a. p.2 i (into i a), p.3)

  module _ (c : ℕ) (h : c < length ks) (e : end_at ks c ≡ false) (qs : List ℕ) (p : Pending ks c qs) where
    pending-cont : Pending ks (cont ks c) qs
    pending-cont = narrow c (cont ks c) qs (into-cont ks sh c h e) (leaves-cont ks ws sh c h e) p

    pending-async : is_finish (kind_at ks c) ≡ false → Pending ks (suc c) qs
    pending-async f = narrow c (suc c) qs (into-child ks sh c h e) (leaves-async ks ws sh c h e f) p

    -- What is behind all of a finish child is behind its continuation.
    beyond : (i j : ℕ) → Inside (size_at ks) c i → Ahead ks i j → j < length ks → (Inside (size_at ks) c j → ⊥) → Ahead ks (cont ks c) j
    beyond i j a g l b = by qs p
      where
        by : (qs : List ℕ) → Pending ks c qs → Ahead ks (cont ks c) j
        by [] p = absurd (p i j a g l b)
        by (q ∷ qs) p =
            let o = opened ks sh c h e in
            let mid = p.2 (cont ks c) (into-cont ks sh c h e (cont ks c) (self-inside (cont ks c) o.room)) in
            ⊎_elim (λ s. rw s mid) (λ d. ahead_trans ks sh (cont ks c) q j o.room p.0 l mid d) (p.1 i j a g l b)

    pending-finish : is_finish (kind_at ks c) ≡ true → Pending ks (suc c) (cont ks c ∷ qs)
    pending-finish f =
        let o = opened ks sh c h e in (
          o.room,
          λ i j a g l b. elim (dec_lt j (c + size_at ks c)) [
            | yes u ↦ elim (ℕ_discrete j (cont ks c)) [
              | yes s ↦ inl s
              | no n ↦ inr (inl (omega (arith, past-child ks ws sh c h e i j g a b), omega (arith, o.after, o.size)))
            ]
            | no u ↦ inr (beyond i j (into-child ks sh c h e i a) g l (λ v. u v.1))
          ],
          λ i a. inr
              (record { opener = c; within = h; finish = f; first = a; second = self-inside (cont ks c) o.room }),
          pending-cont,
        )

  -- ---- one step of the walk

  -- From step c to step d while some weight is left.
  pub record Goes (c : ℕ) (qs : List ℕ) (d : ℕ) (next : List ℕ) : Type 0 where
    pub ahead : Ahead ks c d
    pub within : d < length ks
    pub waiting : Pending ks d next
    pub rest : remains ks ws c qs ≡ get_or ws c 0 + remains ks ws d next
    -- A chain of the weight left goes on with d or with a higher step.
    pub lowest : (k : ℕ) (r : List ℕ) → Ahead ks c k → Linked ks k r → weigh ws (k ∷ r) ≡ remains ks ws d next → (k ≡ d) ⊎ (d < k)

  -- It is a higher step.
  pub goes_higher : {c : ℕ} {qs : List ℕ} {d : ℕ} {next : List ℕ} → Goes c qs d next → c < d
  goes_higher {c} {qs} {d} g = ahead_higher ks sh c d g.ahead

  goes_end : (c : ℕ) (qs : List ℕ) → c < length ks → end_at ks c ≡ true → get_or ws c 0 < remains ks ws c qs → Pending ks c qs
      → Goes c qs (onward ks ws c qs) (pending ks c qs)
  unfolding onward pending nearest outer remains
  goes_end c [] h e left p = absurd (omega (arith, lasts-end ks ws sh c h e, sum_none))
  goes_end c (q ∷ qs) h e left p =
      let own = self-inside c h in
      rw e
      (record {
        ahead = p.2 c own;
        within = p.0;
        waiting = p.3;
        rest = omega (arith, lasts-end ks ws sh c h e, sum_cons q qs);
        lowest = λ k r g l w. ⊎_elim (λ s. inl s) (λ d. inr (ahead_higher ks sh q k d))
            (p.1 c k own g (linked_within ks ws sh k r l) (λ v. omega (arith, inside_end sh c k h e v, ahead_higher ks sh c k g)));
      })

  module _ (c : ℕ) (qs : List ℕ) (h : c < length ks) (e : end_at ks c ≡ false) (p : Pending ks c qs) where
    -- On to the child: no step is lower.
    goes-child : (next : List ℕ) → Pending ks (suc c) next → remains ks ws c qs ≡ get_or ws c 0 + remains ks ws (suc c) next
        → Goes c qs (suc c) next
    goes-child next waiting rest =
        let o = opened ks sh c h e in
        record {
          ahead = inl (omega arith, omega (arith, o.size, o.left));
          within = child-inside sh c h e;
          waiting = waiting;
          rest = rest;
          lowest = λ k r g l w. elim (ℕ_discrete k (suc c)) [ yes s ↦ inl s | no n ↦ inr (omega (arith, ahead_higher ks sh c k g)) ];
        }

    goes-finish : is_finish (kind_at ks c) ≡ true → Goes c qs (onward ks ws c qs) (pending ks c qs)
    unfolding onward open_next pending remains
    goes-finish f =
        rw (e, f)
        (goes-child (cont ks c ∷ qs) (pending-finish c h e qs p f) (omega (arith, lasts-finish ks ws sh c h f, sum_cons (cont ks c) qs)))

    goes-async : is_finish (kind_at ks c) ≡ false → (b : Bool) → leb (lasts ks ws (cont ks c)) (lasts ks ws (suc c)) ≡ b
        → Goes c qs (onward ks ws c qs) (pending ks c qs)
    unfolding onward open_next pending remains
    goes-async f true t =
        let more = max-eq_left (leb-true (lasts ks ws (cont ks c)) (lasts ks ws (suc c)) t) in
        rw (e, f, t) (goes-child qs (pending-async c h e qs p f) (omega (arith, lasts-async ks ws sh c h e f, more)))
    goes-async f false t =
        let o = opened ks sh c h e in
        let less = leb-false (lasts ks ws (cont ks c)) (lasts ks ws (suc c)) t in
        let up_to : lasts ks ws (suc c) ≤ lasts ks ws (cont ks c) = omega arith in
        let more = max-eq_right up_to in
        -- A chain that goes on in the child weighs too little.
        let child = remains_most (suc c) qs (child-inside sh c h e) (pending-async c h e qs p f) in
        rw (e, f, t)
        (record {
          ahead = inl (omega (arith, o.after), omega (arith, o.after, o.size, o.right));
          within = o.room;
          waiting = pending-cont c h e qs p;
          rest = omega (arith, lasts-async ks ws sh c h e f, more);
          lowest = λ k r g l w. elim (dec_lt (cont ks c) k) [
            | yes s ↦ inr s
            | no n ↦ elim (ℕ_discrete k (cont ks c)) [
              | yes s ↦ inl s
              | no m ↦ absurd (omega (arith, w, child k r (omega (arith, ahead_higher ks sh c k g), omega (arith, o.after)) l))
            ]
          ];
        })

  pub goes : (c : ℕ) (qs : List ℕ) → c < length ks → get_or ws c 0 < remains ks ws c qs → Pending ks c qs
      → Goes c qs (onward ks ws c qs) (pending ks c qs)
  goes c qs h left p = by (end_at ks c) refl
    where
      open_by : end_at ks c ≡ false → (f : Bool) → is_finish (kind_at ks c) ≡ f → Goes c qs (onward ks ws c qs) (pending ks c qs)
      open_by e true f = goes-finish c qs h e p f
      open_by e false f = goes-async c qs h e p f (leb (lasts ks ws (cont ks c)) (lasts ks ws (suc c))) refl

      by : (b : Bool) → end_at ks c ≡ b → Goes c qs (onward ks ws c qs) (pending ks c qs)
      by true e = goes_end c qs h e left p
      by false e = open_by e (is_finish (kind_at ks c)) refl

  -- ---- the walk

  -- The list is a chain from step c on of a weight, and leads every other.
  pub record Best (c left : ℕ) (l : List ℕ) : Type 0 where
    pub rest : List ℕ
    pub starts : l ≡ c ∷ rest
    pub linked : Linked ks c rest
    pub weighs : weigh ws (c ∷ rest) ≡ left
    pub leads : (r : List ℕ) → Linked ks c r → weigh ws (c ∷ r) ≡ left → Leads l (c ∷ r)

  best_one : (c left : ℕ) → c < length ks → left ≡ get_or ws c 0 → Best c left (c ∷ [])
  best_one c left h e =
      record { rest = []; starts = refl; linked = h; weighs = omega (arith, weigh-one ws c); leads = λ r l w. by r }
    where
      by : (r : List ℕ) → Leads (c ∷ []) (c ∷ r)
      by [] = inl refl
      by (d ∷ r) = inr (goes_same c [] (d ∷ r) (goes_start d r))

  best_more : (c : ℕ) (qs : List ℕ) (d : ℕ) (next l : List ℕ) → get_or ws c 0 < remains ks ws c qs → Goes c qs d next
      → Best d (remains ks ws d next) l → Best c (remains ks ws c qs) (c ∷ l)
  best_more c qs d next l left g b =
      record {
        rest = l;
        starts = refl;
        linked = rw b.starts (g.ahead, b.linked);
        weighs = omega (arith, weigh_cons ws c l, ap (weigh ws) b.starts, b.weighs, g.rest);
        leads = leads;
      }
    where
      leads : (r : List ℕ) → Linked ks c r → weigh ws (c ∷ r) ≡ remains ks ws c qs → Leads (c ∷ l) (c ∷ r)
      leads [] k w = absurd (omega (arith, w, weigh-one ws c))
      leads (j ∷ r) k w =
          let tail : weigh ws (j ∷ r) ≡ remains ks ws d next = omega (arith, w, weigh_cons ws c (j ∷ r), g.rest) in
          leads_same c l (j ∷ r)
          (⊎_elim (λ s. rw s (b.leads r (rw s at k.1) (rw s at tail)))
          (λ s. inr (rw b.starts (goes_lower d j b.rest r s)))
          (g.lowest j r k.0 k.1 tail))

  -- The walk a step at a time: it stops where nothing is left beyond the step's own weight, and goes on where something is.
  pub path-last : (m c left : ℕ) (qs : List ℕ) → left ≤ get_or ws c 0 → path ks ws (suc m) c left qs ≡ c ∷ []
  unfolding path
  path-last m c left qs l = rw (le-leb left (get_or ws c 0) l) refl

  pub path-more : (m c : ℕ) (qs : List ℕ) → c < length ks → get_or ws c 0 < remains ks ws c qs → Pending ks c qs
      → path ks ws (suc m) c (remains ks ws c qs) qs
      ≡ c ∷ path ks ws m (onward ks ws c qs) (remains ks ws (onward ks ws c qs) (pending ks c qs)) (pending ks c qs)
  unfolding path
  path-more m c qs h left p =
      let g = goes c qs h left p in
      let e : remains ks ws c qs - get_or ws c 0 ≡ remains ks ws (onward ks ws c qs) (pending ks c qs) = omega (arith, g.rest) in
      rw (lt-leb (remains ks ws c qs) (get_or ws c 0) left, e) refl

  pub best : (m c : ℕ) (qs : List ℕ) → length ks ≤ m + c → c < length ks → Pending ks c qs
      → Best c (remains ks ws c qs) (path ks ws m c (remains ks ws c qs) qs)
  best zero c qs far h p = absurd (omega arith)
  best (suc m) c qs far h p = by (dec_lt (get_or ws c 0) (remains ks ws c qs)) (λ d next l g q. best m d next (omega arith) g q)
    where
      by : Dec (get_or ws c 0 < remains ks ws c qs)
          → ((d : ℕ) (next : List ℕ) → c < d → d < length ks → Pending ks d next
          → Best d (remains ks ws d next) (path ks ws m d (remains ks ws d next) next))
          → Best c (remains ks ws c qs) (path ks ws (suc m) c (remains ks ws c qs) qs)
      by (yes left) on =
          let g = goes c qs h left p in
          let d = onward ks ws c qs in
          let next = pending ks c qs in
          rw (path-more m c qs h left p)
          (best_more c qs d next (path ks ws m d (remains ks ws d next) next) left g
          (on d next (goes_higher g) g.within g.waiting))
      by (no n) on =
          let all : remains ks ws c qs ≤ get_or ws c 0 = omega arith in
          rw (path-last m c (remains ks ws c qs) qs all) (best_one c (remains ks ws c qs) h (omega (arith, remains_own c qs h)))

  -- From the root on: a chain of the weight of the span that leads every other.
  pub record Chosen (l : List ℕ) : Type 0 where
    pub rest : List ℕ
    pub starts : l ≡ 0 ∷ rest
    pub linked : Linked ks 0 rest
    pub weighs : weigh ws l ≡ lasts ks ws 0
    pub leads : (c : ℕ) (r : List ℕ) → Linked ks c r → weigh ws (c ∷ r) ≡ lasts ks ws 0 → Leads l (c ∷ r)

  pub chosen : 0 < length ks → Chosen (walked ks ws)
  unfolding walked
  chosen h =
      let b = rw remains-root at (best (length ks) 0 [] (omega arith) h pending-root) in
      record {
        rest = b.rest;
        starts = b.starts;
        linked = b.linked;
        weighs = ap (weigh ws) b.starts ∙ b.weighs;
        leads = λ c r k w. elim (ℕ_discrete c 0) [
          | yes s ↦ rw s (b.leads r (rw s at k) (rw s at w))
          | no n ↦ inr (rw b.starts (goes_lower 0 c b.rest r (omega arith)))
        ];
      }
