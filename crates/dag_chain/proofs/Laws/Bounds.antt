-- No chain weighs more than the span: chains that begin inside a step weigh at most what it lasts and what chains weigh that begin outside,
-- with a step that something inside precedes. And the span is at most the work, the work at most n times the span.
use Prim.Native.Nat.{ℕ, zero, suc, ◌+◌, ◌*◌, ◌≤◌, ◌<◌, max}
use Rattle.std.specs.Prelude.{◌≡◌, Bool}
use Rattle.std.proofs.Math.Path.{refl}
use Rattle.std.proofs.Common.{sym, ◌∙◌, true≢false}
use Rattle.std.proofs.Math.Bool.{true, false}
use mathlib.Core.List.{List, [], ◌∷◌}
use Rattle.std.proofs.Math.Logic.{⊎_elim}
use Rattle.std.proofs.Math.Decide.{ℕ_discrete, dec_le, dec_lt}
use Rattle.std.proofs.Math.Nat.{le-max_left, le-max_right}
use native.Mathlib.Omega.{arith}
use Rattle.std.proofs.Math.ListN.{length, get_or}
use Rattle.rules.specs.Bytes.{count, sum}
use Rattle.rules.specs.Tree.{kind_at, is_finish, cont}
use Rattle.rules_dag.specs.Spans.{work, span, lasts}
use Rattle.tree_scan.specs.Laws.Shape.{Inside, Shape, child-inside, tree-ind, inside_parts, inside_end, inside-first, nested}
use Rattle.tree_scan.specs.Laws.Frames.{end_at, size_at, cont-after}
use Rattle.tree_scan.specs.Laws.Openings.{opened, finish_opens, into-child, into-cont}
use Rattle.tree_tables.specs.Terms.{weight_before}
use Rattle.tree_tables.proofs.Laws.Filling.{weight-step}
use Rattle.dag_order.specs.Terms.{Ahead, Across}
use Rattle.dag_order.proofs.Laws.Ahead.{ahead_higher, finish_opened}
use Rattle.dag_chain.specs.WorkAndSpan.{weigh}
use Rattle.dag_chain.specs.Terms.{Linked}
use Rattle.dag_chain.proofs.Laws.Lasting.{lasts-end, lasts-async, lasts-finish, lasts-most}
use Rattle.dag_chain.proofs.Laws.Times.{ended_is, ended-most, span-lasts}

-- ---- weights of lists

pub weigh-none : (ws : List ℕ) → weigh ws [] ≡ 0
unfolding weigh sum
weigh-none ws = refl

pub weigh_cons : (ws : List ℕ) (x : ℕ) (r : List ℕ) → weigh ws (x ∷ r) ≡ get_or ws x 0 + weigh ws r
unfolding weigh sum
weigh_cons ws x r = refl

pub weigh-one : (ws : List ℕ) (x : ℕ) → weigh ws (x ∷ []) ≡ get_or ws x 0
weigh-one ws x = omega (arith, weigh_cons ws x [], weigh-none ws)

pub weight-none : (ws : List ℕ) → weight_before ws 0 ≡ 0
unfolding weight_before count sum
weight-none ws = refl

module _ (ks ws : List ℕ) (sh : Shape (length ks) (end_at ks) (size_at ks)) where
  pub linked_within : (x : ℕ) (r : List ℕ) → Linked ks x r → x < length ks
  linked_within x [] l = l
  linked_within x (y ∷ r) l = omega (arith, ahead_higher ks sh x y l.0, linked_within y r l.1)

  -- ---- out of the parts of an opening step

  module _ (x : ℕ) (h : x < length ks) (e : end_at ks x ≡ false) where
    -- What something in the child precedes in the continuation, it precedes across a finish child.
    across-parts : (i j : ℕ) → Inside (size_at ks) (suc x) i → Inside (size_at ks) (cont ks x) j → Ahead ks i j
        → is_finish (kind_at ks x) ≡ true
    across-parts i j a b c =
        let o = opened ks sh x h e in
        ⊎_elim (λ d. absurd (omega (arith, nested sh (suc x) i (child-inside sh x h e) a, o.after))) (λ d. by d) c
      where
        by : Across ks i j → is_finish (kind_at ks x) ≡ true
        by d =
            let o = opened ks sh x h e in
            let p = d.opener in
            let u = finish_opened ks sh p d.within d.finish in
            let first = child-inside sh p d.within (finish_opens ks p d.finish) in
            elim (ℕ_discrete p x) [
              | yes s ↦ rw s at d.finish
              | no n ↦ elim (dec_lt p x) [
                | yes l ↦ absurd
                    (elim (dec_lt x (cont ks p)) [
                      | yes g ↦ (
                          let inner = nested sh (suc p) x first (omega arith, omega (arith, u.after)) in
                          omega (arith, inner, o.size, o.after, u.after, b, d.second))
                      | no g ↦ omega (arith, d.first, u.after, a)
                    ])
                | no m ↦ absurd
                    (elim (dec_lt p (cont ks x)) [
                      | yes g ↦ (
                          let inner = nested sh (suc x) p (child-inside sh x h e) (omega arith, omega (arith, o.after)) in
                          omega (arith, inner, o.after, u.after, u.size, b, d.second))
                      | no g ↦ omega (arith, d.first, o.after, a)
                    ])
              ]
            ]

    -- Out of the continuation is out of the step.
    pub leaves-cont : (i j : ℕ) → Ahead ks i j → Inside (size_at ks) (cont ks x) i → (Inside (size_at ks) (cont ks x) j → ⊥)
        → Inside (size_at ks) x j → ⊥
    leaves-cont i j c a b w =
        let o = opened ks sh x h e in
        b (omega (arith, ahead_higher ks sh i j c, a), omega (arith, w, o.size, o.after))

    -- Out of an async child is out of the step.
    pub leaves-async : is_finish (kind_at ks x) ≡ false → (i j : ℕ) → Ahead ks i j → Inside (size_at ks) (suc x) i
        → (Inside (size_at ks) (suc x) j → ⊥) → Inside (size_at ks) x j → ⊥
    leaves-async f i j c a b v =
        let up = ahead_higher ks sh i j c in
        ⊎_elim (λ s. omega (arith, a))
        (⊎_elim (λ s. b s) (λ s. true≢false (sym (across-parts i j a (rw (cont-after ks x h) s) c) ∙ f)))
        (inside_parts sh x j h e v)

    pub past-child : (i j : ℕ) → Ahead ks i j → Inside (size_at ks) (suc x) i → (Inside (size_at ks) (suc x) j → ⊥) → cont ks x ≤ j
    past-child i j c a b =
        let o = opened ks sh x h e in
        let up = ahead_higher ks sh i j c in
        elim (dec_le (cont ks x) j) [ yes l ↦ l | no n ↦ absurd (b (omega (arith, a), omega (arith, o.after))) ]

  -- ---- no chain weighs more

  -- Chains that begin outside of step x, with a step that something inside precedes, weigh at most k.
  unfoldable pub Outer : ℕ → ℕ → Type 0
  Outer x k =
      (i j : ℕ) (r : List ℕ) → Inside (size_at ks) x i → Ahead ks i j → (Inside (size_at ks) x j → ⊥) → Linked ks j r
      → weigh ws (j ∷ r) ≤ k

  -- Then those that begin inside weigh at most k more than what x lasts.
  Bounded : ℕ → Type 0
  Bounded x = (k : ℕ) → Outer x k → (i : ℕ) (r : List ℕ) → Inside (size_at ks) x i → Linked ks i r → weigh ws (i ∷ r) ≤ lasts ks ws x + k

  bounded_end : (x : ℕ) → x < length ks → end_at ks x ≡ true → Bounded x
  unfolding Bounded Outer
  bounded_end x h e k out i [] w l = rw (inside_end sh x i h e w) (omega (arith, weigh-one ws x, lasts-end ks ws sh x h e))
  bounded_end x h e k out i (j ∷ r) w l =
      let s = inside_end sh x i h e w in
      let up = ahead_higher ks sh i j l.0 in
      let far = out i j r w l.0 (λ v. omega (arith, inside_end sh x j h e v)) l.1 in
      rw s (omega (arith, weigh_cons ws x (j ∷ r), lasts-end ks ws sh x h e, far))

  module _ (x : ℕ) (h : x < length ks) (e : end_at ks x ≡ false) (k : ℕ) (out : Outer x k) where
    outer-cont : Outer (cont ks x) k
    unfolding Outer
    outer-cont i j r a c b l = out i j r (into-cont ks sh x h e i a) c (leaves-cont x h e i j c a b) l

    -- From bounds on chains that begin in either part.
    from_parts : (m : ℕ) → lasts ks ws x + k ≡ get_or ws x 0 + m → k ≤ m
        → ((i : ℕ) (r : List ℕ) → Inside (size_at ks) (suc x) i → Linked ks i r → weigh ws (i ∷ r) ≤ m)
        → ((i : ℕ) (r : List ℕ) → Inside (size_at ks) (cont ks x) i → Linked ks i r → weigh ws (i ∷ r) ≤ m)
        → (i : ℕ) (r : List ℕ) → Inside (size_at ks) x i → Linked ks i r → weigh ws (i ∷ r) ≤ lasts ks ws x + k
    unfolding Outer
    from_parts m q le l r i t w c =
        let z = cont-after ks x h in
        ⊎_elim (λ s. here s t c) (⊎_elim (λ a. omega (arith, l i t a c)) (λ a. omega (arith, r i t (rw z a) c))) (inside_parts sh x i h e w)
      where
        -- What follows x itself is in a part or outside.
        later : (j : ℕ) (t : List ℕ) → Ahead ks x j → Linked ks j t → weigh ws (j ∷ t) ≤ m
        later j t c g =
            let z = cont-after ks x h in
            let some = (sh.at x h).some in
            let up = ahead_higher ks sh x j c in
            elim (dec_lt j (x + size_at ks x)) [
              | yes u ↦ ⊎_elim (λ v. absurd (omega arith)) (⊎_elim (λ a. l j t a g) (λ a. r j t (rw z a) g))
                  (inside_parts sh x j h e (omega arith, u))
              | no u ↦ omega (arith, out x j t (omega arith, omega arith) c (λ v. u v.1) g)
            ]

        here : i ≡ x → (t : List ℕ) → Linked ks i t → weigh ws (i ∷ t) ≤ lasts ks ws x + k
        here s [] c = rw s (omega (arith, weigh-one ws x))
        here s (j ∷ t) c = rw s (omega (arith, weigh_cons ws x (j ∷ t), later j t (rw s at c.0) c.1))

  bounded_open : (x : ℕ) → x < length ks → end_at ks x ≡ false → Bounded (suc x) → Bounded (cont ks x) → Bounded x
  unfolding Bounded Outer
  bounded_open x h e l r k out = by (is_finish (kind_at ks x)) refl
    where
      by : (b : Bool) → is_finish (kind_at ks x) ≡ b → (i : ℕ) (t : List ℕ) → Inside (size_at ks) x i → Linked ks i t
          → weigh ws (i ∷ t) ≤ lasts ks ws x + k
      by true f =
          let o = opened ks sh x h e in
          let rest = r k (outer-cont x h e k out) in
          from_parts x h e k out (lasts ks ws (suc x) + (lasts ks ws (cont ks x) + k)) (omega (arith, lasts-finish ks ws sh x h f))
          (omega arith)
          (l (lasts ks ws (cont ks x) + k)
          (λ i j t a c b g.
          elim (dec_lt j (x + size_at ks x)) [
            | yes u ↦ rest j t (past-child x h e i j c a b, omega (arith, o.size, o.after)) g
            | no u ↦ omega (arith, out i j t (into-child ks sh x h e i a) c (λ v. u v.1) g)
          ]))
          (λ i t a g. omega (arith, rest i t a g))
      by false f =
          let rest = r k (outer-cont x h e k out) in
          let one = le-max_left (lasts ks ws (suc x)) (lasts ks ws (cont ks x)) in
          let two = le-max_right (lasts ks ws (suc x)) (lasts ks ws (cont ks x)) in
          let child = l k (λ i j t a c b g. out i j t (into-child ks sh x h e i a) c (leaves-async x h e f i j c a b) g) in
          from_parts x h e k out (max (lasts ks ws (suc x)) (lasts ks ws (cont ks x)) + k) (omega (arith, lasts-async ks ws sh x h e f))
          (omega arith) (λ i t a g. omega (arith, one, child i t a g)) (λ i t a g. omega (arith, two, rest i t a g))

  pub bounded : (x : ℕ) → x < length ks → (k : ℕ) → Outer x k → (i : ℕ) (r : List ℕ) → Inside (size_at ks) x i → Linked ks i r
      → weigh ws (i ∷ r) ≤ lasts ks ws x + k
  unfolding Bounded
  bounded = tree-ind sh Bounded bounded_end (λ x h e l r. bounded_open x h e l (rw (cont-after ks x h) r))

  -- Nothing is outside of the root.
  pub chain_bound : (i : ℕ) (r : List ℕ) → Linked ks i r → weigh ws (i ∷ r) ≤ lasts ks ws 0
  unfolding Outer
  chain_bound i r l =
      let h = linked_within i r l in
      let none : Outer 0 0 = λ i j t a c b g. absurd (b (inside-first sh j (linked_within j t g))) in
      omega (arith, bounded 0 (omega arith) 0 none i r (inside-first sh i h) l)

  -- ---- span, work and n

  -- What a step lasts is at most what the steps inside weigh.
  Light : ℕ → Type 0
  Light x = lasts ks ws x + weight_before ws x ≤ weight_before ws (x + size_at ks x)

  light_end : (x : ℕ) → x < length ks → end_at ks x ≡ true → Light x
  unfolding Light
  light_end x h e =
      let next : x + size_at ks x ≡ suc x = omega (arith, (sh.at x h).leaf e) in
      rw next (omega (arith, lasts-end ks ws sh x h e, weight-step ws x))

  light_open : (x : ℕ) → x < length ks → end_at ks x ≡ false → Light (suc x) → Light (cont ks x) → Light x
  unfolding Light
  light_open x h e l r =
      let o = opened ks sh x h e in
      let child : suc x + size_at ks (suc x) ≡ cont ks x = omega (arith, o.after) in
      let last : cont ks x + size_at ks (cont ks x) ≡ x + size_at ks x = omega (arith, o.after, o.size) in
      omega (arith, rw child at l, rw last at r, weight-step ws x, lasts-most ks ws sh x h e)

  light : (x : ℕ) → x < length ks → Light x
  light = tree-ind sh Light light_end (λ x h e l r. light_open x h e l (rw (cont-after ks x h) r))

  pub span-weight : 0 < length ks → span ks ws ≤ weight_before ws (length ks)
  unfolding Light
  span-weight h =
      let all : 0 + size_at ks 0 ≡ length ks = omega (arith, sh.whole) in
      omega (arith, span-lasts ks ws sh h, rw all at (light 0 h), weight-none ws)

  pub weight-span : (m : ℕ) → m ≤ length ks → weight_before ws m ≤ m * span ks ws
  weight-span zero h = omega (arith, weight-none ws)
  weight-span (suc m) h =
      let more : suc m * span ks ws ≡ span ks ws + m * span ks ws = omega arith in
      omega (arith, weight-step ws m, weight-span m (omega arith), ended_is ks ws m h, ended-most ks ws sh m)

-- The work is what all steps weigh.
module _ where
  sum_shift : (f : ℕ → ℕ) (m a : ℕ) → sum f (count (suc a) m) ≡ sum (λ i. f (suc i)) (count a m)
  unfolding sum count
  sum_shift f zero a = refl
  sum_shift f (suc m) a = omega (arith, sum_shift f m (suc a))

  pub work-weight : (ws : List ℕ) → work ws ≡ weight_before ws (length ws)
  unfolding work weight_before sum count
  work-weight [] = refl
  work-weight (w ∷ ws) = omega (arith, work-weight ws, sum_shift (λ i. get_or (w ∷ ws) i 0) (length ws) 0)
