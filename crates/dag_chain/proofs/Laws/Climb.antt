-- Where the walk goes on from an end: over the ends of the tasks that it is in, up to the first that is a finish child's. What follows that
-- is the nearest of the pending steps.
use Rattle.std.specs.Prelude.{ℕ, suc, ◌+◌, ◌≤◌, ◌<◌, ◌≡◌, refl, Bool, true, length, get_or}
use Rattle.std.proofs.Common.{sym, ap, ◌∙◌, true≢false, inr, arith}
use Rattle.std.proofs.Math.Bool.{false}
use mathlib.Core.List.{List, [], ◌∷◌}
use Rattle.std.proofs.Math.Logic.{⊎_elim}
use Rattle.std.proofs.Math.Decide.{ℕ_discrete, dec_le, dec_lt}
use Rattle.rules.specs.Bytes.{sum}
use Rattle.rules.specs.Tree.{kind_at, is_finish, cont}
use Rattle.tree_scan.specs.Laws.Shape.{Inside, Shape, child-inside, inside_end, nested}
use Rattle.tree_scan.specs.Laws.Frames.{end_at, size_at}
use Rattle.tree_scan.specs.Laws.Places.{part}
use Rattle.tree_scan.specs.Laws.Openings.{Opened, opened, finish_opens}
use Rattle.dag_order.specs.Terms.{Ahead}
use Rattle.dag_order.proofs.Laws.Ahead.{finish_opened, ahead_higher}
use Rattle.dag_chain.specs.Terms.{nearest, onward, Pending, remains, Follows, Holds, Held, NoneBefore, Climbing}
use Rattle.dag_chain.specs.Terms.{AfterFinish, NextStep}
use Rattle.dag_chain.proofs.Laws.Lasting.{lasts-end}
use Rattle.dag_chain.proofs.Laws.Walk.{self-inside}

module _ (ks : List ℕ) (sh : Shape (length ks) (end_at ks) (size_at ks)) where
  holds_opened : {c p : ℕ} → Holds ks c p → Opened ks p
  holds_opened {c} {p} f = finish_opened ks sh p f.within f.finish

  holds-child : {c p : ℕ} → Holds ks c p → suc p < length ks
  holds-child {c} {p} f = child-inside sh p f.within (finish_opens ks p f.finish)

  -- The end of a step's task, where a step follows it, follows a child that the step is inside.
  follows_end : (x : ℕ) → x < length ks → x + size_at ks x < length ks → Follows ks x (x + size_at ks x)
  follows_end x h l =
      let some = (sh.at x h).some in
      let p = part ks sh (x + size_at ks x) (omega arith) l in
      let q = p.of in
      let o = opened ks sh q p.within p.opens in
      ⊎_elim (λ s. absurd (omega (arith, nested sh x q h (omega arith, omega arith), o.size, o.left)))
      (λ s. record {
        opener = q;
        within = p.within;
        opens = p.opens;
        next = s;
        inside = (
          elim (dec_le (suc q) x) [
            | yes g ↦ g
            | no n ↦ absurd
                (omega (arith, nested sh x q h (omega arith, omega (arith, o.after)), o.size, o.after, o.right))
          ],
          omega (arith, o.after),
        );
      })
      p.which

  -- ---- at the end, and on from a child that is no finish child

  -- No finish child that has step c ends before c's task does.
  none_first : (c : ℕ) → c < length ks → NoneBefore ks c (c + size_at ks c)
  none_first c h p f = omega (arith, nested sh (suc p) c (holds-child f) f.inside, (holds_opened f).after)

  -- A finish child that has step c ends within the tree, and what follows it does.
  held_room : (c x : ℕ) → Held ks c → NoneBefore ks c x → x < length ks
  held_room c x held none = omega (arith, none held.0 held.1, (holds_opened held.1).room)

  follows_on : (c x : ℕ) → x < length ks → x + size_at ks x < length ks → Follows ks c x → Follows ks c (x + size_at ks x)
  follows_on c x h l f =
      let u = follows_end x h l in
      let q = f.opener in
      let r = u.opener in
      let o = opened ks sh q f.within f.opens in
      let v = opened ks sh r u.within u.opens in
      let some = (sh.at x h).some in
      record {
        opener = r;
        within = u.within;
        opens = u.opens;
        next = u.next;
        inside = (
          elim (dec_lt r q) [
            | yes g ↦ omega (arith, f.inside)
            | no n ↦ elim (ℕ_discrete q r) [
              | yes s ↦ absurd (omega (arith, f.next, u.next, ap (cont ks) s))
              | no m ↦ absurd (
                  let first = child-inside sh q f.within f.opens in
                  let inner = nested sh (suc q) r first (omega arith, omega (arith, f.next, u.inside, o.after)) in
                  omega (arith, inner, o.after, v.size, v.after, f.next, u.inside, v.right))
            ]
          ],
          omega (arith, f.inside, f.next, o.after, u.inside),
        );
      }

  none_on : (c x : ℕ) → x < length ks → NoneBefore ks c x → (g : Follows ks c x) → is_finish (kind_at ks g.opener) ≡ false
      → NoneBefore ks c (x + size_at ks x)
  none_on c x h none g a p f =
      let r = g.opener in
      let o = holds_opened f in
      let u = opened ks sh r g.within g.opens in
      let low = none p f in
      elim (dec_lt x (cont ks p)) [
        | yes s ↦ (
            let from : suc p ≤ x = omega (arith, f.inside, g.next, u.after, g.inside) in
            let inner = nested sh (suc p) x (holds-child f) (from, omega (arith, o.after)) in
            omega (arith, inner, o.after))
        | no n ↦ elim (ℕ_discrete p r) [
          | yes s ↦ absurd (true≢false (sym f.finish ∙ rw (← s) at a))
          | no m ↦ elim (dec_lt p r) [
            | yes s ↦ absurd (
                let inner = nested sh (suc p) r (holds-child f) (s, omega (arith, g.inside, f.inside)) in
                omega (arith, inner, o.after, u.size, u.after, u.right, g.next, low))
            | no s ↦ absurd (
                let first = child-inside sh r g.within g.opens in
                let inner = nested sh (suc r) p first (omega arith, omega (arith, f.inside, g.inside)) in
                omega (arith, inner, u.after, o.size, o.after, o.right, g.next, low, n))
          ]
        ]
      ]

  -- ---- the climb, turn by turn

  module _ (c : ℕ) (held : Held ks c) where
    pub climb-start : c < length ks → end_at ks c ≡ true → Climbing ks c (suc c)
    climb-start h e =
        let next : c + size_at ks c ≡ suc c = omega (arith, (sh.at c h).leaf e) in
        let none = none_first c h in
        let room = held_room c (c + size_at ks c) held none in
        rw (← next) (record { room = room; follows = follows_end c h room; none = none })

    pub climb_turn : (x : ℕ) → (k : Climbing ks c x) → is_finish (kind_at ks k.follows.opener) ≡ false → Climbing ks c (x + size_at ks x)
    climb_turn x k f =
        let none = none_on c x k.room k.none k.follows f in
        let room = held_room c (x + size_at ks x) held none in
        record { room = room; follows = follows_on c x k.room room k.follows; none = none }

  pub climb_done : (c x : ℕ) → (k : Climbing ks c x) → is_finish (kind_at ks k.follows.opener) ≡ true → AfterFinish ks c x
  climb_done c x k f = record { follows = k.follows; finish = f; none = k.none }

  -- ---- the nearest of the pending steps

  after-nearest : (c x q : ℕ) (qs : List ℕ) → c < length ks → end_at ks c ≡ true → AfterFinish ks c x → Pending ks c (q ∷ qs) → x ≡ q
  after-nearest c x q qs h e a p =
      let g = a.follows in
      let o = opened ks sh g.opener g.within g.opens in
      let own : Inside (size_at ks) c c = (omega arith, omega (arith, (sh.at c h).some)) in
      let hx : x < length ks = omega (arith, g.next, o.room) in
      let second : Inside (size_at ks) (cont ks g.opener) x = (omega (arith, g.next), omega (arith, g.next, o.right)) in
      let reach : Ahead ks c x =
      inr (record { opener = g.opener; within = g.within; finish = a.finish; first = g.inside; second = second }) in
      let up = ahead_higher ks sh c x reach in
      let low : x ≤ q =
      ⊎_elim (λ b. absurd (omega (arith, b, (sh.at c h).leaf e)))
      (λ b. omega (arith, a.none b.opener (record { within = b.within; finish = b.finish; inside = b.first }), b.second))
      (p.2 c own) in
      ⊎_elim (λ s. s) (λ d. absurd (omega (arith, ahead_higher ks sh q x d)))
      (p.1 c x own reach hx (λ w. omega (arith, inside_end sh c x h e w)))

  module _ (ws : List ℕ) (c : ℕ) (h : c < length ks) where
    -- Where weight is left at an end, a finish child has it.
    pub left-held : (qs : List ℕ) → end_at ks c ≡ true → get_or ws c 0 < remains ks ws c qs → Pending ks c qs → Held ks c
    unfolding remains sum
    left-held [] e left p = absurd (omega (arith, lasts-end ks ws sh c h e))
    left-held (q ∷ qs) e left p =
        ⊎_elim (λ b. absurd (omega (arith, b, (sh.at c h).leaf e)))
        (λ b. (b.opener, record { within = b.within; finish = b.finish; inside = b.first }))
        (p.2 c (self-inside ks ws sh c h))

    pub next-onward : (qs : List ℕ) (next : ℕ) → get_or ws c 0 < remains ks ws c qs → Pending ks c qs → NextStep ks ws c next
        → next ≡ onward ks ws c qs
    next-onward qs next left p n = by (end_at ks c) refl
      where
        at-end : (qs : List ℕ) → end_at ks c ≡ true → get_or ws c 0 < remains ks ws c qs → Pending ks c qs → next ≡ nearest qs
        at-end [] e left p = absurd (none left)
          where
            none : get_or ws c 0 < remains ks ws c [] → ⊥
            none l = unfold remains in unfold sum in omega (arith, lasts-end ks ws sh c h e)
        at-end (q ∷ qs) e left p = unfold nearest in after-nearest c next q qs h e (n.ends e) p

        by : (b : Bool) → end_at ks c ≡ b → next ≡ onward ks ws c qs
        by true e = unfold onward in rw e (at-end qs e left p)
        by false e = unfold onward in rw e (n.opens e)
