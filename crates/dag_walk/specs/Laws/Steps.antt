-- The climb from an end over the tables, turn by turn, and where the chain goes on from a step, case by case.
use Rattle.std.specs.Prelude.{ℕ, suc, pred, ◌+◌, ◌≤◌, ◌<◌, ◌≡◌, Bool, false, cond, List, length, get_or}
use Rattle.std.proofs.Math.Path.{refl}
use Rattle.std.proofs.Common.{sym, ap, ◌∙◌, true≢false, add-one, arith}
use Rattle.std.proofs.Math.Bool.{true}
use Rattle.std.proofs.Math.Option.{none, some, none-ne-some}
use borrow.Author.Tests.{ne_eqb, le-leb, lt-leb}
use Rattle.rules.specs.Tree.{kinds, weights, kind_at, is_end, is_finish, cont, finish_before}
use Rattle.rules_dag.specs.Spans.{lasts}
use Rattle.tree_scan.specs.Laws.Shape.{after, child-inside}
use Rattle.tree_scan.specs.Laws.Frames.{Frame, end_at, size_at, end_size, accepted-frame, cont-after}
use Rattle.tree_scan.specs.Laws.Places.{last_step, finish_cont}
use Rattle.tree_scan.specs.Laws.Openings.{opened}
use Rattle.tree_tables.proofs.Laws.Filling.{cont-at, end_kind, open_kind}
use Rattle.dag_chain.specs.Terms.{open_next, Held, Climbing, AfterFinish, NextStep}
use Rattle.dag_chain.proofs.Laws.Climb.{climb-start, climb_turn, climb_done}
use Rattle.dag_walk.specs.Terms.{Tables, Lasted}

-- ---- the climb

-- What is found where two tests decide: the tests say the same.
tests_same : (x y : Bool) (a b : ℕ) → cond x (some a) none ≡ cond y (some b) none → x ≡ y
tests_same true true a b e = refl
tests_same false false a b e = refl
tests_same true false a b e = absurd (none-ne-some a (sym e))
tests_same false true a b e = absurd (none-ne-some b e)

module _ (tree ends openers : List ℕ) (t : Tables tree ends openers) where
  pub frame : Frame tree
  frame = accepted-frame tree t.accepts

  pub climb_first : (c : ℕ) → c < length (kinds tree) → end_at (kinds tree) c ≡ true → Held (kinds tree) c → Climbing (kinds tree) c (c + 1)
  climb_first c h e held = rw add-one (climb-start (kinds tree) frame.shape c held h e)

  module _ (c x : ℕ) (k : Climbing (kinds tree) c x) where
    -- Each step that follows a child has a step before it.
    climb-some : 0 < x
    climb-some =
        let g = k.follows in
        omega (arith, g.next, (opened (kinds tree) frame.shape g.opener g.within g.opens).after)

    -- The table's opener opens a finish child where the child's opener does.
    finish-same : is_finish (kind_at (kinds tree) (get_or openers x 0)) ≡ is_finish (kind_at (kinds tree) k.follows.opener)
    unfolding end_at after
    finish-same =
        let g = k.follows in
        let o = t.openers_are x climb-some k.room in
        let child = child-inside frame.shape g.opener g.within g.opens in
        let last : is_end (kind_at (kinds tree) (pred x)) ≡ true =
        rw (g.next, cont-after (kinds tree) g.opener g.within) (last_step (kinds tree) frame.shape (suc g.opener) child).0 in
        let found = finish_cont (kinds tree) frame.shape g.opener g.within g.opens in
        tests_same _ _ (suc (get_or openers x 0)) (suc g.opener)
        (sym (rw last at o.finish) ∙ (ap (finish_before (kinds tree)) g.next ∙ found))

    -- No finish child ends there: on to the end of the task.
    pub climb-on : Held (kinds tree) c → (kind_at (kinds tree) (get_or openers x 0) ≡ 2 → ⊥)
        → Climbing (kinds tree) c (get_or ends x 0)
    climb-on held n =
        let next : get_or ends x 0 ≡ x + size_at (kinds tree) x = t.ends_are x k.room ∙ end_size (kinds tree) frame.shape x k.room in
        rw next (climb_turn (kinds tree) frame.shape c held x k (sym finish-same ∙ other n))
      where
        other : (kind_at (kinds tree) (get_or openers x 0) ≡ 2 → ⊥) → is_finish (kind_at (kinds tree) (get_or openers x 0)) ≡ false
        other n = unfold is_finish in ne_eqb (kind_at (kinds tree) (get_or openers x 0)) 2 n

    pub climb-less : x < get_or ends x 0
    climb-less =
        omega (arith, t.ends_are x k.room, end_size (kinds tree) frame.shape x k.room, (frame.shape.at x k.room).some)

    -- One does.
    pub climb-found : kind_at (kinds tree) (get_or openers x 0) ≡ 2 → AfterFinish (kinds tree) c x
    climb-found e = climb_done (kinds tree) frame.shape c x k (sym finish-same ∙ two e)
      where
        two : kind_at (kinds tree) (get_or openers x 0) ≡ 2 → is_finish (kind_at (kinds tree) (get_or openers x 0)) ≡ true
        two e = unfold is_finish in rw e refl

-- ---- where the chain goes on

module _ (ks ws : List ℕ) (c : ℕ) where
  -- From an end.
  pub next_end : kind_at ks c ≡ 3 → (next : ℕ) → AfterFinish ks c next → NextStep ks ws c next
  next_end e next a = record { ends = λ _. a; opens = λ o. absurd (true≢false (sym (end_kind ks c e) ∙ o)) }

  opens-next : (kind_at ks c ≡ 3 → ⊥) → (next : ℕ) → next ≡ open_next ks ws c → NextStep ks ws c next
  opens-next n next is = record { ends = λ e. absurd (true≢false (sym e ∙ open_kind ks c n)); opens = λ _. is }

  -- On to a finish child.
  pub next_finish : (kind_at ks c ≡ 3 → ⊥) → kind_at ks c ≡ 2 → NextStep ks ws c (c + 1)
  unfolding open_next is_finish
  next_finish n e = opens-next n (c + 1) (rw (e, add-one) refl)

  -- On to an async child, which does not last less than the continuation; or to the continuation.
  module _ (n : kind_at ks c ≡ 3 → ⊥) (m : kind_at ks c ≡ 2 → ⊥) where
    pub next-child : lasts ks ws (cont ks c) ≤ lasts ks ws (suc c) → NextStep ks ws c (c + 1)
    unfolding open_next is_finish
    next-child l = opens-next n (c + 1) (rw (ne_eqb (kind_at ks c) 2 m, le-leb _ _ l, add-one) refl)

    pub next-cont : lasts ks ws (suc c) < lasts ks ws (cont ks c) → NextStep ks ws c (cont ks c)
    unfolding open_next is_finish
    next-cont l = opens-next n (cont ks c) (rw (ne_eqb (kind_at ks c) 2 m, lt-leb _ _ l) refl)

-- What the tables have for an opening step.
module _ (tree ends openers : List ℕ) (t : Tables tree ends openers) (c : ℕ) (h : c < length (kinds tree))
    (n : kind_at (kinds tree) c ≡ 3 → ⊥) where
  pub child_room : c + 1 < length (kinds tree)
  child_room = omega (arith, child-inside (frame tree ends openers t).shape c h (open_kind (kinds tree) c n))

  pub cont-is : get_or ends (c + 1) 0 ≡ cont (kinds tree) c
  cont-is = cont-at (kinds tree) ends c (t.ends_are (c + 1) child_room)

  pub cont_room : cont (kinds tree) c < length (kinds tree)
  cont_room = (opened (kinds tree) (frame tree ends openers t).shape c h (open_kind (kinds tree) c n)).room

  -- What both parts last.
  module _ (lasting : List ℕ) (l : Lasted tree lasting) where
    pub child-lasts : get_or lasting (c + 1) 0 ≡ lasts (kinds tree) (weights tree) (suc c)
    child-lasts = (l.all (c + 1) (omega arith) child_room).0 ∙ rw add-one refl

    pub cont-lasts : (x : ℕ) → x ≡ cont (kinds tree) c → get_or lasting x 0 ≡ lasts (kinds tree) (weights tree) (cont (kinds tree) c)
    cont-lasts x e = rw e (l.all (cont (kinds tree) c) (omega arith) cont_room).0
