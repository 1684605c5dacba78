-- One worker's marks and held step. A run or a steal is one or two stores to the places: what they do to the worker that moves,
-- and that they leave every other.
use Rattle.std.specs.Prelude.{ℕ, suc, ◌+◌, ◌%◌, ◌≤◌, ◌<◌, ◌≡◌, Bool, cond, ◌||◌, get_or, set, eqb}
use Rattle.std.proofs.Math.Path.{refl, sym, ap}
use Rattle.std.proofs.Common.{◌∙◌, true≢false, lt-length-set, get_or-set_same, get_or-set_other}
use Rattle.std.proofs.Math.Bool.{true, false, or-true, or-false}
use mathlib.Core.List.{List, [], ◌∷◌, map, drop_last, head?, cons-ne-nil}
use Rattle.std.proofs.Math.Option.{Option, none, some, none-ne-some}
use Rattle.std.proofs.Math.Decide.{ℕ_discrete, dec_lt}
use native.Mathlib.Omega.{arith}
use Rattle.std.proofs.Math.ListN.{length, length-set}
use borrow.Author.Tests.{eq-eqb, ne_eqb, eqb-true}
use Rattle.rules.specs.Bytes.{any, find}
use Rattle.rules.specs.Tree.{kind_at, is_end, ordinal, task_end, cont}
use Rattle.rules.specs.Scheduling.{work_first, holds, pushes, pop, after_run, Worker, oldest}
use Rattle.tree.specs.Laws.Highest.{highest-is, highest-at, fails_highest}
use Rattle.tree_scan.specs.Laws.Shape.{Shape}
use Rattle.tree_scan.specs.Laws.Frames.{end_at, size_at}
use Rattle.tree_scan.specs.Laws.Places.{ordinal-child, ordinal-cont, ordinal_most}
use Rattle.run_invariant.proofs.Laws.Counts.{has_head, any_one}
use Rattle.run_invariant.proofs.Laws.Phase.{first_holds, first-pushes, oldest-last, after-ended, after_kept}
use Rattle.run_invariant.proofs.Laws.Weights.{end_within, nested_end, holds-inside, pushes-inside}
use Rattle.run_spec.specs.Deques.{marked, newest_mark, oldest_mark, popped, robbed}
use Rattle.run_spec.specs.Ordinals.{children_between, ordinal_from}
use Rattle.run_refinement.specs.Tie.{Line, Hops, Linked, HandShown}
use Rattle.run_refinement.proofs.Laws.Scans.{oldest-found, oldest-nothing}
use Rattle.run_refinement.proofs.Laws.Hops.{hops_more, hops_ordinal, hops_children}

-- ---- the oldest of a list

-- The oldest, where there is one.
abbrev last : List ℕ → Option ℕ
last [] = none
last (x ∷ xs) = some (oldest (x ∷ xs))

oldest-map : (f : ℕ → ℕ) (x : ℕ) (xs : List ℕ) → oldest (map f (x ∷ xs)) ≡ f (oldest (x ∷ xs))
unfolding oldest
oldest-map f x [] = refl
oldest-map f x (y ∷ ys) = oldest-map f y ys

rest_map : (f : ℕ → ℕ) (x : ℕ) (xs : List ℕ) → drop_last (map f (x ∷ xs)) ≡ map f (drop_last (x ∷ xs))
rest_map f x [] = refl
rest_map f x (y ∷ ys) = ap (λ (l : List ℕ). f x ∷ l) (rest_map f y ys)

any_oldest : (j x : ℕ) (xs : List ℕ) → any (eqb j) (x ∷ xs) ≡ any (eqb j) (drop_last (x ∷ xs)) || eqb j (oldest (x ∷ xs))
any_oldest j x xs =
    ap (any (eqb j)) (oldest-last (x ∷ xs) (omega arith)) ∙ any_one (eqb j) (drop_last (x ∷ xs)) (oldest (x ∷ xs))

-- ---- lines

module _ (ks : List ℕ) (low : ℕ) where
  pub line_low : (qs : List ℕ) (x : ℕ) → Line ks low x qs → low ≤ x
  line_low [] x l = l.0
  line_low (q ∷ qs) x l = omega (arith, line_low qs q l.3)

  -- The pushers are below the held step and not below `low`.
  line_past : (qs : List ℕ) (x : ℕ) → Line ks low x qs → (j : ℕ) → x ≤ j → any (eqb j) qs ≡ false
  unfolding any
  line_past [] x l j h = refl
  line_past (q ∷ qs) x l j h = rw (ne_eqb j q (λ e. omega arith)) (line_past qs q l.3 j (omega arith))

  line-under : (qs : List ℕ) (x : ℕ) → Line ks low x qs → (j : ℕ) → j < low → any (eqb j) qs ≡ false
  unfolding any
  line-under [] x l j h = refl
  line-under (q ∷ qs) x l j h =
      rw (ne_eqb j q (λ e. omega (arith, line_low qs q l.3))) (line-under qs q l.3 j h)

module _ (ks : List ℕ) (sh : Shape (length ks) (end_at ks) (size_at ks)) (low : ℕ) where
  pub line_step : (qs : List ℕ) (x : ℕ) → Line ks low x qs → x < length ks
  line_step [] x l = l.1
  line_step (q ∷ qs) x l = omega (arith, end_within ks sh q (line_step qs q l.3))

  -- The held step may be any later one of its task.
  line_inner : (qs : List ℕ) (x y : ℕ) → Line ks low x qs → x ≤ y → y < task_end ks x → Line ks low y qs
  line_inner [] x y l a b = (omega arith, omega (arith, end_within ks sh x l.1))
  line_inner (q ∷ qs) x y l a b =
      (l.0, omega arith, omega (arith, nested_end ks sh q x (line_step qs q l.3) (omega arith) l.2), l.3)

  -- A pusher stands before the held step.
  before : (qs : List ℕ) (x : ℕ) → Line ks low x qs → (j : ℕ) → any (eqb j) qs ≡ true → j < x
  before qs x l j m =
      elim (dec_lt j x) [ yes h ↦ h | no n ↦ absurd (true≢false (sym m ∙ line_past ks low qs x l j (omega arith))) ]

  -- Every pusher's task ends past the held step.
  pub line-nested : (qs : List ℕ) (x : ℕ) → Line ks low x qs → (j : ℕ) → any (eqb j) qs ≡ true → x < task_end ks j
  unfolding any
  line-nested [] x l j m = absurd (true≢false (sym m))
  line-nested (q ∷ qs) x l j m =
      elim (ℕ_discrete j q) [
        | yes e ↦ rw e l.2
        | no n ↦
            let among : any (eqb j) qs ≡ true = rw (ne_eqb j q n) at m in
            let past = line-nested qs q l.3 j among in
            let first = before qs q l.3 j among in
            omega (arith, nested_end ks sh j q (omega (arith, line_step qs q l.3)) (omega arith) past, l.2)
      ]

  -- Without the oldest, `low` may go past it.
  line_rest : (q : ℕ) (qs : List ℕ) (x : ℕ) → Line ks low x (q ∷ qs)
      → (low ≤ oldest (q ∷ qs)) × (oldest (q ∷ qs) < x) × Line ks (suc (oldest (q ∷ qs))) x (drop_last (q ∷ qs))
  unfolding oldest
  line_rest q [] x l = (l.3.0, l.1, (l.1, line_step (q ∷ []) x l))
  line_rest q (r ∷ rs) x l =
      let rest = line_rest r rs q l.3 in
      (rest.0, omega arith, (l.0, l.1, l.2, rest.2))

  -- The oldest opens a task.
  line-opens : (q : ℕ) (qs : List ℕ) (x : ℕ) → Line ks low x (q ∷ qs) → is_end (kind_at ks (oldest (q ∷ qs))) ≡ false
  unfolding oldest
  line-opens q [] x l = l.0
  line-opens q (r ∷ rs) x l = line-opens r rs q l.3

-- ---- links

module _ (ks : List ℕ) (sh : Shape (length ks) (end_at ks) (size_at ks)) (low : ℕ) where
  -- The held step may be one child on.
  linked_cont : (qs : List ℕ) (q : ℕ) → Linked ks low q qs → q < length ks → is_end (kind_at ks q) ≡ false
      → Linked ks low (cont ks q) qs
  linked_cont [] q l h e = (suc l.0, hops_more ks sh l.0 low q l.1 h e)
  linked_cont (r ∷ rs) q l h e = ((suc l.0.0, hops_more ks sh l.0.0 (suc r) q l.0.1 h e), l.1)

  -- The oldest is a step of the task of `low`, and without it `low` may go past it.
  linked_rest : (q : ℕ) (qs : List ℕ) (x : ℕ) → Linked ks low x (q ∷ qs)
      → Linked ks (suc (oldest (q ∷ qs))) x (drop_last (q ∷ qs)) × ((k : ℕ) × Hops ks k low (oldest (q ∷ qs)))
  unfolding oldest
  linked_rest q [] x l = (l.0, l.1)
  linked_rest q (r ∷ rs) x l =
      let rest = linked_rest r rs q l.1 in
      ((l.0, rest.0), rest.1)

  -- From the ordinal of `low` to that of the step that one of its task pushes.
  hops_pushed : (p base k q : ℕ) → p ≡ work_first → length ks ≤ 4095 → low < length ks → base ≡ ordinal ks low → Hops ks k low q
      → q < length ks → is_end (kind_at ks q) ≡ false → ordinal_from p ks base low q ≡ ordinal ks (pushes p ks q)
  unfolding ordinal_from end_at
  hops_pushed p base k q first most l b hops h e =
      let sum : base % 4096 + children_between ks low q + 1 ≡ ordinal ks (cont ks q) =
      omega (
        arith,
        hops_children ks sh k low q hops,
        hops_ordinal ks sh k low q hops,
        ordinal_most ks sh low l,
        ordinal-cont ks sh q h e,
      ) in
      rw (eq-eqb p 1 first, first-pushes p ks q first) sum

-- ---- marks

-- The steps marked with w are these.
abbrev Marks : List ℕ → List ℕ → ℕ → List ℕ → Type 0
Marks ks place w qs = (j : ℕ) → j < length ks → marked place w j ≡ any (eqb j) qs

-- A mark after a store, by whether it is the step stored to.
mark_set : (l : List ℕ) (i v u j : ℕ) (b : Bool) → j < length l → (j ≡ i → eqb v u ≡ b) → ((j ≡ i → ⊥) → marked l u j ≡ b)
    → marked (set l i v) u j ≡ b
unfolding marked
mark_set l i v u j b h here else =
    elim (ℕ_discrete j i) [
      | yes e ↦ rw (← e, get_or-set_same l j v 0 h) (here e)
      | no n ↦ rw (get_or-set_other l i j v 0 n) (else n)
    ]

-- A step has one mark.
one-mark : (l : List ℕ) (w u j : ℕ) → (u ≡ w → ⊥) → marked l w j ≡ true → marked l u j ≡ false
unfolding marked
one-mark l w u j n t = ne_eqb (get_or l j 0) u (λ e. n (sym e ∙ eqb-true (get_or l j 0) w t))

-- What is found is marked.
find_passes : (test : ℕ → Bool) (q : ℕ) (xs : List ℕ) → find test xs ≡ some q → test q ≡ true
unfolding find
find_passes test q [] e = absurd (none-ne-some q e)
find_passes test q (x ∷ xs) e = by (test x) refl e (find_passes test q xs)
  where
    by : (b : Bool) → test x ≡ b → cond b (some x) (find test xs) ≡ some q → (find test xs ≡ some q → test q ≡ true) → test q ≡ true
    by true t f rest =
        let s : x ≡ q = cc in
        rw (← s) t
    by false t f rest = rest f

-- A mark after a pop and after a theft, by whether it is the step run or one marked with w.
module _ (place : List ℕ) (w low : ℕ) where
  pop-mark : (i u j : ℕ) (b : Bool) → j < length place → (j ≡ i → eqb 16 u ≡ b) → (marked place w j ≡ true → eqb 16 u ≡ b)
      → ((j ≡ i → ⊥) → marked place u j ≡ b) → marked (popped place w low i) u j ≡ b
  unfolding popped
  pop-mark i u j b h run taken else = by (newest_mark place w low i) refl
    where
      once : marked (set place i 16) u j ≡ b
      once = mark_set place i 16 u j b h run else

      by : (o : Option ℕ) → newest_mark place w low i ≡ o → marked (popped place w low i) u j ≡ b
      by none f = rw (f, popped) once
      by (some q) f =
          rw (f, popped) (mark_set (set place i 16) q 16 u j b (lt-length-set place i 16 h)
          (λ s. taken (rw s (highest-is (marked place w) low i q f).passes)) (λ n. once))

  rob_mark : (end u j : ℕ) (b : Bool) → j < length place → (marked place w j ≡ true → eqb 16 u ≡ b) → marked place u j ≡ b
      → marked (robbed place w low end) u j ≡ b
  unfolding robbed oldest_mark
  rob_mark end u j b h taken else = by (oldest_mark place w low end) refl
    where
      by : (o : Option ℕ) → oldest_mark place w low end ≡ o → marked (robbed place w low end) u j ≡ b
      by none f = rw (f, robbed) else
      by (some q) f =
          rw (f, robbed) (mark_set place q 16 u j b h (λ s. taken (rw s (find_passes (marked place w) q _ f))) (λ n. else))

-- What is found, where the steps marked with w are the pushers.
module _ (ks : List ℕ) (sh : Shape (length ks) (end_at ks) (size_at ks)) (place : List ℕ) (w low i : ℕ) where
  newest-is : (qs : List ℕ) → Marks ks place w qs → Line ks low i qs → newest_mark place w low i ≡ head? qs
  unfolding any
  newest-is [] marks l = fails_highest (marked place w) low i (λ j x y. marks j (omega arith))
  newest-is (q ∷ qs) marks l =
      let h = line_step ks sh low (q ∷ qs) i l in
      highest-at (marked place w) low i q
      (record {
        from = line_low ks low qs q l.3;
        before = l.1;
        passes = marks q (omega arith) ∙ has_head q qs;
        above = λ j x y. marks j (omega arith) ∙ rw (ne_eqb j q (λ e. omega arith)) (line_past ks low qs q l.3 j (omega arith));
      })

  oldest-is : (qs : List ℕ) → Marks ks place w qs → Line ks low i qs → oldest_mark place w low (length ks) ≡ last qs
  unfolding any
  oldest-is [] marks l = oldest-nothing place w low (length ks) (λ j x y. marks j y)
  oldest-is (q ∷ qs) marks l =
      let h = line_step ks sh low (q ∷ qs) i l in
      let o = oldest (q ∷ qs) in
      let rest = line_rest ks sh low q qs i l in
      oldest-found place w low (length ks) o rest.0 (omega arith)
      (marks o (omega arith) ∙ any_oldest o q qs ∙ rw (eq-eqb o o refl) (or-true (any (eqb o) (drop_last (q ∷ qs)))))
      (λ j x y. marks j (omega arith) ∙ any_oldest j q qs
      ∙ rw (line-under ks (suc o) (drop_last (q ∷ qs)) i rest.2 j (omega arith)) (ne_eqb j o (λ e. omega arith)))

-- ---- hands

no_pushers : (f : ℕ → ℕ) (qs : List ℕ) → map f qs ≡ [] → qs ≡ []
no_pushers f [] e = refl
no_pushers f (q ∷ qs) e = absurd (cons-ne-nil (f q) (map f qs) e)

module _ (p : ℕ) (ks : List ℕ) (sh : Shape (length ks) (end_at ks) (size_at ks)) (most : length ks ≤ 4095)
    (place : List ℕ) (places : length place ≡ 4095) where
  -- The worker that moves. It holds step i, which has not run.
  module _ (w held low base phase : ℕ) (worker : Worker) (few : w < 16)
      (shown : HandShown p ks place w held low base phase worker) (i : ℕ)
      (holding : worker.hand.held ≡ some i) (unrun : get_or place i 0 ≡ 17) where
    shows : (held ≡ i) × Line ks low i shown.pushers
    shows = rw holding at shown.holding

    -- What work-first has besides.
    abbrev NumberedBy : List ℕ → Type 0
    NumberedBy qs = p ≡ work_first → (low < length ks) × (base ≡ ordinal ks low) × Linked ks low i qs

    numbers : NumberedBy shown.pushers
    numbers first = rw holding at (shown.numbered first)

    pub held-is : held ≡ i
    held-is = shows.0

    pub held-step : i < length ks
    held-step = line_step ks sh low shown.pushers i shows.1

    -- What the two scans find.
    newest : newest_mark place w low i ≡ head? shown.pushers
    newest = newest-is ks sh place w low i shown.pushers shown.marks shows.1

    eldest : oldest_mark place w low (length ks) ≡ last shown.pushers
    eldest = oldest-is ks sh place w low i shown.pushers shown.marks shows.1

    empty : worker.hand.deque ≡ [] → shown.pushers ≡ []
    empty d = no_pushers (pushes p ks) shown.pushers (sym shown.deque ∙ d)

    -- The mark of a step that has run is no worker's.
    no-worker : eqb 16 w ≡ false
    no-worker = ne_eqb 16 w (λ e. omega arith)

    -- It runs an opening step.
    pub opened-shown : is_end (kind_at ks i) ≡ false
        → HandShown p ks (set place i w) w (holds p ks i) low base phase
        (record { hand = after_run (λ x. false) p ks i worker.hand.deque; phase = worker.phase })
    unfolding any pop
    opened-shown e =
        rw (← after_kept (λ x. false) p ks i worker.hand.deque e refl) (record {
          pushers = i ∷ shown.pushers;
          deque = ap (λ (l : List ℕ). pushes p ks i ∷ l) shown.deque;
          marks = λ j h. mark_set place i w w j (any (eqb j) (i ∷ shown.pushers)) (omega arith)
              (λ s. rw (eq-eqb w w refl, eq-eqb j i s) refl) (λ n. rw (ne_eqb j i n) (shown.marks j h));
          holding =
              let inside = holds-inside ks sh p i held-step e in
              (refl, (e, inside.0, inside.1, shows.1));
          numbered = λ first.
              let before = numbers first in
              rw (first_holds p ks i first) (before.0, before.1, ((0, refl), before.2));
          latest = shown.latest;
        })

    -- It runs an end: with an empty deque nothing is found, else the newest step's pusher.
    pub ended-nothing : is_end (kind_at ks i) ≡ true → worker.hand.deque ≡ [] → newest_mark place w low i ≡ none
    ended-nothing e d = newest ∙ ap head? (empty d)

    pub ended-newest : is_end (kind_at ks i) ≡ true → (x : ℕ) (xs : List ℕ) → worker.hand.deque ≡ x ∷ xs
        → (q : ℕ) × (newest_mark place w low i ≡ some q) × (x ≡ pushes p ks q) × (q < i)
    ended-newest e x xs d = by shown.pushers (sym d ∙ shown.deque) shows.1 newest
      where
        by : (qs : List ℕ) → x ∷ xs ≡ map (pushes p ks) qs → Line ks low i qs → newest_mark place w low i ≡ head? qs
            → (q : ℕ) × (newest_mark place w low i ≡ some q) × (x ≡ pushes p ks q) × (q < i)
        by [] c l f = absurd (cons-ne-nil x xs c)
        by (q ∷ qs) c l f = (q, f, cc, l.1)

    pub ended-idle-shown : is_end (kind_at ks i) ≡ true → worker.hand.deque ≡ []
        → HandShown p ks (popped place w low i) w 65535 low base phase
        (record { hand = after_run (λ x. false) p ks i worker.hand.deque; phase = worker.phase })
    unfolding pop any
    ended-idle-shown e d =
        rw (← after-ended (λ x. false) p ks i worker.hand.deque e, d) (record {
          pushers = [];
          deque = refl;
          marks = λ j h. pop-mark place w low i w j false (omega arith) (λ s. no-worker) (λ t. no-worker)
              (λ n. shown.marks j h ∙ ap (any (eqb j)) (empty d));
          holding = (refl, refl);
          numbered = λ first. omega arith;
          latest = shown.latest;
        })

    pub ended-shown : is_end (kind_at ks i) ≡ true → (q : ℕ) → newest_mark place w low i ≡ some q
        → HandShown p ks (popped place w low i) w (pushes p ks q) low base phase
        (record { hand = after_run (λ x. false) p ks i worker.hand.deque; phase = worker.phase })
    unfolding pop any popped
    ended-shown e q found = by shown.pushers (sym found ∙ newest) shown.deque shown.marks shows.1 numbers
      where
        by : (qs : List ℕ) → some q ≡ head? qs → worker.hand.deque ≡ map (pushes p ks) qs → Marks ks place w qs → Line ks low i qs
            → NumberedBy qs → HandShown p ks (popped place w low i) w (pushes p ks q) low base phase
            (record { hand = after_run (λ x. false) p ks i worker.hand.deque; phase = worker.phase })
        by [] f d marks l n = absurd (none-ne-some q (sym f))
        by (r ∷ qs) f d marks l before =
            let s : r ≡ q = cc in
            let h = line_step ks sh low qs r l.3 in
            let inside = pushes-inside ks sh p r h l.0 in
            let others = line_past ks low qs r l.3 in
            rw (found, popped, ← after-ended (λ x. false) p ks i worker.hand.deque e, d, ← s) (record {
              pushers = qs;
              deque = refl;
              marks = λ j b. mark_set (set place i 16) r 16 w j (any (eqb j) qs) (lt-length-set place i 16 (omega arith))
                  (λ t. no-worker ∙ sym (others j (omega arith)))
                  (λ n. mark_set place i 16 w j (any (eqb j) qs) (omega arith) (λ t. no-worker ∙ sym (others j (omega arith)))
                  (λ m. marks j b ∙ rw (ne_eqb j r n) refl));
              holding = (refl, line_inner ks sh low qs r (pushes p ks r) l.3 (omega arith) inside.1);
              numbered = λ first.
                  let linked = before first in
                  rw (first-pushes p ks r first) (linked.0, linked.1, linked_cont ks sh low qs r linked.2.1 h l.0);
              latest = shown.latest;
            })

    -- It is stolen from: with an empty deque nothing is found, else the oldest step's pusher, and `low` may go past it.
    pub oldest-none : worker.hand.deque ≡ [] → oldest_mark place w low (length ks) ≡ none
    oldest-none d = eldest ∙ ap last (empty d)

    pub oldest-pusher : (length worker.hand.deque ≡ 0 → ⊥)
        → (q : ℕ) × (oldest_mark place w low (length ks) ≡ some q) × (oldest worker.hand.deque ≡ pushes p ks q) × (q < i)
        × (low ≤ q)
    oldest-pusher d = by shown.pushers shown.deque shows.1 eldest
      where
        by : (qs : List ℕ) → worker.hand.deque ≡ map (pushes p ks) qs → Line ks low i qs
            → oldest_mark place w low (length ks) ≡ last qs
            → (q : ℕ) × (oldest_mark place w low (length ks) ≡ some q) × (oldest worker.hand.deque ≡ pushes p ks q) × (q < i)
            × (low ≤ q)
        by [] c l f = absurd (d (ap length c))
        by (q ∷ qs) c l f =
            let rest = line_rest ks sh low q qs i l in
            (oldest (q ∷ qs), f, ap oldest c ∙ oldest-map (pushes p ks) q qs, rest.1, rest.0)

    -- Counted from `base`, the stolen step's ordinal is the rules'.
    pub oldest-ordinal : p ≡ work_first → (q : ℕ) → oldest_mark place w low (length ks) ≡ some q
        → ordinal_from p ks base low q ≡ ordinal ks (pushes p ks q)
    oldest-ordinal first q found = by shown.pushers (sym found ∙ eldest) shows.1 numbers
      where
        by : (qs : List ℕ) → some q ≡ last qs → Line ks low i qs → NumberedBy qs
            → ordinal_from p ks base low q ≡ ordinal ks (pushes p ks q)
        by [] f l n = absurd (none-ne-some q (sym f))
        by (r ∷ qs) f l before =
            let o = oldest (r ∷ qs) in
            let s : oldest (r ∷ qs) ≡ q = cc in
            let rest = line_rest ks sh low r qs i l in
            let linked = before first in
            let hops = (linked_rest ks sh low r qs i linked.2).1 in
            rw (← s) (hops_pushed ks sh low p base hops.0 o first most linked.0 linked.1 hops.1
            (omega (arith, held-step)) (line-opens ks sh low r qs i l))

    pub robbed-shown : (q : ℕ) → oldest_mark place w low (length ks) ≡ some q
        → HandShown p ks (robbed place w low (length ks)) w held (suc q) 0 phase
        (record { hand = record { held = worker.hand.held; deque = drop_last worker.hand.deque }; phase = worker.phase })
    unfolding robbed end_at
    robbed-shown q found = by shown.pushers (sym found ∙ eldest) shown.deque shown.marks shows.1 numbers
      where
        by : (qs : List ℕ) → some q ≡ last qs → worker.hand.deque ≡ map (pushes p ks) qs → Marks ks place w qs → Line ks low i qs
            → NumberedBy qs → HandShown p ks (robbed place w low (length ks)) w held (suc q) 0 phase
            (record { hand = record { held = worker.hand.held; deque = drop_last worker.hand.deque }; phase = worker.phase })
        by [] f d marks l n = absurd (none-ne-some q (sym f))
        by (r ∷ qs) f d marks l before =
            let o = oldest (r ∷ qs) in
            let s : oldest (r ∷ qs) ≡ q = cc in
            let rest = line_rest ks sh low r qs i l in
            rw (found, robbed, d, ← s) (record {
              pushers = drop_last (r ∷ qs);
              deque = rest_map (pushes p ks) r qs;
              marks = λ j b. mark_set place o 16 w j (any (eqb j) (drop_last (r ∷ qs))) (omega arith)
                  (λ t. no-worker ∙ sym (line-under ks (suc o) (drop_last (r ∷ qs)) i rest.2 j (omega arith)))
                  (λ n. marks j b ∙ any_oldest j r qs ∙ rw (ne_eqb j o n) (or-false (any (eqb j) (drop_last (r ∷ qs)))));
              holding = rw holding (held-is, rest.2);
              numbered = λ first. rw holding (
                omega (arith, held-step),
                sym (ordinal-child ks sh o (omega (arith, held-step)) (line-opens ks sh low r qs i l)),
                (linked_rest ks sh low r qs i (before first).2).0,
              );
              latest = shown.latest;
            })

  -- A worker that holds nothing has no marks: nothing is found to steal. Once it holds a step of the tree it is shown, with
  -- its `low` there.
  pub idle_none_lem : (w held low base phase : ℕ) (worker : Worker) → HandShown p ks place w held low base phase worker
      → worker.hand.held ≡ none → oldest_mark place w low (length ks) ≡ none
  unfolding any
  idle_none_lem w held low base phase worker shown e =
      let idle : (held ≡ 65535) × (shown.pushers ≡ []) = rw e at shown.holding in
      oldest-nothing place w low (length ks) (λ j l u. shown.marks j u ∙ ap (any (eqb j)) idle.1)

  pub thief-shown : (w held low base phase : ℕ) (worker : Worker) → HandShown p ks place w held low base phase worker
      → worker.hand.held ≡ none → (taken k o : ℕ) → taken < length ks → (p ≡ work_first → o ≡ ordinal ks taken)
      → HandShown p ks place w taken taken o k (record { hand = record { held = some taken; deque = [] }; phase = k })
  thief-shown w held low base phase worker shown e taken k o h numbered =
      let idle : (held ≡ 65535) × (shown.pushers ≡ []) = rw e at shown.holding in
      record {
        pushers = [];
        deque = refl;
        marks = λ j b. shown.marks j b ∙ ap (any (eqb j)) idle.1;
        holding = (refl, (omega arith, h));
        numbered = λ first. (h, numbered first, (0, refl));
        latest = refl;
      }

  -- Another worker, or one whose marks a store does not touch: the same marks, the same hand.
  pub other_shown : (after : List ℕ) (w held low base phase : ℕ) (worker : Worker)
      → HandShown p ks place w held low base phase worker
      → ((j : ℕ) → j < length ks → marked after w j ≡ marked place w j) → HandShown p ks after w held low base phase worker
  other_shown after w held low base phase worker shown same =
      record {
        pushers = shown.pushers;
        deque = shown.deque;
        marks = λ j h. same j h ∙ shown.marks j h;
        holding = shown.holding;
        numbered = shown.numbered;
        latest = shown.latest;
      }

  -- What the stores of worker w's moves do to the marks of another worker u, and to the steps that have not run.
  module _ (w low : ℕ) (few : w < 16) where
    -- A step that has not run is no worker's.
    unmarked : (i u j : ℕ) → get_or place i 0 ≡ 17 → u < 16 → j ≡ i → marked place u j ≡ false
    unfolding marked
    unmarked i u j unrun l s = rw (s, unrun) (ne_eqb 17 u (λ e. omega arith))

    pub push-other : (i u : ℕ) → i < length ks → get_or place i 0 ≡ 17 → u < 16 → (u ≡ w → ⊥)
        → (j : ℕ) → j < length ks → marked (set place i w) u j ≡ marked place u j
    push-other i u h unrun l n j b =
        mark_set place i w u j (marked place u j) (omega arith)
        (λ s. ne_eqb w u (λ e. n (sym e)) ∙ sym (unmarked i u j unrun l s)) (λ m. refl)

    pub pop-other : (i u : ℕ) → i < length ks → get_or place i 0 ≡ 17 → u < 16 → (u ≡ w → ⊥)
        → (j : ℕ) → j < length ks → marked (popped place w low i) u j ≡ marked place u j
    pop-other i u h unrun l n j b =
        let no-worker = ne_eqb 16 u (λ e. omega arith) in
        pop-mark place w low i u j (marked place u j) (omega arith) (λ s. no-worker ∙ sym (unmarked i u j unrun l s))
        (λ t. no-worker ∙ sym (one-mark place w u j n t)) (λ m. refl)

    pub rob-other : (u : ℕ) → u < 16 → (u ≡ w → ⊥) → (j : ℕ) → j < length ks
        → marked (robbed place w low (length ks)) u j ≡ marked place u j
    rob-other u l n j b =
        rob_mark place w low (length ks) u j (marked place u j) (omega arith)
        (λ t. ne_eqb 16 u (λ e. omega arith) ∙ sym (one-mark place w u j n t)) refl

    pub push-unrun : (i : ℕ) → i < length ks → (j : ℕ) → j < length ks → (j ≡ i → ⊥)
        → marked (set place i w) 17 j ≡ marked place 17 j
    push-unrun i h j b n = mark_set place i w 17 j (marked place 17 j) (omega arith) (λ s. absurd (n s)) (λ m. refl)

    pub push-run : (i : ℕ) → i < length ks → marked (set place i w) 17 i ≡ false
    push-run i h = mark_set place i w 17 i false (omega arith) (λ s. ne_eqb w 17 (λ e. omega arith)) (λ m. absurd (m refl))

    pub pop-unrun : (i : ℕ) → i < length ks → (j : ℕ) → j < length ks → (j ≡ i → ⊥)
        → marked (popped place w low i) 17 j ≡ marked place 17 j
    pop-unrun i h j b n =
        pop-mark place w low i 17 j (marked place 17 j) (omega arith) (λ s. absurd (n s))
        (λ t. sym (one-mark place w 17 j (λ e. omega arith) t)) (λ m. refl)

    pub pop-run : (i : ℕ) → i < length ks → marked (popped place w low i) 17 i ≡ false
    pop-run i h = pop-mark place w low i 17 i false (omega arith) (λ s. refl) (λ t. refl) (λ m. absurd (m refl))

    pub rob-unrun : (j : ℕ) → j < length ks → marked (robbed place w low (length ks)) 17 j ≡ marked place 17 j
    rob-unrun j b =
        rob_mark place w low (length ks) 17 j (marked place 17 j) (omega arith)
        (λ t. sym (one-mark place w 17 j (λ e. omega arith) t)) refl

    pub popped-length : (i : ℕ) → length (popped place w low i) ≡ 4095
    unfolding popped
    popped-length i = by (newest_mark place w low i) refl
      where
        by : (o : Option ℕ) → newest_mark place w low i ≡ o → length (popped place w low i) ≡ 4095
        by none f = rw (f, popped, length-set) places
        by (some q) f = rw (f, popped, length-set, length-set) places

    pub robbed-length : length (robbed place w low (length ks)) ≡ 4095
    unfolding robbed
    robbed-length = by (oldest_mark place w low (length ks)) refl
      where
        by : (o : Option ℕ) → oldest_mark place w low (length ks) ≡ o → length (robbed place w low (length ks)) ≡ 4095
        by none f = rw (f, robbed) places
        by (some q) f = rw (f, robbed, length-set) places
