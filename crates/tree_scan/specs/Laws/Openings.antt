-- Opening steps by sizes, induction from the root on, and where a step stands in its task.
use Rattle.std.specs.Prelude.{ℕ, zero, suc, ◌+◌, ◌≤◌, ◌<◌, ◌≡◌, true, false, List}
use Rattle.std.proofs.Common.{⊎_elim, eqb-true, ne_eqb}
use Rattle.std.proofs.Math.Decide.{ℕ_discrete, dec_le}
use native.Mathlib.Omega.{arith}
use Rattle.std.proofs.Math.ListN.{length}
use Rattle.rules.specs.Tree.{kind_at, is_end, is_finish, task, cont}
use Rattle.tree_scan.specs.Laws.Shape.{after, Inside, Shape, child-inside, nested}
use Rattle.tree_scan.specs.Laws.Frames.{end_at, size_at, cont-after}
use Rattle.tree_scan.specs.Laws.Places.{Part, part, root-first, task-child, task-cont}

-- A step that opens a finish child is no end.
pub finish_opens : (ks : List ℕ) (p : ℕ) → is_finish (kind_at ks p) ≡ true → end_at ks p ≡ false
unfolding is_finish is_end end_at
finish_opens ks p f = let two = eqb-true (kind_at ks p) 2 f in ne_eqb (kind_at ks p) 3 (omega arith)

-- What is so of an opening step, for `omega`.
pub record Opened (ks : List ℕ) (x : ℕ) : Type 0 where
  pub after : cont ks x ≡ suc x + size_at ks (suc x)
  pub size : size_at ks x ≡ suc (size_at ks (suc x) + size_at ks (cont ks x))
  pub left : 1 ≤ size_at ks (suc x)
  pub right : 1 ≤ size_at ks (cont ks x)
  pub room : cont ks x < length ks

module _ (ks : List ℕ) (sh : Shape (length ks) (end_at ks) (size_at ks)) where
  pub opened : (x : ℕ) → x < length ks → end_at ks x ≡ false → Opened ks x
  unfolding after
  opened x h e =
      let c = cont-after ks x h in
      let a = sh.at x h in
      let room : cont ks x < length ks = omega (arith, a.room e) in
      record {
        after = c;
        size = rw c (a.parts e);
        left = (sh.at (suc x) (child-inside sh x h e)).some;
        right = (sh.at (cont ks x) room).some;
        room = room;
      }

  -- What is inside the child or the continuation is inside the opening step.
  module _ (x : ℕ) (h : x < length ks) (e : end_at ks x ≡ false) where
    pub into-child : (j : ℕ) → Inside (size_at ks) (suc x) j → Inside (size_at ks) x j
    into-child j w = let o = opened x h e in (omega (arith, w), omega (arith, w, o.size))

    pub into-cont : (j : ℕ) → Inside (size_at ks) (cont ks x) j → Inside (size_at ks) x j
    into-cont j w = let o = opened x h e in (omega (arith, w, o.after), omega (arith, w, o.after, o.size))

  -- Induction from the root on: step 0, a child's first step from its opener, a continuation from its opener.
  module _ (P : ℕ → Type 0) (root : P 0) (child : (x : ℕ) → x < length ks → end_at ks x ≡ false → P x → P (suc x))
      (rest : (x : ℕ) → x < length ks → end_at ks x ≡ false → P x → P (cont ks x)) where
    by_part : (j : ℕ) → Part ks j → ((i : ℕ) → i < j → i < length ks → P i) → P j
    by_part j p smaller =
        let o = opened p.of p.within p.opens in
        ⊎_elim (λ s. rw s (child p.of p.within p.opens (smaller p.of (omega arith) p.within)))
        (λ s. rw s (rest p.of p.within p.opens (smaller p.of (omega (arith, o.after)) p.within)))
        p.which

    by-bound : (m j : ℕ) → j < m → j < length ks → P j
    by-bound zero j l h = absurd (omega arith)
    by-bound (suc m) zero l h = root
    by-bound (suc m) (suc j) l h = by_part (suc j) (part ks sh (suc j) (omega arith) h) (λ i s. by-bound m i (omega arith))

    pub root-ind : (j : ℕ) → j < length ks → P j
    root-ind j h = by-bound (suc j) j (omega arith) h

  -- A step does not stand before its task's first, and the task ends where the rest from the step on does.
  Home : ℕ → Type 0
  Home j = (task ks j ≤ j) × (task ks j + size_at ks (task ks j) ≡ j + size_at ks j)

  home_root : Home 0
  unfolding Home
  home_root = rw (root-first ks).0 (omega arith, omega arith)

  home_child : (x : ℕ) → x < length ks → end_at ks x ≡ false → Home x → Home (suc x)
  unfolding Home
  home_child x h e old = rw (task-child ks sh x h e) (omega arith, omega arith)

  home_rest : (x : ℕ) → x < length ks → end_at ks x ≡ false → Home x → Home (cont ks x)
  unfolding Home
  home_rest x h e old =
      let o = opened x h e in
      rw (task-cont ks sh x h e) (omega (arith, o.after), omega (arith, old.1, o.after, o.size))

  pub home : (j : ℕ) → j < length ks → (task ks j ≤ j) × (task ks j + size_at ks (task ks j) ≡ j + size_at ks j)
  unfolding Home
  home = root-ind Home home_root home_child home_rest

  -- Inside a child no step's task is older than the child.
  module _ (x : ℕ) (h : x < length ks) (e : end_at ks x ≡ false) where
    Young : ℕ → Type 0
    Young j = Inside (size_at ks) (suc x) j → suc x ≤ task ks j

    young-root : Young 0
    unfolding Young
    young-root w = absurd (omega arith)

    young-child : (q : ℕ) → q < length ks → end_at ks q ≡ false → Young q → Young (suc q)
    unfolding Young
    young-child q l f old w = rw (task-child ks sh q l f) w.0

    young-rest : (q : ℕ) → q < length ks → end_at ks q ≡ false → Young q → Young (cont ks q)
    unfolding Young
    young-rest q l f old w =
        let o = opened q l f in
        let mine = opened x h e in
        elim (dec_le (suc x) q) [
          | yes s ↦ rw (task-cont ks sh q l f) (old (s, omega (arith, o.after)))
          | no n ↦ elim (ℕ_discrete q x) [
            | yes s ↦ absurd (omega (arith, rw s at w, mine.after))
            | no m ↦ absurd (
                let inner = nested sh (suc q) x (child-inside sh q l f) (omega arith, omega (arith, o.after)) in
                omega (arith, inner, o.after, mine.size, mine.right))
          ]
        ]

    pub young : (j : ℕ) → j < length ks → Inside (size_at ks) (suc x) j → suc x ≤ task ks j
    unfolding Young
    young = root-ind Young young-root young-child young-rest
