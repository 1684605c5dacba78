-- The walk back over a task, child by child.
use Prim.Native.Nat.{ℕ, suc, pred, ◌+◌, ◌-◌, ◌≤◌, ◌<◌}
use Rattle.std.specs.Prelude.{◌≡◌, refl, true, false, List, length, get_or, set}
use Rattle.std.proofs.Common.{sym, ap, ◌∙◌, true≢false, ⊎_elim, arith, length-set, get_or-set_other, eqb-true}
use Rattle.std.proofs.Math.Decide.{dec_lt}
use Rattle.rules.specs.Tree.{most_steps, kinds, weights, tree_verdict, kind_at, is_end, is_finish, task, cont}
use Rattle.tree_scan.specs.Laws.Shape.{Shape, child-inside}
use Rattle.tree_scan.specs.Laws.Frames.{Frame, end_at, size_at, accepted-frame}
use Rattle.tree_scan.specs.Laws.Places.{part, root-first, task-child, task-cont, last_step}
use Rattle.tree_scan.specs.Laws.Openings.{opened}
use Rattle.tree_tables.proofs.Laws.Filling.{stored, fill_end, fill-open}
use Rattle.dag_chain.specs.Terms.{joined}
use Rattle.dag_chain.proofs.Laws.Lasting.{lasts-end, lasts-open, lasts-most}
use Rattle.dag_lasting.specs.Terms.{most_weight, longest, Lasts, Lasting, Filled, Tabled, Room}

-- ---- where children end

-- The child from step `first` on ends just before step `at`: its opener stands before it, and goes on at `at`.
pub record Child (ks : List ℕ) (first at : ℕ) : Type 0 where
  pub some : 0 < first
  pub before : first < at
  pub within : first - 1 < length ks
  pub opens : end_at ks (first - 1) ≡ false
  pub next : at ≡ cont ks (first - 1)

module _ (ks : List ℕ) (sh : Shape (length ks) (end_at ks) (size_at ks)) where
  -- Just before a continuation the child ends, and the child's first step follows the opener.
  child_ends : (q at : ℕ) → q < length ks → end_at ks q ≡ false → at ≡ cont ks q
      → (end_at ks (at - 1) ≡ true) × (task ks (at - 1) ≡ suc q)
  child_ends q at h e next =
      let last = last_step ks sh (suc q) (child-inside sh q h e) in
      let same : at - 1 ≡ pred (suc q + size_at ks (suc q)) = omega (arith, (opened ks sh q h e).after) in
      rw same (last.0, last.1 ∙ task-child ks sh q h e)

  child_of_lem : (q first at : ℕ) → q < length ks → end_at ks q ≡ false → first ≡ suc q → at ≡ cont ks q → Child ks first at
  child_of_lem q first at h e f next =
      let o = opened ks sh q h e in
      let back : first - 1 ≡ q = omega arith in
      record {
        some = omega arith;
        before = omega (arith, o.after, o.left);
        within = rw back h;
        opens = rw back e;
        next = rw back next;
      }

  -- Every step but step 0 is a child's first or a continuation, by the kind of the step before it.
  child-found : (first at : ℕ) → 0 < at → at < length ks → end_at ks (at - 1) ≡ true → first ≡ task ks (at - 1) → Child ks first at
  child-found first at z h e f =
      let p = part ks sh at z h in
      let back : at ≡ suc p.of → at - 1 ≡ p.of = λ s. omega arith in
      ⊎_elim
      (λ s. absurd (true≢false (sym (rw (back s) at e) ∙ p.opens)))
      (λ s. child_of_lem p.of first at p.within p.opens (f ∙ (child_ends p.of at p.within p.opens s).1) s)
      p.which

  first_found : (at : ℕ) → 0 < at → at < length ks → end_at ks (at - 1) ≡ false → at ≡ task ks at
  first_found at z h e =
      let p = part ks sh at z h in
      ⊎_elim
      (λ s. rw s (sym (task-child ks sh p.of p.within p.opens)))
      (λ s. absurd (true≢false (sym (child_ends p.of at p.within p.opens s).0 ∙ e)))
      p.which

  -- The last step ends the root.
  pub root_ends : (n : ℕ) → n ≡ length ks → 0 < length ks → (kind_at ks (n - 1) ≡ 3) × (task ks (n - 1) ≡ 0)
  unfolding end_at is_end
  root_ends n e h =
      let last = last_step ks sh 0 h in
      let same : n - 1 ≡ pred (0 + size_at ks 0) = omega (arith, sh.whole) in
      rw same (eqb-true (kind_at ks (pred (0 + size_at ks 0))) 3 last.0, last.1 ∙ (root-first ks).0)

-- ---- what a step lasts

module _ (ks ws : List ℕ) (sh : Shape (length ks) (end_at ks) (size_at ks)) where
  -- An end lasts its weight,
  end_lasts : (i w : ℕ) → i < length ks → end_at ks i ≡ true → w ≡ get_or ws i 0 → w ≤ most_weight → Lasts ks ws i w
  end_lasts i w h e own small =
      let end = lasts-end ks ws sh i h e in
      (own ∙ sym end, omega (arith, end, (sh.at i h).some))

  -- and an opening step what its two parts last, joined;
  open_lasts : (q own x y : ℕ) → q < length ks → end_at ks q ≡ false → own ≡ get_or ws q 0 → own ≤ most_weight
      → Lasts ks ws (suc q) x → Lasts ks ws (cont ks q) y → Lasts ks ws q (joined (is_finish (kind_at ks q)) own x y)
  open_lasts q own x y h e weight small child rest =
      let most = lasts-most ks ws sh q h e in
      (rw (weight, child.0, rest.0) (sym (lasts-open ks ws sh q h e)), omega (arith, (opened ks sh q h e).size))

  -- and that is not long.
  no_longer : (i x : ℕ) → i < length ks → length ks ≤ most_steps → Lasts ks ws i x → x ≤ longest
  no_longer i x h n l = omega (arith, (sh.at i h).fits)

-- ---- the walk

-- How far a step of the tree can be, and that the table has it; another table that is as long will do.
pub reach : {tree table : List ℕ} {i : ℕ} → Room tree table i → (i < most_steps) × (i < length table)
reach {tree} g = (omega (arith, g.step, (accepted-frame tree g.accepts).most), omega (arith, g.step, g.room))

pub same_room : {tree table next : List ℕ} {i : ℕ} → length next ≡ length table → Room tree table i → Room tree next i
same_room size g = record { accepts = g.accepts; step = g.step; room = omega (arith, g.room) }

-- Going back from step `from`, the walk stands at step `at` of the same task, and the table is filled from there on.
pub record Passed (tree old table : List ℕ) (from at : ℕ) : Type 0 where
  pub given : Room tree table from
  pub size : length table ≡ length old
  pub within : at ≤ from
  pub same : task (kinds tree) at ≡ task (kinds tree) from
  pub filled : Filled (kinds tree) (weights tree) old table at from

-- It begins where the table has what the step lasts,
pub passed_start : {tree table : List ℕ} {from : ℕ} → Room tree table from → Lasting (kinds tree) (weights tree) table from (suc from)
    → Passed tree table table from from
passed_start g l =
    record { given = g; size = refl; within = omega arith; same = refl; filled = record { lasting = l; kept = λ j b. refl } }

-- as it does where an end's weight is stored.
pub end_lasting : {tree table : List ℕ} {i w : ℕ} → Room tree table i → end_at (kinds tree) i ≡ true → w ≡ get_or (weights tree) i 0
    → w ≤ most_weight → Lasting (kinds tree) (weights tree) (set table i w) i (suc i)
end_lasting {tree} {table} {i} {w} g e own small j l u =
    let sh = (accepted-frame tree g.accepts).shape in
    let lasts = end_lasts (kinds tree) (weights tree) sh i w g.step e own small in
    stored (Lasts (kinds tree) (weights tree) j) table i w j (reach g).1 (λ s. rw s lasts) (λ n. absurd (n (omega arith)))

-- What stood where the walk began need not be known.
pub filled-stored : {ks ws table : List ℕ} {a b : ℕ} (old : List ℕ) (w : ℕ) → Filled ks ws (set old b w) table a b
    → Filled ks ws old table a b
filled-stored {b = b} old w f =
    record { lasting = f.lasting; kept = λ j l. f.kept j l ∙ get_or-set_other old b j w 0 (λ s. omega arith) }

-- ---- the tree's tables

module _ {ks ends₀ openers₀ ends openers : List ℕ} {j : ℕ} (t : Tabled ks ends₀ openers₀ ends openers j) where
  -- What goes on from filled tables takes them for the old ones,
  pub tabled_again : Tabled ks ends openers ends openers j
  tabled_again =
      record {
        within = t.within;
        room_ends_lem = t.room_ends_lem;
        room_openers_lem = t.room_openers_lem;
        same_ends = refl;
        same_openers = refl;
        ended = t.ended;
        opened = t.opened;
      }

  pub tabled_back : 0 < j → Tabled ks ends openers ends openers (suc (j - 1))
  tabled_back z =
      let same : suc (j - 1) ≡ j = omega arith in
      rw same tabled_again

  -- and leaves them as long as they were before.
  pub tabled_through : {ends₁ openers₁ : List ℕ} {i : ℕ} → Tabled ks ends openers ends₁ openers₁ i
      → Tabled ks ends₀ openers₀ ends₁ openers₁ i
  tabled_through u =
      record {
        within = u.within;
        room_ends_lem = u.room_ends_lem;
        room_openers_lem = u.room_openers_lem;
        same_ends = u.same_ends ∙ t.same_ends;
        same_openers = u.same_openers ∙ t.same_openers;
        ended = u.ended;
        opened = u.opened;
      }

module _ (tree : List ℕ) {ends₀ openers₀ ends openers : List ℕ} (accepts : (tree_verdict tree).number ≡ 0) where
  -- An end's task ends with it,
  pub tabled_end : {j : ℕ} → end_at (kinds tree) j ≡ true → Tabled (kinds tree) ends₀ openers₀ ends openers (suc j)
      → Tabled (kinds tree) ends₀ openers₀ (set ends j (j + 1)) openers j
  tabled_end {j} e t = fill_end (kinds tree) (accepted-frame tree accepts).shape _ _ _ _ j t e

  -- and an opener's where its continuation's does; it opened both its parts.
  pub tabled_open : {first at : ℕ} → Child (kinds tree) first at → Tabled (kinds tree) ends₀ openers₀ ends openers first
      → let opener = first - 1 in
      Tabled (kinds tree) ends₀ openers₀ (set ends opener (get_or ends at 0)) (set (set openers first opener) at opener) opener
  tabled_open {first} {at} c t =
      let sh = (accepted-frame tree accepts).shape in
      let one : suc (first - 1) ≡ first = omega (arith, c.some) in
      let plus : (first - 1) + 1 ≡ first = omega (arith, c.some) in
      let filled = fill-open (kinds tree) sh ends₀ openers₀ ends openers (first - 1) (rw one t) c.opens at c.next in
      rw plus at filled

-- ---- the walk's turns

module _ {tree old table : List ℕ} {from at : ℕ} (p : Passed tree old table from at) where
  abbrev ks : List ℕ
  ks = kinds tree

  abbrev ws : List ℕ
  ws = weights tree

  frame : Frame tree
  frame = accepted-frame tree p.given.accepts

  inside : at < length ks
  inside = omega (arith, p.given.step, p.within)

  -- It ends with the task's first step: with step 0, or where no child ends just before.
  pub passed-root : at ≡ 0 → at ≡ task ks from
  passed-root z = z ∙ (sym (root-first ks).0 ∙ (ap (task ks) (sym z) ∙ p.same))

  pub passed_first : 0 < at → end_at ks (at - 1) ≡ false → at ≡ task ks from
  passed_first z e = first_found ks frame.shape at z inside e ∙ p.same

  -- A turn: a child ends just before, and is filled.
  pub room_back : Room tree table (at - 1)
  room_back = let g = p.given in record { accepts = g.accepts; step = omega (arith, inside); room = g.room }

  pub passed-child : {first : ℕ} → 0 < at → end_at ks (at - 1) ≡ true → first ≡ task ks (at - 1) → Child ks first at
  passed-child z e f = child-found ks frame.shape _ at z inside e f

  module _ {next : List ℕ} {first : ℕ} (c : Child ks first at) (f : Filled ks ws table next first (at - 1)) where
    -- So the table has what the child and the continuation last.
    child-lasts : Lasts ks ws first (get_or next first 0)
    child-lasts = f.lasting first (omega arith) (omega (arith, c.before))

    rest-lasts : Lasts ks ws at (get_or next at 0)
    rest-lasts = rw (f.kept at (omega (arith, c.before))) (p.filled.lasting at (omega arith) (omega (arith, p.within)))

    pub parts-short : (get_or next first 0 ≤ longest) × (get_or next at 0 ≤ longest)
    parts-short =
        let short = no_longer ks ws frame.shape in
        (short first _ (omega (arith, c.before, inside)) frame.most child-lasts, short at _ inside frame.most rest-lasts)

    -- What the opener lasts is stored.
    module _ {own v : ℕ} (size : length next ≡ length table) (weight : own ≡ get_or ws (first - 1) 0) (small : own ≤ most_weight)
        (joins : v ≡ joined (is_finish (kind_at ks (first - 1))) own (get_or next first 0) (get_or next at 0)) where
      opener-lasts : Lasts ks ws (first - 1) v
      opener-lasts =
          let one : suc (first - 1) ≡ first = omega (arith, c.some) in
          rw joins
          (open_lasts ks ws frame.shape (first - 1) own _ _ c.within c.opens weight small (rw one child-lasts)
          (rw (← c.next) rest-lasts))

      later-lasts : (j : ℕ) → first ≤ j → j < suc from → Lasts ks ws j (get_or next j 0)
      later-lasts j l u =
          elim (dec_lt j at) [
            | yes b ↦ f.lasting j l (omega arith)
            | no b ↦ rw (f.kept j (omega (arith, c.before))) (p.filled.lasting j (omega arith) u)
          ]

      pub passed-turn : Passed tree old (set next (first - 1) v) from (first - 1)
      passed-turn =
          let long = length-set next (first - 1) v ∙ size in
          record {
            given = same_room long p.given;
            size = long ∙ p.size;
            within = omega (arith, c.before, p.within);
            same = sym (task-cont ks frame.shape (first - 1) c.within c.opens) ∙ (ap (task ks) (sym c.next) ∙ p.same);
            filled = record {
              lasting = λ j l u. stored (Lasts ks ws j) next (first - 1) v j (omega (arith, c.within, p.given.room))
                  (λ s. rw s opener-lasts) (λ n. later-lasts j (omega arith) u);
              kept = λ j l. get_or-set_other next (first - 1) j v 0 (λ s. omega (arith, c.before, p.within))
                  ∙ (f.kept j (omega (arith, p.within)) ∙ p.filled.kept j l);
            };
          }
