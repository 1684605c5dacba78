-- The loops that fill the tables, turn by turn.
use Rattle.std.specs.Prelude.{ℕ, suc, pred, ◌+◌, ◌-◌, ◌*◌, ◌≤◌, ◌<◌, ◌≡◌, refl, false, List, [], ◌∷◌, ◌++◌, length, get_or, set}
use Rattle.std.proofs.Common.{sym, ap, ◌∙◌, true≢false, ⊎_elim, add-one, arith, get_or-set_same, get_or-set_other, ne_eqb}
use Rattle.std.proofs.Math.Bool.{true}
use Rattle.std.proofs.Math.Logic.{inl, inr}
use Rattle.std.proofs.Math.Decide.{ℕ_discrete}
use Rattle.std.proofs.Math.ListN.{length-set}
use Rattle.rules.specs.Bytes.{count, sum}
use Rattle.rules.specs.Tree.{is_end, kind_at, task_end, cont}
use Rattle.tree.specs.Laws.Counts.{count_snoc}
use Rattle.tree_scan.specs.Laws.Shape.{after, Shape, child-inside, after_end, nested}
use Rattle.tree_scan.specs.Laws.Frames.{end_at, size_at, cont-after, end_size}
use Rattle.tree_scan.specs.Laws.Places.{Part, last_step, finish_child_lem, finish_cont, part}
use Rattle.tree_tables.specs.Terms.{Ends, Opener, Openers, weight_before, Sums}

-- What is read after a store: what was stored there, or what stood there.
pub stored : (P : ℕ → Type 0) (l : List ℕ) (j v i : ℕ) → j < length l → (i ≡ j → P v) → ((i ≡ j → ⊥) → P (get_or l i 0))
    → P (get_or (set l j v) i 0)
stored P l j v i h new old =
    elim (ℕ_discrete i j) [
      | yes e ↦ rw (e, get_or-set_same l j v 0 h) (new e)
      | no n ↦ rw (get_or-set_other l j i v 0 n) (old n)
    ]

-- Where a child's task ends, its opener's continuation stands.
pub cont-at : (ks ends : List ℕ) (i : ℕ) → get_or ends (i + 1) 0 ≡ task_end ks (i + 1) → get_or ends (i + 1) 0 ≡ cont ks i
unfolding cont
cont-at ks ends i e = e ∙ rw add-one refl

-- Whether a step is an end, by its kind.
pub end_kind : (ks : List ℕ) (i : ℕ) → kind_at ks i ≡ 3 → end_at ks i ≡ true
unfolding end_at is_end
end_kind ks i e = rw e refl

pub open_kind : (ks : List ℕ) (i : ℕ) → (kind_at ks i ≡ 3 → ⊥) → end_at ks i ≡ false
unfolding end_at is_end
open_kind ks i n = ne_eqb (kind_at ks i) 3 n

-- ---- openers: the child and the continuation of an opening step

module _ (ks : List ℕ) (sh : Shape (length ks) (end_at ks) (size_at ks)) where
  -- An end's task ends with it.
  leaf_end : (i : ℕ) → i < length ks → end_at ks i ≡ true → task_end ks i ≡ i + 1
  leaf_end i h e = omega (arith, end_size ks sh i h, (sh.at i h).leaf e)

  module _ (q : ℕ) (h : q < length ks) (e : end_at ks q ≡ false) where
    -- The continuation is a step, and its task is the opening step's.
    cont-within : cont ks q < length ks
    cont-within = rw (cont-after ks q h) ((sh.at q h).room e)

    cont-end : task_end ks (cont ks q) ≡ task_end ks q
    cont-end =
        let last = end_size ks sh (after (size_at ks) q) ((sh.at q h).room e) in
        rw (cont-after ks q h) (omega (arith, last, end_size ks sh q h, after_end sh q h e))

    -- Between a step and its continuation is its child's task.
    between : (k : ℕ) → q < k → k < cont ks q → task_end ks k ≤ cont ks q
    unfolding after
    between k a b =
        let child = child-inside sh q h e in
        let at = cont-after ks q h in
        omega (arith, end_size ks sh k (omega (arith, cont-within)), nested sh (suc q) k child (a, omega arith))

    opener-child : Opener ks q (suc q)
    unfolding end_at
    opener-child =
        record {
          opens = e;
          which = inl refl;
          before = omega arith;
          nearest = λ k a b. absurd (omega arith);
          finish = rw e (finish_child_lem ks sh q e);
        }

    opener-cont : Opener ks q (cont ks q)
    unfolding end_at after
    opener-cont =
        let last : end_at ks (pred (cont ks q)) ≡ true = rw (cont-after ks q h) (last_step ks sh (suc q) (child-inside sh q h e)).0 in
        record {
          opens = e;
          which = inr refl;
          before = omega (arith, cont-after ks q h);
          nearest = between;
          finish = rw last (finish_cont ks sh q h e);
        }

-- ---- the fill, from the last step to the first

-- The tables have what the steps from j on tell.
pub record Filled (ks ends₀ openers₀ ends openers : List ℕ) (j : ℕ) : Type 0 where
  pub within : j ≤ length ks
  pub room_ends_lem : length ks ≤ length ends
  pub room_openers_lem : length ks ≤ length openers
  pub same_ends : length ends ≡ length ends₀
  pub same_openers : length openers ≡ length openers₀
  pub ended : (i : ℕ) → j ≤ i → i < length ks → get_or ends i 0 ≡ task_end ks i
  pub opened : (i : ℕ) (p : Part ks i) → j ≤ p.of → Opener ks (get_or openers i 0) i

module _ (ks : List ℕ) (sh : Shape (length ks) (end_at ks) (size_at ks)) (ends₀ openers₀ : List ℕ) where
  pub fill_start : length ks ≤ length ends₀ → length ks ≤ length openers₀ → Filled ks ends₀ openers₀ ends₀ openers₀ (length ks)
  fill_start a b =
      record {
        within = omega arith;
        room_ends_lem = a;
        room_openers_lem = b;
        same_ends = refl;
        same_openers = refl;
        ended = λ i l h. absurd (omega arith);
        opened = λ i p l. absurd (omega (arith, p.within));
      }

  module _ (ends openers : List ℕ) where
    -- A turn takes one step back, to j - 1.
    pub fill-turn : (j : ℕ) → Filled ks ends₀ openers₀ ends openers j → 0 < j → Filled ks ends₀ openers₀ ends openers (suc (j - 1))
    fill-turn j f h =
        let same : suc (j - 1) ≡ j = omega arith in
        rw same f

    module _ (j : ℕ) (f : Filled ks ends₀ openers₀ ends openers (suc j)) where
      -- At an end.
      pub fill_end : end_at ks j ≡ true → Filled ks ends₀ openers₀ (set ends j (j + 1)) openers j
      fill_end e =
          record {
            within = omega (arith, f.within);
            room_ends_lem = rw length-set f.room_ends_lem;
            room_openers_lem = f.room_openers_lem;
            same_ends = rw length-set f.same_ends;
            same_openers = f.same_openers;
            ended = λ i l h. stored (λ x. x ≡ task_end ks i) ends j (j + 1) i (omega (arith, f.within, f.room_ends_lem))
                (λ s. rw s (sym (leaf_end ks sh j f.within e))) (λ n. f.ended i (omega arith) h);
            opened = λ i p l. elim (ℕ_discrete p.of j) [
              | yes s ↦ absurd (true≢false (sym e ∙ (ap (end_at ks) (sym s) ∙ p.opens)))
              | no n ↦ f.opened i p (omega arith)
            ];
          }

      -- At an opening step.
      module _ (e : end_at ks j ≡ false) where
        pub fill-after : get_or ends (j + 1) 0 ≡ cont ks j
        fill-after = cont-at ks ends j (f.ended (j + 1) (omega arith) (omega (arith, child-inside sh j f.within e)))

        pub fill-inside : (j + 1 < length ks) × (cont ks j < length ks)
        fill-inside = (omega (arith, child-inside sh j f.within e), cont-within ks sh j f.within e)

        -- Its task ends where its continuation's does.
        open_end : get_or ends (cont ks j) 0 ≡ task_end ks j
        open_end =
            f.ended (cont ks j) (opener-cont ks sh j f.within e).before (cont-within ks sh j f.within e)
            ∙ cont-end ks sh j f.within e

        -- A part of a step from j on that is no part of j.
        later : (i : ℕ) (p : Part ks i) → j ≤ p.of → (i ≡ suc j → ⊥) → (i ≡ cont ks j → ⊥) → suc j ≤ p.of
        later i p l a b =
            elim (ℕ_discrete p.of j) [
              | yes s ↦ absurd (⊎_elim (λ w. a (w ∙ ap suc s)) (λ w. b (w ∙ ap (cont ks) s)) p.which)
              | no n ↦ omega arith
            ]

        opened-now : (i : ℕ) (p : Part ks i) → j ≤ p.of → Opener ks (get_or (set (set openers (suc j) j) (cont ks j) j) i 0) i
        opened-now i p l =
            let P : ℕ → Type 0 = λ x. Opener ks x i in
            let inside = fill-inside in
            let room = f.room_openers_lem in
            stored P (set openers (suc j) j) (cont ks j) j i (rw length-set (omega arith)) (λ w. rw w (opener-cont ks sh j f.within e))
            (λ b. stored P openers (suc j) j i (omega arith) (λ w. rw w (opener-child ks sh j f.within e))
            (λ a. f.opened i p (later i p l a b)))

        pub fill-open : (at : ℕ) → at ≡ cont ks j
            → Filled ks ends₀ openers₀ (set ends j (get_or ends at 0)) (set (set openers (j + 1) j) at j) j
        fill-open at s =
            record {
              within = omega (arith, f.within);
              room_ends_lem = rw length-set f.room_ends_lem;
              room_openers_lem = rw (length-set, length-set) f.room_openers_lem;
              same_ends = rw length-set f.same_ends;
              same_openers = rw (length-set, length-set) f.same_openers;
              ended = λ i l h. stored (λ x. x ≡ task_end ks i) ends j (get_or ends at 0) i (omega (arith, f.within, f.room_ends_lem))
                  (λ w. rw (w, s) open_end) (λ n. f.ended i (omega arith) h);
              opened = λ i p l. rw (s, add-one) (opened-now i p l);
            }

    -- At the first step all are filled.
    module _ (f : Filled ks ends₀ openers₀ ends openers 0) where
      pub filled-ends : Ends ks ends (length ks)
      filled-ends i h = f.ended i (omega arith) h

      pub filled-openers : Openers ks openers (length ks)
      filled-openers i l h = f.opened i (part ks sh i l h) (omega arith)

-- ---- the sums, from the first step to the last

sum_snoc : (f : ℕ → ℕ) (xs : List ℕ) (x : ℕ) → sum f (xs ++ (x ∷ [])) ≡ sum f xs + f x
unfolding sum
sum_snoc f [] x = omega arith
sum_snoc f (y ∷ xs) x = omega (arith, sum_snoc f xs x)

pub weight-step : (ws : List ℕ) (j : ℕ) → weight_before ws (suc j) ≡ weight_before ws j + get_or ws j 0
unfolding weight_before
weight-step ws j =
    let e : 0 + j ≡ j = omega arith in
    rw (count_snoc j 0, sum_snoc (λ i. get_or ws i 0) (count 0 j) (0 + j), e) refl

-- The sums up to step j, of n steps. A weight is below 2^32.
pub record Added (ws : List ℕ) (n : ℕ) (sums₀ sums : List ℕ) (j total : ℕ) : Type 0 where
  pub within : j ≤ n
  pub room : n < length sums
  pub same : length sums ≡ length sums₀
  pub small : total ≤ j * 4294967295
  pub last : total ≡ weight_before ws j
  pub added : Sums ws sums j

module _ (ws : List ℕ) (n : ℕ) (sums₀ : List ℕ) where
  pub add_start : n < length sums₀ → Added ws n (set sums₀ 0 0) (set sums₀ 0 0) 0 0
  unfolding weight_before count sum
  add_start h =
      record {
        within = omega arith;
        room = rw length-set h;
        same = refl;
        small = omega arith;
        last = refl;
        added = λ i l. stored (λ x. x ≡ weight_before ws i) sums₀ 0 0 i (omega arith) (λ e. rw e refl) (λ m. absurd (m (omega arith)));
      }

  module _ (sums : List ℕ) (j total : ℕ) (a : Added ws n sums₀ sums j total) where
    pub add_turn : j < n → (w : ℕ) → w ≡ get_or ws j 0 → w < 4294967296 → Added ws n sums₀ (set sums (j + 1) (total + w)) (j + 1) (total + w)
    add_turn h w e s =
        let step : weight_before ws (suc j) ≡ total + w = omega (arith, weight-step ws j, a.last) in
        record {
          within = omega arith;
          room = rw length-set a.room;
          same = rw length-set a.same;
          small = omega (arith, a.small);
          last = rw add-one (sym step);
          added = λ i l. stored (λ x. x ≡ weight_before ws i) sums (j + 1) (total + w) i (omega (arith, a.room))
              (λ m. rw (m, add-one) (sym step)) (λ m. a.added i (omega arith));
        }

    pub added-all : n ≤ j → Sums ws sums n
    added-all h i l = a.added i (omega arith)
