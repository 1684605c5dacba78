-- The scans over the array of places and the climb over openers, turn by turn, in the terms of the code: a turn finds the mark
-- or leaves what is to be found. Then where it stands, and what the stores leave.
use Rattle.std.specs.Prelude.{Some, None}
use Rattle.tree.specs.Steps.{maybe_step}
use Prim.Native.Nat.{ℕ, zero, suc, ◌+◌, ◌-◌, ◌≤◌, ◌<◌}
use Rattle.std.specs.Prelude.{◌≡◌, Bool, true, false, cond, List, length, get_or, set}
use Rattle.std.proofs.Math.Path.{refl, sym}
use Rattle.std.proofs.Common.{◌∙◌}
use Rattle.std.proofs.Math.Option.{Option, none, some, none-ne-some}
use Rattle.std.proofs.Math.Decide.{dec_le, dec_lt}
use native.Mathlib.Omega.{arith}
use Rattle.std.proofs.Math.Numerals.{add-one}
use borrow.Author.Tests.{eq-eqb, ne_eqb}
use Rattle.rules.specs.Bytes.{find}
use Rattle.tree.specs.Laws.Counts.{count_low, count_none}
use Rattle.tree.specs.Laws.Highest.{highest-turn, highest-done, fails_highest, upper_none}
use Rattle.run_spec.specs.Deques.{marked, newest_mark, oldest_mark, popped, robbed}
use Rattle.run_spec.specs.Terms.{Climbs}

-- ---- turns

module _ (place : List ℕ) (w : ℕ) where
  pub oldest-turn : (j end : ℕ) → j < end
      → oldest_mark place w j end ≡ cond (marked place w j) (some j) (oldest_mark place w (suc j) end)
  unfolding oldest_mark find
  oldest-turn j end h = rw (count_low j end h) refl

  pub oldest-done : (j end : ℕ) → end ≤ j → oldest_mark place w j end ≡ none
  unfolding oldest_mark find
  oldest-done j end h = rw (count_none j end h) refl

-- As the loops have it: a scan stands at j, and what is found from there on is what is found in all.
module _ (place : List ℕ) (w low end j : ℕ) where
  pub newest_hit : low < j → newest_mark place w low j ≡ newest_mark place w low end → get_or place (j - 1) 0 ≡ w
      → Some (record { 0 = j - 1 }) ≡ maybe_step (newest_mark place w low end)
  unfolding marked maybe_step
  newest_hit h same e =
      let back : suc (j - 1) ≡ j = omega arith in
      let turn = rw back at (highest-turn (marked place w) low (j - 1) (omega arith)) in
      rw (← same, turn, eq-eqb (get_or place (j - 1) 0) w e) refl

  pub newest_miss : low < j → newest_mark place w low j ≡ newest_mark place w low end → (get_or place (j - 1) 0 ≡ w → ⊥)
      → newest_mark place w low (j - 1) ≡ newest_mark place w low end
  unfolding marked
  newest_miss h same n =
      let back : suc (j - 1) ≡ j = omega arith in
      let turn = rw back at (highest-turn (marked place w) low (j - 1) (omega arith)) in
      sym (turn ∙ rw (ne_eqb (get_or place (j - 1) 0) w n) refl) ∙ same

  pub newest_end : j ≤ low → newest_mark place w low j ≡ newest_mark place w low end
      → None ≡ maybe_step (newest_mark place w low end)
  unfolding maybe_step
  newest_end h same = rw (← same, highest-done (marked place w) low j h) refl

  pub oldest_hit : j < end → oldest_mark place w j end ≡ oldest_mark place w low end → get_or place j 0 ≡ w
      → Some (record { 0 = j }) ≡ maybe_step (oldest_mark place w low end)
  unfolding marked maybe_step
  oldest_hit h same e = rw (← same, oldest-turn place w j end h, eq-eqb (get_or place j 0) w e) refl

  pub oldest_miss : j < end → oldest_mark place w j end ≡ oldest_mark place w low end → (get_or place j 0 ≡ w → ⊥)
      → oldest_mark place w (j + 1) end ≡ oldest_mark place w low end
  unfolding marked
  oldest_miss h same n = rw add-one (sym (oldest-turn place w j end h ∙ rw (ne_eqb (get_or place j 0) w n) refl) ∙ same)

  pub oldest_end : end ≤ j → oldest_mark place w j end ≡ oldest_mark place w low end
      → None ≡ maybe_step (oldest_mark place w low end)
  unfolding maybe_step
  oldest_end h same = rw (← same, oldest-done place w j end h) refl

-- ---- from opener to opener

module _ (place : List ℕ) (w low q : ℕ) where
  -- Where no step between q and j is marked, what is found before j is found up to q.
  newest_skip : (j : ℕ) → q < j → ((k : ℕ) → low ≤ k → q < k → k < j → marked place w k ≡ false)
      → newest_mark place w low (suc q) ≡ newest_mark place w low j
  newest_skip j h clear =
      elim (dec_le low (suc q)) [
        | yes l ↦ upper_none (marked place w) low (suc q) l j h
            (fails_highest (marked place w) (suc q) j (λ k x y. clear k (omega arith) x y))
        | no n ↦ highest-done (marked place w) low (suc q) (omega arith)
            ∙ sym (fails_highest (marked place w) low j (λ k x y. clear k x (omega arith) y))
      ]

module _ (openers place : List ℕ) (w low end : ℕ) (climbs : Climbs openers place w low end) (j : ℕ) (h : low < j) (b : j ≤ end)
    (in_table : end < length openers) where
  -- The opener of a step on the way stands before it, and no step between them is marked: its task would have ended.
  climb_before : get_or openers j 0 < j
  climb_before = (climbs.table j (omega arith) (omega arith)).before

  clear : (k : ℕ) → low ≤ k → get_or openers j 0 < k → k < j → marked place w k ≡ false
  clear k l q m = by (marked place w k) refl
    where
      by : (x : Bool) → marked place w k ≡ x → marked place w k ≡ false
      by true e =
          let past = climbs.nested k l (omega arith) e in
          let ended = (climbs.table j (omega arith) (omega arith)).nearest k q m in
          absurd (omega arith)
      by false e = e

  climb_turn : newest_mark place w low j ≡ newest_mark place w low end
      → newest_mark place w low (suc (get_or openers j 0)) ≡ newest_mark place w low end
  climb_turn same = newest_skip place w low (get_or openers j 0) j climb_before clear ∙ same

  -- In the terms of the loop: the step that it goes on to is below `low`, is marked, or is not.
  module _ (same : newest_mark place w low j ≡ newest_mark place w low end) (q : ℕ) (e : q ≡ get_or openers j 0) where
    turned-to : newest_mark place w low (suc q) ≡ newest_mark place w low end
    turned-to = rw e (climb_turn same)

    pub climb-below : q < low → None ≡ maybe_step (newest_mark place w low end)
    climb-below l = newest_end place w low end (suc q) l turned-to

    pub climb-hit : low ≤ q → get_or place q 0 ≡ w → Some (record { 0 = q }) ≡ maybe_step (newest_mark place w low end)
    climb-hit l m =
        let back : suc q - 1 ≡ q = omega arith in
        rw back at (newest_hit place w low end (suc q) (omega arith) turned-to (rw back m))

    pub climb-miss : low ≤ q → (get_or place q 0 ≡ w → ⊥) → newest_mark place w low q ≡ newest_mark place w low end
    climb-miss l m =
        let back : suc q - 1 ≡ q = omega arith in
        rw back at (newest_miss place w low end (suc q) (omega arith) turned-to (rw back m))

-- It stands before the scan's end.
-- One turn: what is found here, or later.
turned : (b : Bool) (j end q : ℕ) (o : Option ℕ) → cond b (some j) o ≡ some q → j < end → (o ≡ some q → q < end) → q < end
turned true j end q o e h rest =
    let is : j ≡ q = cc in
    omega arith
turned false j end q o e h rest = rest e

module _ (place : List ℕ) (w : ℕ) where
  oldest-by : (m low end q : ℕ) → end ≤ low + m → oldest_mark place w low end ≡ some q → q < end
  oldest-by zero low end q h e = absurd (none-ne-some q (sym (oldest-done place w low end (omega arith)) ∙ e))
  oldest-by (suc m) low end q h e =
      elim (dec_lt low end) [
        | yes l ↦ turned (marked place w low) low end q (oldest_mark place w (suc low) end) (sym (oldest-turn place w low end l) ∙ e) l
            (λ f. oldest-by m (suc low) end q (omega arith) f)
        | no l ↦ absurd (none-ne-some q (sym (oldest-done place w low end (omega arith)) ∙ e))
      ]

  pub oldest_before : (low end q : ℕ) → oldest_mark place w low end ≡ some q → q < end
  oldest_before low end q e = oldest-by end low end q (omega arith) e

-- ---- stores

module _ (place : List ℕ) (w low : ℕ) where
  pub popped-nothing : (i : ℕ) → newest_mark place w low i ≡ none → set place i 16 ≡ popped place w low i
  unfolding popped
  popped-nothing i e = rw (popped, e) refl

  pub popped-at : (i q : ℕ) → newest_mark place w low i ≡ some q → set (set place i 16) q 16 ≡ popped place w low i
  unfolding popped
  popped-at i q e = rw (popped, e) refl

  pub robbed-nothing : (end : ℕ) → oldest_mark place w low end ≡ none → place ≡ robbed place w low end
  unfolding robbed
  robbed-nothing end e = rw (robbed, e) refl

  pub robbed-at : (end q : ℕ) → oldest_mark place w low end ≡ some q → set place q 16 ≡ robbed place w low end
  unfolding robbed
  robbed-at end q e = rw (robbed, e) refl
