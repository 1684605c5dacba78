-- A step that waits: what it waits for, and that the worker which has this pending holds a lower step. "A step that follows the end
-- of a finish child may run only when all steps of that child and its descendants have run."
use Prim.Native.Nat.{ℕ, zero, suc, ◌+◌, ◌-◌, ◌≤◌, ◌<◌}
use Rattle.std.specs.Prelude.{◌≡◌, refl, Bool, length}
use Rattle.std.proofs.Common.{sym, ap, ◌∙◌, true≢false, arith}
use Rattle.std.proofs.Math.Bool.{true, false}
use mathlib.Core.List.{List, [], ◌∷◌}
use Rattle.std.proofs.Math.Logic.{⊎_elim}
use Rattle.std.proofs.Math.Decide.{ℕ_discrete, dec_lt, dec_le}
use borrow.Author.Tests.{not-true}
use Rattle.rules.specs.Bytes.{count, all, sum}
use Rattle.rules.specs.Tree.{kind_at, is_finish, is_end, task_end, cont}
use Rattle.rules.specs.Scheduling.{pushes, Entry, has_run, waits}
use Rattle.tree_scan.specs.Laws.Shape.{Shape}
use Rattle.tree_scan.specs.Laws.Frames.{end_at, size_at}
use Rattle.tree_scan.specs.Laws.Places.{part}
use Rattle.run_invariant.specs.Invariant.{Chain}
use Rattle.run_invariant.proofs.Laws.Counts.{some_fails}
use Rattle.run_invariant.proofs.Laws.Weights.{span, span-inside, cont-inside, pushes-inside, nested_end, child_shared}
use Rattle.run_invariant.proofs.Laws.Phase.{finish_pushes, held_within}
use Rattle.run_progress.proofs.Laws.Blocked.{Blocked}
use Rattle.run_invariant.proofs.Laws.Waiting.{finish_opens, waits_finish, first_never_waits, child_never_waits, async_never_waits}

-- ---- what a step waits for

module _ (ks : List ℕ) (sh : Shape (length ks) (end_at ks) (size_at ks)) (log : List Entry) where
  -- A continuation waits only where its child is a finish child, and while not all of that child has run.
  cont-waits_for : (q : ℕ) → q < length ks → is_end (kind_at ks q) ≡ false → waits ks log (cont ks q) ≡ true
      → (b : Bool) → is_finish (kind_at ks q) ≡ b → Blocked ks log (cont ks q)
  unfolding end_at
  cont-waits_for q h opens w true finish =
      let ran = all (has_run log) (count (suc q) (cont ks q - suc q)) in
      let not-all = not-true ran (sym (waits_finish ks sh log q h opens finish) ∙ w) in
      let u = some_fails (has_run log) (cont ks q - suc q) (suc q) not-all in
      record {
        opener = q;
        within = h;
        finish = finish;
        follows = refl;
        unrun = u.0;
        past = u.1;
        before = omega arith;
        not_yet = u.3;
      }
  cont-waits_for q h opens w false async = absurd (true≢false (sym w ∙ async_never_waits ks sh log q h opens async))

  -- Every step but the first is the first of a child, which never waits, or a continuation.
  pub waits_for_lem : (i : ℕ) → i < length ks → waits ks log i ≡ true → Blocked ks log i
  unfolding end_at
  waits_for_lem zero h w = absurd (true≢false (sym w ∙ first_never_waits ks sh log))
  waits_for_lem (suc e) h w =
      let x = part ks sh (suc e) (omega arith) h in
      ⊎_elim (λ child. absurd (true≢false (sym (rw child at w) ∙ child_never_waits ks sh log x.of x.within x.opens)))
      (λ next. rw next (cont-waits_for x.of x.within x.opens (rw next at w) (is_finish (kind_at ks x.of)) refl))
      x.which

-- ---- who has it pending

module _ (p : ℕ) (ks : List ℕ) (sh : Shape (length ks) (end_at ks) (size_at ks)) (log : List Entry) (i : ℕ) (f : Blocked ks log i) where
  -- A finish child's opener is no end.
  opens : is_end (kind_at ks f.opener) ≡ false
  opens = finish_opens (kind_at ks f.opener) f.finish

  -- A pushed part that has the unrun step and not i was pushed from inside the child: the opener pushes i, and a part that was
  -- pushed below the opener and has a step of the child has i too.
  pushed_inside : (r y : ℕ) → r < length ks → is_end (kind_at ks r) ≡ false → y ≡ pushes p ks r
      → 1 ≤ span ks f.unrun y → span ks i y ≡ 0 → (f.opener < r) × (r < i)
  pushed_inside r y h o pushed has none =
      let from = span-inside ks f.unrun y has in
      let after = pushes-inside ks sh p r h o in
      let missed : span ks (cont ks f.opener) y ≡ 0 = rw f.follows at none in
      elim (dec_lt f.opener r) [
        | yes inside ↦ omega arith
        | no n ↦ elim (ℕ_discrete r f.opener) [
          | yes same ↦ absurd (omega (arith, finish_pushes p ks f.opener f.finish, ap (pushes p ks) same))
          | no m ↦ absurd (omega (
            arith,
            child_shared ks sh p f.opener r y f.unrun f.within opens (omega arith) pushed f.past (omega arith) has,
          ))
        ]
      ]

  -- The task of a step inside the child ends with the child or sooner, so before i.
  ends_inside : (r : ℕ) → (f.opener < r) × (r < i) → task_end ks r ≤ i
  unfolding cont
  ends_inside r inside =
      let room = cont-inside ks sh f.opener f.within opens in
      omega (arith, nested_end ks sh (suc f.opener) r (omega arith) inside.0 (omega arith))

  -- So over a deque whose parts have the unrun step and not i, the held step is inside the child: such a part's pusher is, and each
  -- newer pusher, and last the held step, is in the part from the one before.
  held-inside : (deque : List ℕ) (x : ℕ) → Chain p ks x deque → 1 ≤ sum (span ks f.unrun) deque → sum (span ks i) deque ≡ 0
      → (f.opener < x) × (x < i)
  unfolding sum
  held-inside [] x chain has none = absurd (omega arith)
  held-inside (y ∷ r) x chain has none =
      let pusher = chain.0 in
      let inside : (f.opener < pusher) × (pusher < i) = elim (dec_le 1 (span ks f.unrun y)) [
        | yes here ↦ pushed_inside pusher y (held_within p ks sh pusher r chain.5) chain.2 chain.1 here (omega arith)
        | no n ↦ held-inside r pusher chain.5 (omega arith) (omega arith)
      ] in
      omega (arith, chain.3, chain.4, ends_inside pusher inside)

  -- Whoever has the unrun step pending, and i in no part of its deque, holds a step before i: the unrun step or one before it, or
  -- one inside the child.
  pub held_before : (deque : List ℕ) (x : ℕ) → Chain p ks x deque → 1 ≤ span ks f.unrun x + sum (span ks f.unrun) deque
      → sum (span ks i) deque ≡ 0 → x < i
  held_before deque x chain has none =
      elim (dec_le 1 (span ks f.unrun x)) [
        | yes here ↦ omega (arith, span-inside ks f.unrun x here)
        | no n ↦ (held-inside deque x chain (omega arith) none).1
      ]
