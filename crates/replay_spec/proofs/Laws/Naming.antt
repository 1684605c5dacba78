-- The step that a number names, as `replay_steal::number` finds it: the walk over children turn by turn, and the number under
-- each policy. A step that is named is a step of the tree.
use Rattle.std.specs.Prelude.{Some, None}
use Rattle.tree.specs.Steps.{MaybeStep, maybe_step}
use Prim.Native.Nat.{ℕ, zero, suc, ◌-◌, ◌≤◌, ◌<◌}
use Rattle.std.proofs.Math.Path.{◌≡◌, refl, ap}
use Rattle.std.specs.Prelude.{Bool, cond, ◌&&◌, ◌||◌, not, List, leb}
use Rattle.std.proofs.Math.Bool.{true, false, and-false, or-true}
use Rattle.std.proofs.Math.Option.{Option, none, some}
use native.Mathlib.Omega.{arith}
use Rattle.std.proofs.Math.ListN.{length}
use Rattle.std.proofs.Math.Dec.{eqb, ltb}
use borrow.Author.Tests.{lt-ltb, le-ltb, ltb-true, le-leb, lt-leb, eq-eqb, ne_eqb, not-true, not-false, eqb-true}
use Rattle.rules.specs.Tree.{kind_at, is_async, is_end, cont, finish_before}
use Rattle.rules.specs.Scheduling.{work_first}
use Rattle.rules.specs.Traces.{starts_async, follows_finish}
use Rattle.tree.specs.declared.Step.{Step}
use Rattle.tree.specs.declared.Ordinal.{Ordinal}
use Rattle.trace.specs.declared.number.TraceNumber.{TraceNumber}
use Rattle.trace.specs.declared.number.TraceNumber.TheVariants.{ByOrdinal, BySerial}
use Rattle.trace.specs.Contract.{number_by}
use Rattle.tree_scan.specs.Laws.Shape.{Shape}
use Rattle.tree_scan.specs.Laws.Frames.{end_at, size_at}
use Rattle.run_invariant.proofs.Laws.Counts.{and_both}
use Rattle.run_invariant.proofs.Laws.Weights.{cont-inside}
use Rattle.replay_invariant.specs.Terms.{hopped}
use Rattle.replay_spec.specs.Naming.{step_named, named}

-- ---- the walk over children

-- The loop stands at step i, with `left` children to go.
module _ (ks : List ℕ) (children from i left : ℕ) (same : hopped ks left i ≡ hopped ks children from) where
  -- A turn, as the walk has it.
  hop-turn : 0 < left → hopped ks left i ≡ cond (is_end (kind_at ks i)) none (hopped ks (left - 1) (cont ks i))
  unfolding hopped
  hop-turn h =
      let more : left ≡ suc (left - 1) = omega arith in
      ap (λ (m : ℕ). hopped ks m i) more

  pub hop_end : 0 < left → kind_at ks i ≡ 3 → None ≡ maybe_step (hopped ks children from)
  unfolding maybe_step is_end
  hop_end h e = rw (← same, hop-turn h, eq-eqb (kind_at ks i) 3 e)

  pub hop_on : 0 < left → (kind_at ks i ≡ 3 → ⊥) → (next : ℕ) → next ≡ cont ks i
      → hopped ks (left - 1) next ≡ hopped ks children from
  unfolding is_end
  hop_on h n next e = rw (← same, hop-turn h, ne_eqb (kind_at ks i) 3 n, e)

  pub hop-done : left ≤ 0 → Some (record { 0 = i }) ≡ maybe_step (hopped ks children from)
  unfolding maybe_step hopped
  hop-done h =
      let none_left : left ≡ 0 = omega arith in
      let here : hopped ks left i ≡ some i = rw none_left in
      rw (← same, here)

-- ---- steps that can have been pushed help-first

module _ (ks : List ℕ) (s : ℕ) where
  pub pushable-first : s ≡ 0 → false ≡ starts_async ks s || follows_finish ks s
  unfolding starts_async follows_finish finish_before
  pushable-first z = rw z

  starts_at : 0 < s → starts_async ks s ≡ is_async (kind_at ks (s - 1))
  unfolding starts_async
  starts_at h =
      let back : s ≡ suc (s - 1) = omega arith in
      ap (λ (x : ℕ). starts_async ks x) back

  pub pushable_async : 0 < s → kind_at ks (s - 1) ≡ 1 → true ≡ starts_async ks s || follows_finish ks s
  unfolding is_async
  pushable_async h e = rw (starts_at h, eq-eqb (kind_at ks (s - 1)) 1 e)

  pub pushable_finish : (first : Step) → maybe_step (finish_before ks s) ≡ Some first → true ≡ starts_async ks s || follows_finish ks s
  unfolding maybe_step follows_finish
  pushable_finish first e = by (finish_before ks s) refl e
    where
      by : (o : Option ℕ) → finish_before ks s ≡ o → maybe_step o ≡ Some first → true ≡ starts_async ks s || follows_finish ks s
      by none f c = let z : ◌≡◌ {A = ℕ} 0 1 = cc in absurd (omega arith)
      by (some x) f c = rw (follows_finish, f, or-true)

  pub pushable-none : 0 < s → (kind_at ks (s - 1) ≡ 1 → ⊥) → maybe_step (finish_before ks s) ≡ None
      → false ≡ starts_async ks s || follows_finish ks s
  unfolding maybe_step follows_finish is_async
  pushable-none h n e = by (finish_before ks s) refl e
    where
      by : (o : Option ℕ) → finish_before ks s ≡ o → maybe_step o ≡ None → false ≡ starts_async ks s || follows_finish ks s
      by none f c = rw (follows_finish, f, starts_at h, ne_eqb (kind_at ks (s - 1)) 1 n)
      by (some x) f c = let z : ◌≡◌ {A = ℕ} 0 1 = cc in absurd (omega arith)

-- ---- the step that a number names

module _ (ks : List ℕ) (base at : ℕ) where
  pub name_own : (o : Ordinal) → o.0 ≤ at → None ≡ maybe_step (step_named ks base at (ByOrdinal o))
  unfolding maybe_step step_named
  name_own o l = rw (le-leb o.0 at l)

  pub name_hopped : (o : Ordinal) → at < o.0 → (r : MaybeStep) → r ≡ maybe_step (hopped ks (o.0 - at) base)
      → r ≡ maybe_step (step_named ks base at (ByOrdinal o))
  unfolding step_named
  name_hopped o l r e = rw (lt-leb o.0 at l) e

  pub name_past : (s : Step) → length ks ≤ s.0 → None ≡ maybe_step (step_named ks base at (BySerial s))
  unfolding maybe_step step_named
  name_past s l = rw (le-ltb s.0 (length ks) l)

  module _ (s : Step) (b : Bool) (pushable : b ≡ starts_async ks s.0 || follows_finish ks s.0) where
    pub name-other : not b ≡ true → None ≡ maybe_step (step_named ks base at (BySerial s))
    unfolding maybe_step step_named
    name-other n = rw (← pushable, not-true b n, and-false (ltb s.0 (length ks)))

    pub name-itself : s.0 < length ks → not b ≡ false → Some s ≡ maybe_step (step_named ks base at (BySerial s))
    unfolding maybe_step step_named
    name-itself l n = rw (lt-ltb s.0 (length ks) l, ← pushable, not-false b n)

-- ---- where it stands

pub only-some : (b : Bool) (x s : ℕ) → cond b (some x) none ≡ some s → (b ≡ true) × (x ≡ s)
only-some true x s e = (refl, cc)
only-some false x s e = let z : ◌≡◌ {A = ℕ} 0 1 = cc in absurd (omega arith)

not_none : (b : Bool) (o : Option ℕ) (s : ℕ) → cond b none o ≡ some s → o ≡ some s
not_none true o s e = let z : ◌≡◌ {A = ℕ} 0 1 = cc in absurd (omega arith)
not_none false o s e = e

module _ (ks : List ℕ) (sh : Shape (length ks) (end_at ks) (size_at ks)) where
  -- Over the next child, where the rest of the walk stays in the tree.
  hopped_on : (m x s : ℕ) → x < length ks → ((y : ℕ) → y < length ks → hopped ks m y ≡ some s → s < length ks)
      → (b : Bool) → is_end (kind_at ks x) ≡ b → hopped ks (suc m) x ≡ some s → s < length ks
  unfolding hopped
  hopped_on m x s h rest true f e =
      let found : ◌≡◌ {A = Option ℕ} none (some s) = rw f at e in
      let z : ◌≡◌ {A = ℕ} 0 1 = cc in
      absurd (omega arith)
  hopped_on m x s h rest false f e = rest (cont ks x) (cont-inside ks sh x h f).1 (rw f at e)

  hopped_within : (m x s : ℕ) → x < length ks → hopped ks m x ≡ some s → s < length ks
  unfolding hopped
  hopped_within zero x s h e =
      let same : x ≡ s = cc in
      omega arith
  hopped_within (suc m) x s h e = hopped_on m x s h (λ y. hopped_within m y s) (is_end (kind_at ks x)) refl e

  -- A step that is named is a step of the tree; a serial number asks nothing of the base.
  module _ (base at s : ℕ) where
    ordinal-within : (o : Ordinal) → base < length ks → step_named ks base at (ByOrdinal o) ≡ some s → s < length ks
    unfolding step_named
    ordinal-within o h e = hopped_within (o.0 - at) base s h (not_none (leb o.0 at) (hopped ks (o.0 - at) base) s e)

    serial-within : (x : Step) → step_named ks base at (BySerial x) ≡ some s → s < length ks
    unfolding step_named
    serial-within x e =
        let below = ltb x.0 (length ks) in
        let pushable = starts_async ks x.0 || follows_finish ks x.0 in
        let f = only-some (below && pushable) x.0 s e in
        omega (arith, f.1, ltb-true x.0 (length ks) (and_both below pushable f.0).0)

    pub step_within : (number : TraceNumber) → base < length ks → step_named ks base at number ≡ some s → s < length ks
    step_within (ByOrdinal o) h e = ordinal-within o h e
    step_within (BySerial x) h e = serial-within x e

    pub named-within : (p number : ℕ) → (p ≡ work_first → base < length ks) → named p ks base at number ≡ some s → s < length ks
    unfolding named number_by
    named-within p number h e = by (eqb p work_first) refl e
      where
        by : (b : Bool) → eqb p work_first ≡ b
            → step_named ks base at (cond b (ByOrdinal (record { 0 = number })) (BySerial (record { 0 = number }))) ≡ some s
            → s < length ks
        by true w e = ordinal-within (record { 0 = number }) (h (eqb-true p work_first w)) e
        by false w e = serial-within (record { 0 = number }) e
