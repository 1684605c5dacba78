-- The finish child before a step, case by case, in the terms of the code.
use Rattle.std.specs.Prelude.{Some, None}
use Rattle.tree.specs.Steps.{maybe_step}
use Rattle.std.specs.Prelude.{ℕ, suc, ◌≡◌, List}
use Rattle.std.proofs.Math.Path.{refl}
use Rattle.std.proofs.Math.Bool.{and-false}
use Rattle.std.proofs.Math.Option.{none, some}
use borrow.Author.Tests.{ne_eqb}
use Rattle.rules.specs.Tree.{kind_at, is_finish, is_end, task, finish_child, finish_before}

-- ---- the finish child before a step

module _ (ks : List ℕ) (i : ℕ) where
  pub child-none : finish_before ks i ≡ none → None ≡ maybe_step (finish_before ks i)
  unfolding maybe_step
  child-none e = rw e refl

  pub child-some : (f : ℕ) → finish_before ks i ≡ some f → Some (record { 0 = f }) ≡ maybe_step (finish_before ks i)
  unfolding maybe_step
  child-some f e = rw e refl

  pub finish_first : i ≡ 0 → finish_before ks i ≡ none
  unfolding finish_before
  finish_first z = rw z refl

  -- Record e stands just before step i.
  module _ (e : ℕ) (at : i ≡ suc e) where
    pub finish-open : (kind_at ks e ≡ 3 → ⊥) → finish_before ks i ≡ none
    unfolding finish_before is_end
    finish-open h = rw (at, ne_eqb (kind_at ks e) 3 h) refl

    pub finish-root : task ks e ≡ 0 → finish_before ks i ≡ none
    unfolding finish_before finish_child
    finish-root h = rw (at, h, and-false (is_end (kind_at ks e))) refl

    -- The task that record e ends was opened by record o.
    module _ (o : ℕ) (h : task ks e ≡ suc o) where
      pub finish-async : (kind_at ks o ≡ 2 → ⊥) → finish_before ks i ≡ none
      unfolding finish_before finish_child is_finish
      finish-async k = rw (at, h, ne_eqb (kind_at ks o) 2 k, and-false (is_end (kind_at ks e))) refl

      pub finish-found : kind_at ks e ≡ 3 → kind_at ks o ≡ 2 → finish_before ks i ≡ some (suc o)
      unfolding finish_before finish_child is_end is_finish
      finish-found end k = rw (at, h, end, k) refl
