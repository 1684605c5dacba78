-- What is looked up, case by case, in the terms of the code.
use Rattle.std.specs.Prelude.{Some, None}
use Rattle.tree.specs.Steps.{maybe_step}
use Prim.Native.Nat.{ℕ, pred, ◌+◌, ◌-◌, ◌<◌}
use Rattle.std.specs.Prelude.{◌≡◌, refl, List, get_or}
use Rattle.std.proofs.Common.{◌∙◌, add-one, ne_eqb}
use Rattle.std.proofs.Math.Bool.{and-false}
use native.Mathlib.Omega.{arith}
use Rattle.rules.specs.Tree.{kind_at, is_end, is_finish, cont, finish_before}
use Rattle.tree_scan.specs.Laws.Steps.{child-none, child-some}
use Rattle.tree_tables.specs.Terms.{Ends, Opener}
use Rattle.tree_tables.proofs.Laws.Filling.{cont-at}

-- The continuation is the end of the child's task.
pub cont-looked : (ks ends : List ℕ) (m i : ℕ) → Ends ks ends m → i + 1 < m → get_or ends (i + 1) 0 ≡ cont ks i
cont-looked ks ends m i e h = cont-at ks ends i (e (i + 1) h)

module _ (ks : List ℕ) (q j : ℕ) (o : Opener ks q j) where
  -- The opener opened no finish child.
  pub finish_other : (kind_at ks q ≡ 2 → ⊥) → None ≡ maybe_step (finish_before ks j)
  unfolding is_finish
  finish_other n = child-none ks j (o.finish ∙ rw (ne_eqb (kind_at ks q) 2 n, and-false (is_end (kind_at ks (pred j)))) refl)

  -- It opened one, whose end stands just before.
  pub finish_opened : kind_at ks (j - 1) ≡ 3 → kind_at ks q ≡ 2 → Some (record { 0 = q + 1 }) ≡ maybe_step (finish_before ks j)
  unfolding is_end is_finish
  finish_opened e k =
      let at : pred j ≡ j - 1 = omega arith in
      child-some ks j (q + 1) (o.finish ∙ rw (at, e, k, add-one) refl)
