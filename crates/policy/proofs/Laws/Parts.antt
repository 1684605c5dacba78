-- What running an opening step holds and pushes, case by case; no step of these is above the count of steps.
use Rattle.std.specs.Prelude.{ℕ, suc, ◌+◌, ◌≤◌, ◌<◌, ◌≡◌, Bool, true, false, cond, List, length}
use Rattle.std.proofs.Math.Path.{refl}
use Rattle.std.proofs.Common.{add-one, arith}
use Rattle.rules.specs.Tree.{kind_at, task_end, cont}
use Rattle.rules.specs.Scheduling.{pushes_child, holds, pushes}

module _ (p : ℕ) (ks : List ℕ) (i : ℕ) where
  pub holds-cont : pushes_child p (kind_at ks i) ≡ true → cont ks i ≡ holds p ks i
  unfolding holds
  holds-cont e = rw e refl

  pub holds-next : pushes_child p (kind_at ks i) ≡ false → i + 1 ≡ holds p ks i
  unfolding holds
  holds-next e = rw (e, add-one) refl

  pub pushes-next : pushes_child p (kind_at ks i) ≡ true → i + 1 ≡ pushes p ks i
  unfolding pushes
  pushes-next e = rw (e, add-one) refl

  pub pushes-cont : pushes_child p (kind_at ks i) ≡ false → cont ks i ≡ pushes p ks i
  unfolding pushes
  pushes-cont e = rw e refl

-- No step that a call stores is above the count of steps.
cont_most : (ks : List ℕ) (i : ℕ) → cont ks i ≤ length ks
unfolding cont task_end
cont_most ks i = omega arith

part_most : (b : Bool) (x y n : ℕ) → x ≤ n → y ≤ n → cond b x y ≤ n
part_most true x y n h k = h
part_most false x y n h k = k

pub holds_most : (p : ℕ) (ks : List ℕ) (i : ℕ) → i < length ks → holds p ks i ≤ length ks
unfolding holds
holds_most p ks i h = part_most (pushes_child p (kind_at ks i)) (cont ks i) (suc i) (length ks) (cont_most ks i) h

pub pushes_most : (p : ℕ) (ks : List ℕ) (i : ℕ) → i < length ks → pushes p ks i ≤ length ks
unfolding pushes
pushes_most p ks i h = part_most (pushes_child p (kind_at ks i)) (suc i) (cont ks i) (length ks) h (cont_most ks i)
