-- What running a step does to its worker, case by case, in the terms of the code.
use Rattle.std.specs.Prelude.{ℕ, ◌≤◌, ◌<◌, ◌≡◌, List, length, leb}
use Rattle.std.proofs.Math.Path.{refl, sym}
use Rattle.std.proofs.Math.Bool.{or-true}
use borrow.Author.Tests.{ne_eqb, le-leb, lt-leb}
use Rattle.rules.specs.Tree.{kind_at, is_end}
use Rattle.rules.specs.Scheduling.{holds, pushes}
use Rattle.tree.specs.declared.Step.{Step}
use Rattle.policy.specs.declared.Running.TheVariants.{Opens, Ends}
use Rattle.policy.specs.Contract.{running_of}

module _ (p : ℕ) (ks : List ℕ) (i : ℕ) where
  pub running_past : length ks ≤ i → running_of p ks i ≡ Ends
  unfolding running_of
  running_past h = rw (le-leb (length ks) i h) refl

  pub running_end : kind_at ks i ≡ 3 → running_of p ks i ≡ Ends
  unfolding running_of is_end
  running_end e = rw (e, or-true (leb (length ks) i)) refl

  pub running_open : i < length ks → (kind_at ks i ≡ 3 → ⊥) → (hold push : Step) → hold.0 ≡ holds p ks i → push.0 ≡ pushes p ks i
      → running_of p ks i ≡ Opens hold push
  unfolding running_of is_end
  running_open h e hold push x y =
      rw (lt-leb (length ks) i h, ne_eqb (kind_at ks i) 3 e) (λ k. Opens (record { 0 = sym x k }) (record { 0 = sym y k }))
