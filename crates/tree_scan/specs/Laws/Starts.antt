-- What an accepted start says of the policy, of the worker count and of the tree.
use Rattle.std.specs.Prelude.{ℕ, ◌≤◌, ◌≡◌, List, [], ◌∷◌, ◌⊎◌}
use Rattle.std.proofs.Common.{inl, inr, arith}
use Rattle.std.proofs.Math.Decide.{ℕ_discrete, dec_le}
use borrow.Author.Tests.{ne_eqb, le-leb, lt-leb}
use Rattle.rules.specs.Bytes.{refused_if, first_refused}
use Rattle.rules.specs.Tree.{tree_verdict}
use Rattle.rules.specs.Calls.{policy_verdict, count_verdict, start_verdict}
use Rattle.tree.specs.Laws.Verdicts.{first-accepts, first_position}

module _ (w p : ℕ) (tree : List ℕ) (e : (start_verdict w p tree).number ≡ 0) where
  neither : (p ≡ 1 → ⊥) → (p ≡ 2 → ⊥) → ⊥
  unfolding start_verdict policy_verdict first_refused refused_if
  neither n m = omega (arith, rw (ne_eqb p 1 n, ne_eqb p 2 m) at e)

  counted : (count_verdict w).number ≡ 0
  unfolding start_verdict
  counted = (first-accepts _ _ (first-accepts _ _ e).1).0

  -- An accepted start has accepted the tree,
  pub start-tree-accepts : (tree_verdict tree).number ≡ 0
  unfolding start_verdict
  start-tree-accepts = (first-accepts _ _ (first-accepts _ _ (first-accepts _ _ e).1).1).0

  -- and the count,
  pub start_workers : (1 ≤ w) × (w ≤ 16)
  unfolding count_verdict refused_if
  start_workers =
      elim (dec_le 1 w) [
        | no few ↦ absurd (omega (arith, rw (lt-leb 1 w (omega arith)) at counted))
        | yes some ↦ elim (dec_le w 16) [
          | no many ↦ absurd (omega (arith, rw (le-leb 1 w some, lt-leb w 16 (omega arith)) at counted))
          | yes most ↦ (some, most)
        ]
      ]

  -- and the policy,
  pub admitted_policy : (p ≡ 1) ⊎ (p ≡ 2)
  admitted_policy =
      elim (ℕ_discrete p 1) [
        | yes one ↦ inl one
        | no n ↦ elim (ℕ_discrete p 2) [ yes two ↦ inr two | no m ↦ absurd (neither n m) ]
      ]

  -- and names no position.
  pub admitted_position : (start_verdict w p tree).position ≡ 0
  unfolding start_verdict
  admitted_position = first_position (policy_verdict p ∷ count_verdict w ∷ tree_verdict tree ∷ []) e
