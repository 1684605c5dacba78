-- The tables of a tree, as a walk is lent them: the front of an array that is longer than the tree.
use Rattle.std.specs.Prelude.{ℕ, ◌≤◌, ◌≡◌, List, length, take}
use Rattle.std.proofs.Common.{◌∙◌, arith, get_or-take, length-take-le}
use Rattle.rules.specs.Calls.{start_verdict}
use Rattle.tree_scan.specs.Laws.Starts.{start-tree-accepts}
use Rattle.tree_scan.specs.Laws.Frames.{Frame, accepted-frame}
use Rattle.tree_tables.specs.Terms.{Ends, Openers}

-- The tree of an accepted start.
pub start-frame : (w p : ℕ) (tree : List ℕ) → (start_verdict w p tree).number ≡ 0 → Frame tree
start-frame w p tree e = accepted-frame tree (start-tree-accepts w p tree e)

module _ (ks table : List ℕ) (n : ℕ) (count : n ≡ length ks) (long : n ≤ length table) where
  length_prefix : length (take n table) ≡ length ks
  length_prefix = length-take-le n table long ∙ count

  pub ends_prefix : Ends ks table (length ks) → (length (take n table) ≡ length ks) × Ends ks (take n table) (length (take n table))
  ends_prefix ends =
      (length_prefix, λ i h. rw (get_or-take n table i 0 (omega (arith, length_prefix))) (ends i (omega (arith, length_prefix))))

  pub openers_prefix : Openers ks table (length ks)
      → (length (take n table) ≡ length ks) × Openers ks (take n table) (length (take n table))
  openers_prefix openers =
      (length_prefix, λ j some h. rw (get_or-take n table j 0 (omega (arith, length_prefix))) (openers j some (omega (arith, length_prefix))))
