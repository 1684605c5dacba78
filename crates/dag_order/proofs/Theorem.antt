-- The order of steps, #105 of document 02: for every accepted tree.
use Rattle.std.specs.Prelude.{ℕ, ◌≡◌, List}
use Rattle.rules.specs.Tree.{kinds, tree_verdict}
use Rattle.tree_scan.specs.Laws.Frames.{accepted-frame}
use Rattle.dag_order.specs.Order.{Order}
use Rattle.dag_order.proofs.Laws.Closure.{order}

pub steps_in_order : (tree : List ℕ) → (tree_verdict tree).number ≡ 0 → Order (kinds tree)
steps_in_order tree accepts = order (kinds tree) (accepted-frame tree accepts).shape
