-- The total is what the steps before j weigh, below 2 ^ 32 each.
use Rattle.std.proofs.Common.{◌≡◌, ◌*◌, ◌≤◌}
use Rattle.rules.specs.Tree.{weights}
use Rattle.tree_tables.specs.Terms.{weight_before}
use Rattle.dag_span.proofs.work.Given as goal

abbrev pub invariant-loop-j : goal.invariant-loop-j
invariant-loop-j l = (l.total ≡ weight_before (weights l.tree) l.j) × (l.total ≤ l.j * 4294967295)
