-- The sums up to step j are in the table, and the classes of the steps before it are added up. A class is below 256.
use Rattle.std.proofs.Common.{◌≡◌, ◌*◌, ◌≤◌, length}
use Rattle.rules.specs.Tree.{kinds, classes, weights}
use Rattle.tree_tables.specs.Terms.{weight_before}
use Rattle.tree_tables.proofs.Laws.Filling.{Added}
use Rattle.tree_tables.proofs.sums.add_weights.Given as goal

abbrev pub invariant-loop-j : goal.invariant-loop-j
invariant-loop-j l =
    record {
      summed : Added (weights l.tree) (length (kinds l.tree)) l.initial.sums l.sums l.j l.total;
      marked : l.marks ≡ weight_before (classes l.tree) l.j;
      small : l.marks ≤ l.j * 255;
    }
