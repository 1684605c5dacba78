-- The classes are charged with the steps before j.
use Rattle.rules.specs.Tree.{classes, weights}
use Rattle.tree.specs.Laws.Records.{length_paired}
use Rattle.tree_tables.proofs.Laws.Charging.{Charged}
use Rattle.tree_tables.proofs.sums.charge.Given as goal

abbrev pub invariant-loop-j : goal.invariant-loop-j
invariant-loop-j l = Charged (classes l.tree) (weights l.tree) (length_paired l.tree) l.classes l.j
