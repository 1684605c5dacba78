-- The tables have what the steps from j on tell.
use Rattle.rules.specs.Tree.{kinds}
use Rattle.tree_tables.proofs.Laws.Filling.{Filled}
use Rattle.tree_tables.proofs.fill.Given as goal

abbrev pub invariant-loop-j : goal.invariant-loop-j
invariant-loop-j l = Filled (kinds l.tree) l.fn.ends l.fn.openers l.ends l.openers l.j
