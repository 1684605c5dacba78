-- The continuation stands where the child's task ends, which the table has; past the table's end it scans.
use Rattle.std.proofs.Common.{length, ◌∙◌, arith}
use Rattle.rules.specs.Tree.{kinds}
use Rattle.tree_tables.proofs.Laws.Lookup.{cont-looked}
use Rattle.tree_tables.proofs.lookup.cont_by.Goals as goal

pub returns : goal.returns
returns c =
    let a = c.args in
    c.wide.ensures ∙ cont-looked (kinds a.tree.now) a.ends.now (length a.ends.now) a.step.0 c.requires (omega arith)
