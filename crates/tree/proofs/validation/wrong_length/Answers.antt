-- The three tests are the three ways in which a length is wrong, and where none holds the length is right.
use Rattle.std.proofs.Common.{sym}
use Rattle.tree.specs.Laws.Acceptance.{wrong_empty, wrong_part, wrong_long, right-length}
use Rattle.tree.proofs.validation.wrong_length.Goals as goal

pub returns-then-n-eq0 : goal.returns-then-n-eq0
returns-then-n-eq0 c = sym (wrong_empty c.args.tree.now c.if-n-eq0.true)

pub returns-then-tree-ne0 : goal.returns-then-tree-ne0
returns-then-tree-ne0 c = sym (wrong_part c.args.tree.now c.if-tree-ne0.true)

pub returns-then-n-gt-MOST_STEPS : goal.returns-then-n-gt-MOST_STEPS
returns-then-n-gt-MOST_STEPS c = sym (wrong_long c.args.tree.now c.if-n-gt-MOST_STEPS.true)

pub returns : goal.returns
returns c = sym (right-length c.args.tree.now c.if-n-eq0.false c.if-tree-ne0.false c.if-n-gt-MOST_STEPS.false)
