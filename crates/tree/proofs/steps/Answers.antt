-- There are as many kinds as whole records.
use Rattle.std.proofs.Common.{sym}
use Rattle.tree.specs.Laws.Records.{length-kinds}
use Rattle.tree.proofs.steps.Goals as goal

pub returns : goal.returns
returns c = sym (length-kinds c.args.tree.now)
