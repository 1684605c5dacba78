-- A pushed step is dropped exactly where it has the label of another phase.
use Rattle.std.proofs.Common.{◌∙◌}
use Rattle.replay_spec.proofs.Laws.Dropping.{entry_free, entry_other}
use Rattle.replay_labels.proofs.stays.Goals as goal

pub returns-then-labels-at : goal.returns-then-labels-at
returns-then-labels-at c = entry_free c.args.labels.now c.args.step.0 c.args.phase.0 c.requires c.if-labels-at.true

pub returns : goal.returns
returns c = c.eq.ensures ∙ rw c.wide.ensures (entry_other c.args.labels.now c.args.step.0 c.args.phase.0 c.requires c.if-labels-at.false)
