-- It tests the log's length, then the trace's.
use Rattle.std.proofs.Common.{◌*◌, refl, lt-ltb, le-ltb}
use Rattle.arguments.specs.Terms.{too_short}
use Rattle.arguments.proofs.too_short.Goals as goal

pub returns-then-log-steps : goal.returns-then-log-steps
unfolding too_short
returns-then-log-steps c = rw (lt-ltb c.args.log (4 * c.args.steps) c.if-log-steps.true) refl

pub returns-else-log-steps : goal.returns-else-log-steps
unfolding too_short
returns-else-log-steps c = rw (le-ltb c.args.log (4 * c.args.steps) c.if-log-steps.false) refl
