-- A shift to the right halves and rounds down, and a truth value as a number is 1 or 0.
use Rattle.std.proofs.Common.{◌/◌, ◌^◌, leb}
use Rattle.histogram_limits.specs.Terms.{passes}
use Rattle.histogram_bucket.specs.Laws.Bits.{bool_number}
use Rattle.histogram_bucket.proofs.passes.Goals as goal

pub returns-clause-passes : goal.returns-clause-passes
unfolding passes
returns-clause-passes c = bool_number (leb (c.args.limit / 2 ^ c.args.halvings) c.args.load)
