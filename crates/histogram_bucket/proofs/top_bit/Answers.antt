-- The zeros above a load's highest set bit tell its place, and past the last power of 2 among the limits the last is taken.
use Rattle.std.proofs.Common.{arith}
use Rattle.histogram_bucket.specs.Laws.Bits.{near_last, near_bit}
use Rattle.histogram_bucket.proofs.top_bit.Goals as goal

pub returns-then-bit-ge-POWERS : goal.returns-then-bit-ge-POWERS
returns-then-bit-ge-POWERS c = near_last _ c.requires c.ranges.load.fits (omega arith)

pub returns : goal.returns
returns c = near_bit _ c.requires c.ranges.load.fits (omega arith)
