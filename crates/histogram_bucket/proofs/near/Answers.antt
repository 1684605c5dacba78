-- Limit 4 b is the last power of 2 that does not exceed the load, and the three limits above it are the last three of the table, halved.
use Rattle.std.proofs.Common.{sym}
use Rattle.histogram_limits.proofs.Laws.Buckets.{place_near}
use Rattle.histogram_bucket.proofs.near.Goals as goal

pub returns : goal.returns
returns c =
    rw (c.passes-one.ensures.passes, c.passes-two.ensures.passes, c.passes-three.ensures.passes, c.table-limits.ensures)
    (sym (place_near c.args.load c.args.bit c.requires))
