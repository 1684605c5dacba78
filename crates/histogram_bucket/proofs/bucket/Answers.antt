-- Load 0 has a bucket of its own, and any other load has a highest set bit.
use Rattle.std.proofs.Common.{◌≡◌, sym, arith}
use Rattle.histogram_limits.proofs.Laws.Buckets.{place-zero}
use Rattle.histogram_bucket.proofs.bucket.Goals as goal

pub returns-then-load-eq0 : goal.returns-then-load-eq0
returns-then-load-eq0 c =
    let none : c.args.load ≡ 0 = omega arith in
    rw none (sym place-zero)
