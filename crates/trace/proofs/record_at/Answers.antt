-- Record k has the four bytes from 4k on, and the last two are its number.
use Rattle.std.proofs.Common.{arith}
use Rattle.trace.specs.Laws.Records.{record_bytes}
use Rattle.trace.proofs.record_at.Goals as goal

pub returns : goal.returns
returns c = record_bytes _ _ _ c.requires (omega arith) c.two_bytes-number.ensures
