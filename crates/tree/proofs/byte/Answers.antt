-- Byte `at` of record i stands at 8 i + at, and past the last record it is 0.
use Rattle.std.proofs.Common.{sym, arith}
use Rattle.tree.specs.Laws.Records.{byte_at, byte_past}
use Rattle.tree.proofs.byte.Goals as goal

pub returns-then-i-tree : goal.returns-then-i-tree
returns-then-i-tree c = sym (byte_at c.args.at c.args.tree.now c.args.i c.requires (omega arith))

pub returns-else-i-tree : goal.returns-else-i-tree
returns-else-i-tree c = sym (byte_past c.args.at c.args.tree.now c.args.i (omega arith))
