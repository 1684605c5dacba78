-- As many bytes are copied as it is told, and it is told all of them.
use Rattle.std.proofs.Math.Seq.{take-length}
use Rattle.phases_text.proofs.report.put_bytes.Goals as goal

pub returns-clause-text : goal.returns-clause-text
returns-clause-text c = rw take-length at c.copy_out.ensures
