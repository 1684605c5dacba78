-- The text begins with the lines of the first k records.
use Rattle.phases_text.specs.Line.Laws.Lines.{Listing}
use Rattle.phases_text.proofs.line.put_lines.Given as goal

abbrev pub invariant-loop-k : goal.invariant-loop-k
invariant-loop-k l = Listing l.fn.text l.trace l.list l.k l.text l.at
