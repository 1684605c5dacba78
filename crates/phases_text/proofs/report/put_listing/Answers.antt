-- It puts the 18 bytes of the heading first and the lines behind them.
use Rattle.std.proofs.Common.{◌+◌, ◌++◌, refl, arith}
use Rattle.rules.specs.Program.{heading}
use Rattle.buffers.specs.Laws.Fronts.{with_part, Front, front_first, front_next}
use Rattle.phases_text.specs.Line.Terms.{lines_of}
use Rattle.phases_text.specs.Line.Laws.Lines.{lines_most}
use Rattle.phases_text.specs.Number.Laws.Texts.{front_is}
use Rattle.phases_text.proofs.report.put_listing.Goals as goal
use Rattle.phases_text.proofs.report.put_listing.Goals.{After-put_lines}

-- What is written after the lines.
both : (c : After-put_lines)
    → let put = c.put_bytes-at in
    Front c.args.text.now (heading ++ lines_of c.args.trace.now c.args.list.now c.args.records)
    (with_part put.new.text put.result c.put_lines.new.text) (put.result + c.put_lines.result)
unfolding heading
both c =
    let a = c.args in
    let first = c.put_bytes-at.ensures in
    let one = front_first a.text.now heading _ _ (omega arith) (first.counts, first.text) in
    let next = c.put_lines.ensures in
    let few = lines_most a.trace.now a.list.now a.records in
    front_next one (lines_of a.trace.now a.list.now a.records) _ _ (omega (arith, few)) (next.counts, next.text)

pub overflow_add-result : goal.overflow_add-result
overflow_add-result c = omega (arith, (both (goal.at.overflow_add-result c).After-put_lines).fits)

pub returns : goal.returns
returns c =
    let put = front_is (both (goal.at.returns c).After-put_lines) refl in
    record { counts = put.0; text = put.1 }
