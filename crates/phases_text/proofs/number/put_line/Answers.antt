-- It puts a number and a space, and a line of the two others behind them.
use Rattle.std.proofs.Common.{◌+◌, [], ◌∷◌, ◌++◌, arith}
use Rattle.rules.specs.Program.{line}
use Rattle.buffers.specs.Laws.Fronts.{with_part, Front, front_first, front_next}
use Rattle.phases_text.specs.Number.Laws.Texts.{piece, piece_most, front_is, line-more, line_most}
use Rattle.phases_text.proofs.number.put_line.Goals as goal
use Rattle.phases_text.proofs.number.put_line.Goals.{After-put_two}

-- What is written after the line of the others.
both : (c : After-put_two)
    → let put = c.put_number-at in
    Front c.args.text.now (piece c.args.first 32 ++ line (c.args.second ∷ c.args.third ∷ []))
    (with_part put.new.text put.result c.put_two.new.text) (put.result + c.put_two.result)
both c =
    let a = c.args in
    let first = c.put_number-at.ensures in
    let next = c.put_two.ensures in
    let front = front_first a.text.now _ _ _ (omega (arith, piece_most a.first 32)) (first.counts, first.text) in
    front_next front _ _ _ (omega (arith, piece_most a.first 32, line_most a.second (a.third ∷ []))) (next.counts, next.text)

pub overflow_add-result : goal.overflow_add-result
overflow_add-result c = omega (arith, (both (goal.at.overflow_add-result c).After-put_two).fits)

pub returns : goal.returns
returns c =
    let put = front_is (both (goal.at.returns c).After-put_two) (line-more c.args.first c.args.second (c.args.third ∷ [])) in
    record { counts = put.0; text = put.1 }
