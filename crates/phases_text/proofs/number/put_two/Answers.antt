-- It puts two numbers one behind the other, with the bytes of the rules' line behind each, and each takes at most six of the 12 bytes.
use Rattle.std.proofs.Common.{◌+◌, [], ◌++◌, arith}
use Rattle.rules.specs.Program.{line}
use Rattle.buffers.specs.Laws.Fronts.{with_part, Front, front_first, front_next}
use Rattle.phases_text.specs.Number.Laws.Texts.{piece, piece_most, front_is, line-more}
use Rattle.phases_text.proofs.number.put_two.Goals as goal
use Rattle.phases_text.proofs.number.put_two.Goals.{After-put_number}

-- What is written after the second number.
both : (c : After-put_number)
    → let put = c.put_number-at in
    Front c.args.text.now (piece c.args.first 32 ++ piece c.args.second 10)
    (with_part put.new.text put.result c.put_number.new.text) (put.result + c.put_number.result)
both c =
    let a = c.args in
    let first = c.put_number-at.ensures in
    let next = c.put_number.ensures in
    let front = front_first a.text.now _ _ _ (omega (arith, piece_most a.first 32)) (first.counts, first.text) in
    front_next front _ _ _ (omega (arith, piece_most a.first 32, piece_most a.second 10)) (next.counts, next.text)

pub overflow_add-result : goal.overflow_add-result
overflow_add-result c = omega (arith, (both (goal.at.overflow_add-result c).After-put_number).fits)

pub returns : goal.returns
unfolding line
returns c =
    let put = front_is (both (goal.at.returns c).After-put_number) (line-more c.args.first c.args.second []) in
    record { counts = put.0; text = put.1 }
