-- A step's weight is the number that bytes 4 to 7 of its record make, and 0 past the last record.
use Rattle.std.proofs.Common.{◌≡◌, ◌+◌, ◌*◌, sym, arith}
use Rattle.tree.specs.Laws.Records.{weight-at, weight_past}
use Rattle.tree.proofs.weight.Goals as goal

pub returns-then-tree-i : goal.returns-then-tree-i
returns-then-tree-i c = sym (weight_past c.args.tree.now c.args.step.0 (omega arith))

pub returns : goal.returns
returns c =
    let at = 8 * c.args.step.0 in
    let second : at + 4 + 1 ≡ at + 5 = omega arith in
    let third : at + 4 + 2 ≡ at + 6 = omega arith in
    let last : at + 4 + 3 ≡ at + 7 = omega arith in
    omega (arith, weight-at c.args.tree.now c.args.step.0 (omega arith), rw (second, third, last) at c.word.ensures)
