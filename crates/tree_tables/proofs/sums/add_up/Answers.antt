-- Classes that add up to 0 are all 0, and then class 0 has what all steps weigh, which is the last of the sums.
use Rattle.std.proofs.Common.{◌≡◌, length, sym, arith}
use Rattle.rules.specs.Tree.{kinds, classes, weights}
use Rattle.tree.specs.Laws.Records.{length-kinds, length_paired}
use Rattle.tree_tables.specs.Terms.{weight_before}
use Rattle.tree_tables.proofs.Laws.Charging.{zeros-all, sum_zeros}
use Rattle.tree_tables.proofs.sums.add_up.Goals as goal

pub bounds-sums-n : goal.bounds-sums-n
bounds-sums-n c = omega (arith, length-kinds c.args.tree.now)

pub returns-then-marks-eq0-clause-classes : goal.returns-then-marks-eq0-clause-classes
returns-then-marks-eq0-clause-classes c =
    let tree = c.args.tree.now in
    let n = length (kinds tree) in
    let none : weight_before (classes tree) n ≡ 0 = omega (arith, c.add_weights-marks.ensures.answer, c.if-marks-eq0.true) in
    let all = zeros-all (classes tree) (weights tree) (length_paired tree) n (sum_zeros (classes tree) n none) in
    rw (c.requires.zeroed, ← length-kinds tree, c.add_weights-marks.ensures.sums n (omega arith)) (sym all)
