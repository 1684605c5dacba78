-- The digits go from the last to the first, before the byte that already stands behind them. No number has more than five.
use Rattle.std.proofs.Common.{◌∙◌, arith, slice_set, length-set}
use Rattle.phases_text.specs.Number.Laws.Numbers.{decimal_most, writing_start, writing_turn, writing_done, behind_number}
use Rattle.phases_text.proofs.number.put_number.Goals as goal

pub bounds-text-count : goal.bounds-text-count
bounds-text-count c = omega (arith, decimal_most c.args.number)

pub loop-i-init : goal.loop-i-init
loop-i-init c =
    writing_start c.args.number (slice_set c.args.text.now c.places-count.result c.args.end) c.places-count.result c.places-count.ensures

pub loop-i-preserved : goal.loop-i-preserved
loop-i-preserved c =
    let loop = c.loop-i in
    writing_turn c.args.number _ (simp length-set (omega arith)) loop.text loop.i loop.rest loop.invariant c.loop-i-test.true

pub overflow_add-result : goal.overflow_add-result
overflow_add-result c = omega (arith, decimal_most c.args.number)

pub returns-clause-text : goal.returns-clause-text
returns-clause-text c =
    let a = c.args in
    let loop = c.loop-i in
    writing_done a.number _ loop.text loop.i loop.rest loop.invariant c.loop-i-test.false
    ∙ behind_number a.number a.end a.text.now c.requires c.places-count.result c.places-count.ensures
