-- Each turn adds one step's weight to the sum before it, and its class to the sum of the classes.
use Rattle.std.proofs.Common.{◌≡◌, refl, length, set, add-one, arith}
use Rattle.rules.specs.Bytes.{count, sum}
use Rattle.rules.specs.Tree.{kinds, classes, weights}
use Rattle.tree.specs.Laws.Records.{length-kinds}
use Rattle.tree_tables.specs.Terms.{weight_before}
use Rattle.tree_tables.proofs.Laws.Filling.{weight-step, add_start, add_turn, added-all}
use Rattle.tree_tables.proofs.sums.add_weights.Goals as goal

pub loop-j-init : goal.loop-j-init
unfolding weight_before count sum
loop-j-init c =
    let tree = c.args.tree.now in
    record {
      summed = add_start (weights tree) (length (kinds tree)) c.args.sums.now c.requires.sums_room;
      marked = refl;
      small = omega arith;
    }

pub bounds-sums-j : goal.bounds-sums-j
bounds-sums-j c = omega (arith, length-kinds c.args.tree.now, c.loop-j.invariant.summed.room)

pub loop-j-preserved : goal.loop-j-preserved
loop-j-preserved c =
    let tree = c.args.tree.now in
    let loop = c.loop-j in
    let v = loop.invariant in
    record {
      summed = add_turn (weights tree) (length (kinds tree)) (set c.args.sums.now 0 0) loop.sums loop.j loop.total v.summed
          (omega (arith, length-kinds tree)) c.weight.result c.weight.ensures (omega arith);
      marked = rw add-one (omega (arith, weight-step (classes tree) loop.j, v.marked, c.class.ensures));
      small = omega (arith, v.small);
    }

pub returns-clause-sums : goal.returns-clause-sums
returns-clause-sums c =
    let tree = c.args.tree.now in
    let loop = c.loop-j in
    added-all (weights tree) (length (kinds tree)) (set c.args.sums.now 0 0) loop.sums loop.j loop.total loop.invariant.summed
    (omega (arith, length-kinds tree))

pub returns-clause-answer : goal.returns-clause-answer
returns-clause-answer c =
    let end : c.loop-j.j ≡ length (kinds c.args.tree.now) = omega (arith, length-kinds c.args.tree.now) in
    rw (← end) c.loop-j.invariant.marked
