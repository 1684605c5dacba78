-- Each turn charges the class of one step with its weight; 4,095 weights of 32 bits stay below 64 bits.
use Rattle.std.proofs.Common.{◌≡◌, ◌<◌, length, arith}
use Rattle.rules.specs.Tree.{kinds, classes, weights}
use Rattle.tree.specs.Laws.Records.{length-kinds, length_paired}
use Rattle.tree_tables.proofs.Laws.Charging.{charge_start, charge-turn, charged_all}
use Rattle.tree_tables.proofs.sums.charge.Goals as goal

pub loop-j-init : goal.loop-j-init
loop-j-init c =
    let tree = c.args.tree.now in
    rw c.requires.zeroed (charge_start (classes tree) (weights tree) (length_paired tree))

pub bounds-classes-k : goal.bounds-classes-k
bounds-classes-k c = omega (arith, c.class-k.ensures, c.requires.classed c.loop-j.j (omega (arith, length-kinds c.args.tree.now)))

pub overflow_add-classes : goal.overflow_add-classes
overflow_add-classes c =
    let many = length-kinds c.args.tree.now in
    let few : c.class-k.result < 16 = omega (arith, c.class-k.ensures, c.requires.classed c.loop-j.j (omega arith)) in
    omega (arith, c.loop-j.invariant.small c.class-k.result few)

pub bounds-classes-k-in-loop-j : goal.bounds-classes-k-in-loop-j
bounds-classes-k-in-loop-j c =
    omega (arith, c.class-k.ensures, c.requires.classed c.loop-j.j (omega (arith, length-kinds c.args.tree.now)))

pub loop-j-preserved : goal.loop-j-preserved
loop-j-preserved c =
    let tree = c.args.tree.now in
    let loop = c.loop-j in
    let few : c.class-k.result < 16 =
    omega (arith, c.class-k.ensures, c.requires.classed loop.j (omega (arith, length-kinds tree))) in
    charge-turn (classes tree) (weights tree) (length_paired tree) loop.classes c.class-k.result loop.j c.weight.result
    c.class-k.ensures c.weight.ensures few (omega arith) loop.invariant

pub returns : goal.returns
returns c =
    let tree = c.args.tree.now in
    let loop = c.loop-j in
    let end : loop.j ≡ length (kinds tree) = omega (arith, length-kinds tree) in
    rw (← end) (charged_all (classes tree) (weights tree) (length_paired tree) loop.classes loop.j loop.invariant)
