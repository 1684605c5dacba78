-- A step has less than 2 ^ 32 to weigh, and an accepted tree has at most 4,095 steps.
use Rattle.std.proofs.Common.{◌≡◌, ◌∙◌, sym, add-one, arith, length}
use Rattle.rules.specs.Tree.{weights}
use Rattle.tree.specs.Laws.Records.{length-kinds, length-weights}
use Rattle.tree_scan.specs.Laws.Frames.{accepted-frame}
use Rattle.tree_tables.proofs.Laws.Filling.{weight-step}
use Rattle.dag_chain.proofs.Laws.Bounds.{weight-none, work-weight}
use Rattle.dag_span.proofs.work.Goals as goal

pub loop-j-init : goal.loop-j-init
loop-j-init c = (sym (weight-none (weights c.args.tree.now)), omega arith)

pub overflow_add-total : goal.overflow_add-total
overflow_add-total c = omega (arith, (accepted-frame c.args.tree.now c.requires).most)

pub loop-j-preserved : goal.loop-j-preserved
loop-j-preserved c = (rw add-one (omega (arith, weight-step (weights c.args.tree.now) c.loop-j.j)), omega arith)

pub returns : goal.returns
returns c =
    let tree = c.args.tree.now in
    let all : c.loop-j.j ≡ length (weights tree) = omega (arith, length-kinds tree, length-weights tree) in
    c.loop-j.invariant.0 ∙ rw all (sym (work-weight (weights tree)))
