-- Of the child's first step and the continuation the code takes by `pushes_child` the one that `pushes` takes by `pushes_child`.
use Rattle.std.proofs.Common.{◌∙◌, sym, arith}
use Rattle.rules.specs.Tree.{kinds}
use Rattle.tree.specs.Laws.Records.{length-kinds}
use Rattle.policy.proofs.Laws.Parts.{pushes-cont, pushes-next}
use Rattle.policy.proofs.pushed_by.Goals as goal

pub overflow_add-result : goal.overflow_add-result
overflow_add-result c = omega (arith, length-kinds c.args.tree.now)

pub returns-then-pushes_child : goal.returns-then-pushes_child
returns-then-pushes_child c =
    let a = c.args in
    let pushed = sym c.pushes_child.ensures ∙ c.if-pushes_child.true in
    pushes-next a.policy (kinds a.tree.now) a.step.0 (rw c.kind.ensures at pushed)

pub returns : goal.returns
returns c =
    let a = c.args in
    let other = sym c.pushes_child.ensures ∙ c.if-pushes_child.false in
    c.cont_by.ensures ∙ pushes-cont a.policy (kinds a.tree.now) a.step.0 (rw c.kind.ensures at other)
