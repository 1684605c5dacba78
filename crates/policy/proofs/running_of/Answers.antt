-- A step beyond the tree and an end hold nothing, and an opening step holds and pushes what `held_after` and `pushed_by` answer.
use Rattle.std.proofs.Common.{◌<◌, length, ◌∙◌, sym, arith}
use Rattle.rules.specs.Tree.{kinds}
use Rattle.tree.specs.Laws.Records.{length-kinds}
use Rattle.policy.proofs.Laws.Running.{running_past, running_end, running_open}
use Rattle.policy.proofs.running_of.Goals as goal
use Rattle.policy.proofs.running_of.Goals.{Else-tree-i}

-- The tree has the step.
within : (c : Else-tree-i) → c.args.step.0 < length (kinds c.args.tree.now)
within c = omega (arith, length-kinds c.args.tree.now)

pub returns-then-tree-i : goal.returns-then-tree-i
returns-then-tree-i c =
    let a = c.args in
    sym (running_past a.policy (kinds a.tree.now) a.step.0 (omega (arith, length-kinds a.tree.now)))

pub returns-then-kind-eq-END : goal.returns-then-kind-eq-END
returns-then-kind-eq-END c =
    let a = c.args in
    sym (running_end a.policy (kinds a.tree.now) a.step.0 (sym c.kind.ensures ∙ c.if-kind-eq-END.true))

-- Nothing is asked of an empty table.
pub held_after-hold-requires : goal.held_after-hold-requires
held_after-hold-requires c = (within (goal.at.held_after-hold-requires c).Else-tree-i, λ i h. absurd (omega arith))

pub pushed_by-push-requires : goal.pushed_by-push-requires
pushed_by-push-requires c = (within (goal.at.pushed_by-push-requires c).Else-tree-i, λ i h. absurd (omega arith))

pub returns : goal.returns
returns c =
    let a = c.args in
    let inside = within (goal.at.returns c).Else-tree-i in
    let hold = c.held_after-hold in
    let push = c.pushed_by-push in
    sym
    (running_open a.policy (kinds a.tree.now) a.step.0 inside (λ z. c.if-kind-eq-END.false (c.kind.ensures ∙ z))
    hold.result push.result hold.ensures push.ensures)
