-- A finish child ends just before a step where an end stands there whose task is not the root and was opened by a finish record.
use Rattle.std.proofs.Common.{suc, ◌-◌, ◌≡◌, ◌∙◌, sym, ap, arith}
use Rattle.rules.specs.Tree.{kinds, task}
use Rattle.tree_scan.specs.declared.Task.{Task}
use Rattle.tree_scan.specs.Contract.{task_of}
use Rattle.tree_scan.specs.Laws.Steps.{child-none, child-some, finish_first, finish-open, finish-root, finish-async, finish-found}
use Rattle.tree_scan.proofs.children.finish_before.Goals as goal
use Rattle.tree_scan.proofs.children.finish_before.Goals.{After-task_of-task}

-- The first step of the task that ends just before the step.
first : (c : After-task_of-task) → task (kinds c.args.tree.now) (c.args.step.0 - 1) ≡ c.task_of-task.result.first.0
unfolding task_of
first c = ap (λ (x : Task). x.first.0) (sym c.task_of-task.ensures)

pub returns-then-i-eq0 : goal.returns-then-i-eq0
returns-then-i-eq0 c =
    let ks = kinds c.args.tree.now in
    child-none ks c.args.step.0 (finish_first ks c.args.step.0 c.if-i-eq0.true)

pub returns-then-kind-ne-END : goal.returns-then-kind-ne-END
returns-then-kind-ne-END c =
    let ks = kinds c.args.tree.now in
    let i = c.args.step.0 in
    child-none ks i (finish-open ks i (i - 1) (omega arith) (λ e. c.if-kind-ne-END.true (c.kind.ensures ∙ e)))

pub returns-then-first-eq0 : goal.returns-then-first-eq0
returns-then-first-eq0 c =
    let ks = kinds c.args.tree.now in
    let i = c.args.step.0 in
    let task = first (goal.at.returns-then-first-eq0 c).After-task_of-task in
    child-none ks i (finish-root ks i (i - 1) (omega arith) (task ∙ c.if-first-eq0.true))

pub returns-then-kind-ne-FINISH : goal.returns-then-kind-ne-FINISH
returns-then-kind-ne-FINISH c =
    let ks = kinds c.args.tree.now in
    let i = c.args.step.0 in
    let task = first (goal.at.returns-then-kind-ne-FINISH c).After-task_of-task in
    child-none ks i
    (finish-async ks i (i - 1) (omega arith) (c.task_of-task.result.first.0 - 1) (omega (arith, task))
    (λ e. c.if-kind-ne-FINISH.true (c.kind-2.ensures ∙ e)))

pub returns : goal.returns
returns c =
    let ks = kinds c.args.tree.now in
    let i = c.args.step.0 in
    let task = first (goal.at.returns c).After-task_of-task in
    let first_step = c.task_of-task.result.first.0 in
    let same : suc (first_step - 1) ≡ first_step = omega arith in
    let ends = sym c.kind.ensures ∙ c.if-kind-ne-END.false in
    let opened = sym c.kind-2.ensures ∙ c.if-kind-ne-FINISH.false in
    rw same at
    (child-some ks i (suc (first_step - 1)) (finish-found ks i (i - 1) (omega arith) (first_step - 1) (omega (arith, task)) ends opened))
