-- Where an end stands just before the step, the task that it ends is the child of the step's opener; past the table's end it scans.
use Rattle.std.proofs.Common.{◌-◌, ◌∙◌, sym, arith}
use Rattle.rules.specs.Tree.{kinds}
use Rattle.tree_scan.specs.Laws.Steps.{child-none, finish_first, finish-open}
use Rattle.tree_tables.specs.Terms.{Opener}
use Rattle.tree_tables.proofs.Laws.Lookup.{finish_other, finish_opened}
use Rattle.tree_tables.proofs.lookup.finish_by.Goals as goal
use Rattle.tree_tables.proofs.lookup.finish_by.Goals.{After-wide-opener}

-- What the table has of the step.
opener : (c : After-wide-opener) → Opener (kinds c.args.tree.now) c.wide-opener.result c.args.step.0
opener c = rw c.wide-opener.ensures (c.requires c.args.step.0 (omega arith) (omega arith))

pub returns-then-j-eq0 : goal.returns-then-j-eq0
returns-then-j-eq0 c =
    let ks = kinds c.args.tree.now in
    child-none ks c.args.step.0 (finish_first ks c.args.step.0 c.if-j-eq0.true)

pub returns-then-kind-ne-END : goal.returns-then-kind-ne-END
returns-then-kind-ne-END c =
    let ks = kinds c.args.tree.now in
    let j = c.args.step.0 in
    child-none ks j (finish-open ks j (j - 1) (omega arith) (λ e. c.if-kind-ne-END.true (c.kind.ensures ∙ e)))

pub returns-then-kind-ne-FINISH : goal.returns-then-kind-ne-FINISH
returns-then-kind-ne-FINISH c =
    let o = opener (goal.at.returns-then-kind-ne-FINISH c).After-wide-opener in
    finish_other (kinds c.args.tree.now) c.wide-opener.result c.args.step.0 o (λ e. c.if-kind-ne-FINISH.true (c.kind-2.ensures ∙ e))

pub returns : goal.returns
returns c =
    let o = opener (goal.at.returns c).After-wide-opener in
    finish_opened (kinds c.args.tree.now) c.wide-opener.result c.args.step.0 o
    (sym c.kind.ensures ∙ omega arith) (sym c.kind-2.ensures ∙ omega arith)
