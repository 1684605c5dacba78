-- The child has ended where no task in it is open any more, or with the tree.
use Rattle.std.proofs.Common.{◌∙◌, ◌+◌, ◌<◌, length, sym, arith}
use Rattle.rules.specs.Tree.{kinds}
use Rattle.tree.specs.Laws.Records.{length-kinds, kind_at_lem}
use Rattle.tree_scan.specs.Laws.Scans.{Forward, forward_start, forward_end, forward_open, forward_done, forward_past, cont_past}
use Rattle.tree_scan.proofs.children.cont.Goals as goal
use Rattle.tree_scan.proofs.children.cont.Goals.{Joined-tree-j-eq-END, then-tree-j-eq-END, else-tree-j-eq-END}

pub returns-then-n-i : goal.returns-then-n-i
returns-then-n-i c =
    let tree = c.args.tree.now in
    omega (arith, length-kinds tree, cont_past (kinds tree) c.args.step.0 (omega (arith, length-kinds tree)))

pub loop-j-init : goal.loop-j-init
loop-j-init c =
    let tree = c.args.tree.now in
    record {
      some = omega arith;
      forward = forward_start (kinds tree) c.args.step.0 (omega (arith, length-kinds tree));
    }

-- The count behind a record, which ends a task or opens one.
counted : (c : Joined-tree-j-eq-END) → Forward (kinds c.args.tree.now) c.args.step.0 (c.loop-j.j + 1) c.if-tree-j-eq-END.left
counted c =
    let tree = c.args.tree.now in
    let loop = c.loop-j in
    let within : loop.j < length (kinds tree) = omega (arith, length-kinds tree) in
    let kind = kind_at_lem tree loop.j (omega arith) in
    elim c.if-tree-j-eq-END.branch [
      | then-tree-j-eq-END w ↦
          rw w.left-is
          (forward_end (kinds tree) c.args.step.0 loop.j loop.left loop.invariant.forward within loop.invariant.some
          (kind ∙ w.if-tree-j-eq-END.true))
      | else-tree-j-eq-END w ↦
          rw w.left-is
          (forward_open (kinds tree) c.args.step.0 loop.j loop.left loop.invariant.forward within loop.invariant.some
          (λ e. w.if-tree-j-eq-END.false (sym kind ∙ e)))
    ]

pub returns-then-left-eq0 : goal.returns-then-left-eq0
returns-then-left-eq0 c =
    let done = counted (goal.at.returns-then-left-eq0 c).Joined-tree-j-eq-END in
    sym (forward_done (kinds c.args.tree.now) c.args.step.0 (c.loop-j.j + 1) (rw c.if-left-eq0.true at done))

pub loop-j-preserved : goal.loop-j-preserved
loop-j-preserved c = record { some = omega arith; forward = counted (goal.at.loop-j-preserved c).Joined-tree-j-eq-END }

pub returns : goal.returns
returns c =
    let tree = c.args.tree.now in
    let loop = c.loop-j in
    let past = forward_past (kinds tree) c.args.step.0 loop.j loop.left loop.invariant.forward (omega (arith, length-kinds tree)) in
    omega (arith, length-kinds tree, past)
