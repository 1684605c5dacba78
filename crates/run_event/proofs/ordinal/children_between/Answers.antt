-- A step's kind is the first byte of its record. An end closes the innermost child that is open, and any other step opens one, which is
-- counted where none was open.
use Rattle.std.proofs.Common.{◌+◌, ◌≡◌, arith, sym, ◌∙◌}
use Rattle.rules.specs.Tree.{kinds}
use Rattle.tree.specs.Laws.Records.{length-kinds, kind_at_lem}
use Rattle.run_spec.proofs.Laws.Children.{counted_start, counted-end, counted-child, counted-inner, counted-done}
use Rattle.run_event.proofs.ordinal.children_between.Goals as goal
use Rattle.run_event.proofs.ordinal.children_between.Goals.{then-tree-j-eq-END, else-tree-j-eq-END, then-depth-eq0, else-depth-eq0}

pub loop-j-init : goal.loop-j-init
loop-j-init c = counted_start (kinds c.args.tree.now) c.args.from.0 c.args.to.0

pub overflow_mul-j : goal.overflow_mul-j
overflow_mul-j c = omega (arith, length-kinds c.args.tree.now)

pub bounds-tree-j : goal.bounds-tree-j
bounds-tree-j c = omega (arith, length-kinds c.args.tree.now)

pub loop-j-preserved : goal.loop-j-preserved
loop-j-preserved c =
    let a = c.args in
    let loop = c.loop-j in
    let tree = a.tree.now in
    let kind = kind_at_lem tree loop.j (omega (arith, length-kinds tree)) in
    elim c.if-tree-j-eq-END.branch [
      | then-tree-j-eq-END w ↦
          rw (w.depth-is, w.children-is)
          (counted-end (kinds tree) a.from.0 a.to.0 loop.j loop.depth loop.children loop.invariant (omega arith) (omega arith)
          (kind ∙ w.if-tree-j-eq-END.true) w.saturating_sub-depth.result (omega (arith, w.saturating_sub-depth.ensures)))
      | else-tree-j-eq-END w ↦
          elim w.if-depth-eq0.branch [
            | then-depth-eq0 v ↦
                let z : loop.depth + 1 ≡ 1 = omega (arith, v.if-depth-eq0.true) in
                rw (w.depth-is, w.children-is, v.children-is, z)
                (counted-child (kinds tree) a.from.0 a.to.0 loop.j loop.depth loop.children loop.invariant (omega arith) (omega arith)
                (λ e. w.if-tree-j-eq-END.false (sym kind ∙ e)) v.if-depth-eq0.true)
            | else-depth-eq0 v ↦
                rw (w.depth-is, w.children-is, v.children-is)
                (counted-inner (kinds tree) a.from.0 a.to.0 loop.j loop.depth loop.children loop.invariant (omega arith) (omega arith)
                (λ e. w.if-tree-j-eq-END.false (sym kind ∙ e)) v.if-depth-eq0.false)
          ]
    ]

pub returns-clause-value : goal.returns-clause-value
returns-clause-value c =
    let a = c.args in
    let loop = c.loop-j in
    counted-done (kinds a.tree.now) a.from.0 a.to.0 loop.j loop.depth loop.children loop.invariant (omega arith)
