-- A record is of the phase at hand or ends it, and behind the last one only the load at hand is left. At most 4,095 weights of 32 bits
-- stay below 2 to the power 44.
use Rattle.std.proofs.Common.{◌∙◌}
use Rattle.rules.specs.Tree.{weights}
use Rattle.histogram_phases.proofs.Laws.Passes.{adding_start, adding-own, adding-next, adding-done}
use Rattle.histogram_phases.proofs.add_phases.Goals as goal
use Rattle.histogram_phases.proofs.add_phases.Goals.{then-next-phase, else-next-phase}

pub loop-i-init : goal.loop-i-init
loop-i-init c = adding_start (weights c.args.tree.now) c.args.list.now c.args.n c.args.counts.now

pub loop-i-preserved : goal.loop-i-preserved
loop-i-preserved c =
    let ws = weights c.args.tree.now in
    let list = c.args.list.now in
    let so = c.loop-i.invariant in
    let next = c.number_at-next.ensures in
    let step = c.number_at.ensures in
    let weight = c.weight-weight in
    elim c.if-next-phase.branch [
      | then-next-phase w ↦
          rw (w.counts-is, w.phase-is, w.load-is)
          (adding-own ws list c.args.n so c.loop-i-test.true next step weight.ensures weight.type_inv w.if-next-phase.true)
      | else-next-phase w ↦
          rw (w.counts-is, w.phase-is, w.load-is)
          (adding-next ws list c.args.n so c.loop-i-test.true next step weight.ensures weight.type_inv w.if-next-phase.false
          w.add_load.ensures)
    ]

pub returns : goal.returns
returns c =
    c.add_load-2.ensures
    ∙ adding-done (weights c.args.tree.now) c.args.list.now c.args.n c.loop-i.invariant c.loop-i-test.false
