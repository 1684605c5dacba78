-- A round runs a step, so what has not run falls; and when all has, the list in the making is the list made.
use Rattle.std.proofs.Common.{refl, arith}
use Rattle.run_spec.proofs.Laws.Moves.{fresh_arrays}
use Rattle.schedule_turn.proofs.Laws.Listing.{few_events}
use Rattle.schedule.specs.Laws.Rounding.{making_begins, making-falls, making-goes-on, making_ends}
use Rattle.schedule.proofs.rounds.make_events.Goals as goal

pub loop-turned-init : goal.loop-turned-init
loop-turned-init c =
    let a = c.args in
    (refl, making_begins a.setup a.tree.now a.events.now a.seed c.requires.accepted c.requires.events_room _ (fresh_arrays a.setup))

pub loop-turned-smaller : goal.loop-turned-smaller
loop-turned-smaller c = omega (arith, making-falls c.loop-turned.invariant.1 (omega arith) c.round-turned.ensures)

pub loop-turned-preserved : goal.loop-turned-preserved
loop-turned-preserved c = (omega arith, making-goes-on c.loop-turned.invariant.1 (omega arith) c.round-turned.ensures)

pub overflow_add-result : goal.overflow_add-result
overflow_add-result c = omega (arith, c.wide.ensures, few_events c.loop-turned.invariant.1.stands)

pub returns : goal.returns
returns c = rw c.wide.ensures (making_ends c.loop-turned.invariant.1 (omega arith))
