-- A worker that the run does not have, and the idle worker itself, have a deque of no step, so the length alone tells whether the
-- worker drawn can be robbed; and where it can, the call on the arrays robs it.
use Rattle.std.proofs.Common.{refl, arith}
use Rattle.schedule_turn.proofs.Laws.Listing.{few_events}
use Rattle.schedule_turn.proofs.Laws.Turning.{miss-stands, hit-fits, hit-stands}
use Rattle.schedule_turn.proofs.steal_turn.Goals as goal

pub returns-then-size-eq0 : goal.returns-then-size-eq0
returns-then-size-eq0 c =
    let given = c.requires.worker in
    record {
      shown = λ lent m stands.
          miss-stands stands _ given.0 given.1 _ _ c.next_seed-seed.ensures c.named-victim.ensures.0 c.if-size-eq0.true;
    }

pub overflow_add-runs : goal.overflow_add-runs
overflow_add-runs c = omega (arith, c.wide.ensures, few_events c.requires.standing.stands)

pub put_event-requires : goal.put_event-requires
put_event-requires c =
    let given = c.requires.worker in
    rw c.wide.ensures
    (hit-fits c.requires.standing.stands _ given.0 given.1 _ _ c.next_seed-seed.ensures c.named-victim.ensures.0 c.if-size-eq0.false)

pub returns : goal.returns
returns c =
    let given = c.requires.worker in
    record {
      shown = λ lent m stands.
          hit-stands stands _ given.0 given.1 _ _ c.next_seed-seed.ensures c.named-victim.ensures.0 c.if-size-eq0.false
          _ _ c.steal_on.ensures _ _ refl (rw c.wide.ensures at c.put_event.ensures);
    }
