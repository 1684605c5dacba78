-- The rules judge what the call is given as the code does, and nothing refuses after that.
use Rattle.std.proofs.Common.{refl, arith}
use Rattle.schedule.specs.Laws.Results.{starts, room, list-meets}
use Rattle.schedule.proofs.schedule.Goals as goal

pub make-requires : goal.make-requires
make-requires c =
    let a = c.args in
    record {
      accepted = starts _ _ a.tree.now a.seed a.events.now _ refl (grind arith);
      events_room = room a.setup.workers a.setup.policy a.tree.now a.seed a.events.now _ refl (grind arith);
    }

pub returns : goal.returns
returns c =
    let a = c.args in
    let so = list-meets _ _ a.tree.now a.seed a.events.now _ refl (grind arith) _ _ c.make.ensures in
    record { answers = so.0; events = so.1 }
