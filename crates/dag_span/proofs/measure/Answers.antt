-- The tables have room for an accepted tree, the walk writes the rules' chain, and what the root lasts is the span.
use Rattle.std.proofs.Common.{arith}
use Rattle.tree_scan.specs.Laws.Frames.{accepted-frame}
use Rattle.dag_span.specs.Laws.Results.{measured}
use Rattle.dag_span.proofs.measure.Goals as goal

pub fill-requires-clause-lasting_room : goal.fill-requires-clause-lasting_room
fill-requires-clause-lasting_room c = (accepted-frame c.args.tree.now c.requires.accepted).most

pub fill-requires-clause-ends_room : goal.fill-requires-clause-ends_room
fill-requires-clause-ends_room c = (accepted-frame c.args.tree.now c.requires.accepted).most

pub fill-requires-clause-openers_room : goal.fill-requires-clause-openers_room
fill-requires-clause-openers_room c = (accepted-frame c.args.tree.now c.requires.accepted).most

pub walk-length-requires-clause-tables : goal.walk-length-requires-clause-tables
walk-length-requires-clause-tables c =
    let most = (accepted-frame c.args.tree.now c.requires.accepted).most in
    record {
      accepts = c.requires.accepted;
      room_ends = omega (arith, most, c.fill.auto.ends);
      room_openers = omega (arith, most, c.fill.auto.openers);
      ends_are = c.fill.ensures.ends;
      openers_are = c.fill.ensures.openers;
    }

pub walk-length-requires-clause-lasted : goal.walk-length-requires-clause-lasted
walk-length-requires-clause-lasted c =
    let most = (accepted-frame c.args.tree.now c.requires.accepted).most in
    record { room = omega (arith, most, c.fill.auto.lasting); all = c.fill.ensures.lasting }

pub returns : goal.returns
returns c =
    let some = (accepted-frame c.args.tree.now c.requires.accepted).some in
    measured _ _ c.requires.accepted _ _ c.walk-length.ensures _ _ c.work.ensures (c.fill.ensures.lasting 0 (omega arith) some).0
