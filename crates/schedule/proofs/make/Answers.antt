-- Of the arrays that the tables fill, the rounds are lent the part that the tree has steps for: either array has room for them.
use Rattle.std.proofs.Common.{sym, arith, length-take-le}
use Rattle.rules.specs.Tree.{kinds}
use Rattle.tree_scan.specs.Laws.Starts.{start-tree-accepts}
use Rattle.tree_tables.proofs.Laws.Fronts.{start-frame, ends_prefix, openers_prefix}
use Rattle.schedule.proofs.make.Goals as goal

pub fill-requires : goal.fill-requires
fill-requires c =
    let most = (start-frame _ _ _ c.requires.accepted).most in
    record { accepted = start-tree-accepts _ _ _ c.requires.accepted; ends_room = most; openers_room = most }

pub slice_bounds-ends-end : goal.slice_bounds-ends-end
slice_bounds-ends-end c = omega (arith, (start-frame _ _ _ c.requires.accepted).most)

pub slice_bounds-make_events-end : goal.slice_bounds-make_events-end
slice_bounds-make_events-end c =
    sym (length-take-le c.steps-n.result c.fill.new.ends (omega (arith, (start-frame _ _ _ c.requires.accepted).most)))

pub slice_bounds-openers-end : goal.slice_bounds-openers-end
slice_bounds-openers-end c = omega (arith, (start-frame _ _ _ c.requires.accepted).most)

pub slice_bounds-make_events-end-2 : goal.slice_bounds-make_events-end-2
slice_bounds-make_events-end-2 c =
    sym (length-take-le c.steps-n.result c.fill.new.openers (omega (arith, (start-frame _ _ _ c.requires.accepted).most)))

pub make_events-requires-clause-ends : goal.make_events-requires-clause-ends
make_events-requires-clause-ends c =
    let most = (start-frame _ _ _ c.requires.accepted).most in
    ends_prefix (kinds c.args.tree.now) _ _ c.steps-n.ensures (omega arith) c.fill.ensures.ends

pub make_events-requires-clause-openers : goal.make_events-requires-clause-openers
make_events-requires-clause-openers c =
    let most = (start-frame _ _ _ c.requires.accepted).most in
    openers_prefix (kinds c.args.tree.now) _ _ c.steps-n.ensures (omega arith) c.fill.ensures.openers
