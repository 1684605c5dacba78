-- Of the arrays that the tables fill, the walk is lent the part that the tree has steps for.
use Rattle.std.proofs.Common.{◌≤◌, length, sym, arith}
use lib.Seq.{length-take-le}
use Rattle.rules.specs.Tree.{kinds}
use Rattle.tree_scan.specs.Laws.Starts.{start-tree-accepts}
use Rattle.tree_scan.specs.Laws.Frames.{Frame}
use Rattle.tree_tables.proofs.Laws.Fronts.{start-frame, ends_prefix, openers_prefix}
use Rattle.record.proofs.body.walk_events.Goals as goal
use Rattle.record.proofs.body.walk_events.Goals.{Start, After-fill}

frame : (c : Start) → Frame c.args.tree.now
frame c = start-frame c.args.setup.workers c.args.setup.policy c.args.tree.now c.requires.accepted

-- Either array has room for the steps.
room : (c : After-fill) → (c.steps-n.result ≤ length c.fill.new.ends) × (c.steps-n.result ≤ length c.fill.new.openers)
room c =
    let a = c.args in
    let most = (start-frame a.setup.workers a.setup.policy a.tree.now c.requires.accepted).most in
    (omega (arith, most, c.steps-n.ensures, c.fill.auto.ends), omega (arith, most, c.steps-n.ensures, c.fill.auto.openers))

pub fill-requires : goal.fill-requires
fill-requires c =
    let a = c.args in
    let most = (frame (goal.at.fill-requires c).Start).most in
    record {
      accepted = start-tree-accepts a.setup.workers a.setup.policy a.tree.now c.requires.accepted;
      ends_room = most;
      openers_room = most;
    }

pub add_up-requires : goal.add_up-requires
add_up-requires c =
    let one = frame (goal.at.add_up-requires c).Start in
    record { few_steps = one.most; sums_room = omega (arith, one.most); classed = one.class; zeroed = c.requires.zeroed }

pub slice_bounds-ends-end : goal.slice_bounds-ends-end
slice_bounds-ends-end c = (room (goal.at.slice_bounds-ends-end c).After-fill).0

pub slice_bounds-walk-end : goal.slice_bounds-walk-end
slice_bounds-walk-end c =
    sym (length-take-le c.steps-n.result c.fill.new.ends (room (goal.at.slice_bounds-walk-end c).After-fill).0)

pub slice_bounds-openers-end : goal.slice_bounds-openers-end
slice_bounds-openers-end c = (room (goal.at.slice_bounds-openers-end c).After-fill).1

pub slice_bounds-walk-end-2 : goal.slice_bounds-walk-end-2
slice_bounds-walk-end-2 c =
    sym (length-take-le c.steps-n.result c.fill.new.openers (room (goal.at.slice_bounds-walk-end-2 c).After-fill).1)

pub walk-requires-clause-ends : goal.walk-requires-clause-ends
walk-requires-clause-ends c =
    let n = c.steps-n in
    ends_prefix (kinds c.args.tree.now) _ n.result n.ensures (room (goal.at.walk-requires-clause-ends c).After-fill).0 c.fill.ensures.ends

pub walk-requires-clause-openers : goal.walk-requires-clause-openers
walk-requires-clause-openers c =
    let n = c.steps-n in
    openers_prefix (kinds c.args.tree.now) _ n.result n.ensures (room (goal.at.walk-requires-clause-openers c).After-fill).1
    c.fill.ensures.openers

pub walk-requires-clause-sums : goal.walk-requires-clause-sums
walk-requires-clause-sums c =
    let most = (frame (goal.at.walk-requires-clause-sums c).Start).most in
    (omega (arith, most, c.add_up.auto.sums), c.add_up.ensures.sums)
