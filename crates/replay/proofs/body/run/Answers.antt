-- The tables are filled and all labels free, so the walk is the rules'; where it accepts every record and the caller is not full, the
-- labels and first steps that it leaves are those of the phases that the run list is written from.
use Rattle.std.proofs.Common.{ℕ, ◌≡◌, ◌≤◌, ◌∙◌, ◌++◌, List, length, take, replicate, refl, sym, ap, arith, length-take-le, take_at}
use Rattle.std.proofs.lemmas.Result.{err_from_is_err_and}
use Rattle.rules.specs.Tree.{kinds}
use Rattle.tree_scan.specs.Laws.Starts.{start-tree-accepts}
use Rattle.tree_scan.specs.Laws.Frames.{Frame}
use Rattle.tree_tables.specs.Terms.{Ends}
use Rattle.tree_tables.proofs.Laws.Fronts.{start-frame, ends_prefix, openers_prefix}
use Rattle.replay.specs.Body.Laws.Results.{take-replicate, lost-outcome, full-outcome}
use Rattle.replay.specs.Body.Laws.Results.{done-asked, done-outcome}
use Rattle.replay.proofs.body.run.Goals as goal
use Rattle.replay.proofs.body.run.Goals.{Start, After-fill, In_ok-walked}

-- ---- what is known at a place

frame : (c : Start) → Frame c.args.tree.now
frame c = start-frame _ _ c.args.tree.now c.requires.admitted.started

most : (c : Start) → length (kinds c.args.tree.now) ≤ 4095
most c = (frame c).most

-- An array has room for the steps.
fits : (c : Start) {m : ℕ} → m ≡ 4095 → c.args.n ≤ m
fits c e = omega (arith, most c, c.requires.admitted.steps, e)

-- Past the tables.
ends-room : (c : After-fill) → c.args.n ≤ length c.fill.new.ends
ends-room c = fits (goal.at.After-fill c).Start c.fill.auto.ends

openers-room : (c : After-fill) → c.args.n ≤ length c.fill.new.openers
openers-room c = fits (goal.at.After-fill c).Start c.fill.auto.openers

ends-lent : (c : After-fill)
    → let ks = kinds c.args.tree.now in
    let ends = take c.args.n c.fill.new.ends in
    (length ends ≡ length ks) × Ends ks ends (length ends)
ends-lent c = ends_prefix (kinds c.args.tree.now) c.fill.new.ends c.args.n c.requires.admitted.steps (ends-room c) c.fill.ensures.ends

-- ---- the tables

pub fill-requires-clause-accepted : goal.fill-requires-clause-accepted
fill-requires-clause-accepted c = start-tree-accepts _ _ c.args.tree.now c.requires.admitted.started

pub fill-requires-clause-ends_room : goal.fill-requires-clause-ends_room
fill-requires-clause-ends_room c = most (goal.at.fill-requires-clause-ends_room c).Start

pub fill-requires-clause-openers_room : goal.fill-requires-clause-openers_room
fill-requires-clause-openers_room c = most (goal.at.fill-requires-clause-openers_room c).Start

pub add_up-requires-clause-few_steps : goal.add_up-requires-clause-few_steps
add_up-requires-clause-few_steps c = most (goal.at.add_up-requires-clause-few_steps c).Start

pub add_up-requires-clause-sums_room : goal.add_up-requires-clause-sums_room
add_up-requires-clause-sums_room c = omega (arith, most (goal.at.add_up-requires-clause-sums_room c).Start)

pub add_up-requires-clause-classed : goal.add_up-requires-clause-classed
add_up-requires-clause-classed c = (frame (goal.at.add_up-requires-clause-classed c).Start).class

-- ---- the walk

pub slice_bounds-ends-end : goal.slice_bounds-ends-end
slice_bounds-ends-end c = ends-room (goal.at.slice_bounds-ends-end c).After-fill

pub slice_bounds-walk-end : goal.slice_bounds-walk-end
slice_bounds-walk-end c =
    sym (length-take-le c.args.n c.fill.new.ends (ends-room (goal.at.slice_bounds-walk-end c).After-fill))

pub slice_bounds-openers-end : goal.slice_bounds-openers-end
slice_bounds-openers-end c = openers-room (goal.at.slice_bounds-openers-end c).After-fill

pub slice_bounds-walk-end-2 : goal.slice_bounds-walk-end-2
slice_bounds-walk-end-2 c =
    sym (length-take-le c.args.n c.fill.new.openers (openers-room (goal.at.slice_bounds-walk-end-2 c).After-fill))

pub slice_bounds-labels-end : goal.slice_bounds-labels-end
slice_bounds-labels-end c = fits (goal.at.slice_bounds-labels-end c).Start refl

pub slice_bounds-walk-end-4 : goal.slice_bounds-walk-end-4
slice_bounds-walk-end-4 c =
    sym (length-take-le c.args.n (replicate 4095 65535) (fits (goal.at.slice_bounds-walk-end-4 c).Start refl))

pub walk-requires-clause-ends : goal.walk-requires-clause-ends
walk-requires-clause-ends c = ends-lent (goal.at.walk-requires-clause-ends c).After-fill

pub walk-requires-clause-openers : goal.walk-requires-clause-openers
walk-requires-clause-openers c =
    let at = (goal.at.walk-requires-clause-openers c).After-fill in
    openers_prefix (kinds c.args.tree.now) c.fill.new.openers c.args.n c.requires.admitted.steps (openers-room at) c.fill.ensures.openers

pub walk-requires-clause-sums : goal.walk-requires-clause-sums
walk-requires-clause-sums c =
    (omega (arith, most (goal.at.walk-requires-clause-sums c).Start, c.add_up.auto.sums), c.add_up.ensures.sums)

pub walk-requires-clause-fresh : goal.walk-requires-clause-fresh
walk-requires-clause-fresh c =
    let room = fits (goal.at.walk-requires-clause-fresh c).Start refl in
    (take-replicate c.args.n 4095 65535 room ∙ ap (λ (m : ℕ). replicate m 65535) c.requires.admitted.steps, refl)

-- ---- a refusal

pub returns-in_err-walked : goal.returns-in_err-walked
returns-in_err-walked c =
    let p = err_from_is_err_and c.from_residual.result c.from_residual.ensures.1 in
    rw (p.1, p.2) (lost-outcome c.requires.admitted c.in_err-walked.ensures _)

pub returns-then-full : goal.returns-then-full
returns-then-full c = rw c.into.ensures (full-outcome c.requires.admitted c.in_ok-walked.ensures c.if-full.true _)

-- ---- the run list

-- The walk leaves as many labels as it is lent, so the front of the array is those.
same : (c : In_ok-walked) (rest : List ℕ) → take c.args.n (c.walk.new.labels ++ rest) ≡ c.walk.new.labels
same c rest = take_at c.walk.new.labels rest c.args.n (c.in_ok-walked.ensures.sizes.0 ∙ sym c.requires.admitted.steps)

pub write_list-requires-clause-accepted : goal.write_list-requires-clause-accepted
write_list-requires-clause-accepted c =
    let at = (goal.at.write_list-requires-clause-accepted c).After-fill in
    (start-tree-accepts _ _ c.args.tree.now c.requires.admitted.started, (ends-lent at).1)

pub write_list-requires-clause-listable : goal.write_list-requires-clause-listable
write_list-requires-clause-listable c =
    let at = (goal.at.write_list-requires-clause-listable c).In_ok-walked in
    (done-asked c.requires.admitted c.in_ok-walked.ensures _ (same at _)).1

pub returns : goal.returns
returns c =
    let at = (goal.at.returns c).In_ok-walked in
    let so = c.in_ok-walked.ensures in
    done-outcome c.requires.admitted so c.if-full.false _ (same at _) c.write_list.new.list _ c.write_list.ensures c.add_up.ensures.classes
