-- The pusher that is found is the lowest step of the tree that is marked with the victim, and pushed the oldest step of its deque; since
-- it stands in the tree, all that is taken fits the tables.
use Rattle.std.proofs.Common.{◌≡◌, ◌<◌, length, arith}
use Rattle.std.proofs.Math.Option.{some}
use Rattle.rules.specs.Tree.{kinds}
use Rattle.tree.specs.Laws.Steps.{found_at, found_nothing}
use Rattle.policy.proofs.Laws.Parts.{pushes_most}
use Rattle.run_spec.specs.Deques.{oldest_mark}
use Rattle.run_spec.proofs.Laws.Marks.{oldest_before}
use Rattle.run_spec.proofs.Laws.Stealing.{takes_nothing, takes_step}
use Rattle.run_event.proofs.steal.take_step.Goals as goal
use Rattle.run_event.proofs.steal.take_step.Goals.{In-Some}

-- The pusher that is found.
found : (c : In-Some) → let a = c.args in oldest_mark a.place.now a.victim a.low.0 (length (kinds a.tree.now)) ≡ some c.in-Some.pusher.0
found c = found_at _ _ (rw (← c.steps-n.ensures) c.take.ensures.gives) c.in-Some.pusher c.in-Some.is

within : (c : In-Some) → c.in-Some.pusher.0 < length (kinds c.args.tree.now)
within c = oldest_before _ _ _ _ _ (found c)

pub pushed_by-step-requires : goal.pushed_by-step-requires
pushed_by-step-requires c = (within (goal.at.pushed_by-step-requires c).In-Some, c.requires.1)

pub ordinal_from-ordinal-requires : goal.ordinal_from-ordinal-requires
ordinal_from-ordinal-requires c =
    (omega (arith, within (goal.at.ordinal_from-ordinal-requires c).In-Some), c.requires.0)

pub returns-in-Some-clause-gives : goal.returns-in-Some-clause-gives
returns-in-Some-clause-gives c =
    takes_step _ _ _ _ _ _ (found (goal.at.returns-in-Some-clause-gives c).In-Some) c.pushed_by-step.ensures
    c.ordinal_from-ordinal.ensures.ordinal

pub returns-in-Some-clause-small : goal.returns-in-Some-clause-small
returns-in-Some-clause-small c =
    let a = c.args in
    let small = within (goal.at.returns-in-Some-clause-small c).In-Some in
    let most = pushes_most a.policy (kinds a.tree.now) c.in-Some.pusher.0 small in (
      omega (arith, small, c.requires.0),
      omega (arith, c.requires.0, c.pushed_by-step.ensures, most),
      c.ordinal_from-ordinal.ensures.small,
    )

pub returns-in-None-clause-gives : goal.returns-in-None-clause-gives
returns-in-None-clause-gives c =
    takes_nothing _ _ _ _ _ (found_nothing _ _ (rw (← c.steps-n.ensures) c.take.ensures.gives) c.in-None.is)
