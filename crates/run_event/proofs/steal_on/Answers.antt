-- A refused steal stores nothing, and one from an empty deque leaves the places as they were; any other takes the deque's oldest step,
-- tells its trace number and stores it for thief and victim.
use Rattle.std.proofs.Common.{◌≡◌, ◌≤◌, ◌<◌, length, refl, arith}
use Rattle.std.specs.Prelude.{Some, None}
use Rattle.std.proofs.lemmas.Result.{err_from_is_err_and}
use Rattle.rules.specs.Tree.{kinds}
use Rattle.refusals.specs.declared.Refusal.TheVariants.{Deque}
use Rattle.refusals.specs.Laws.Numbers.{number-some}
use Rattle.policy.proofs.Laws.Workers.{limit-below}
use Rattle.run_spec.specs.Moves.{Fields, fields_of}
use Rattle.run_spec.proofs.Laws.Stealing.{steal_allowed}
use Rattle.run_spec.proofs.Laws.Moves.{steal-refused, steal-empty, steal-takes}
use Rattle.run_event.proofs.steal_on.Goals as goal
use Rattle.run_event.proofs.steal_on.Goals.{Start, In_ok-judge_steal}

-- The fields that are lent.
abbrev lent : Start → Fields
lent c =
    let a = c.args in
    fields_of a.place.now a.held.now a.phase.now a.low.now a.base.now a.steals.now a.setup

-- A steal that is not refused is between two of the workers, in a tree that is not too long.
allowed : (c : In_ok-judge_steal) → let a = c.args in
    (a.thief < 16) × (a.victim < 16) × (length (kinds a.tree.now) ≤ 4095)
allowed c =
    let a = c.args in
    let few = steal_allowed a.setup.workers (kinds a.tree.now) a.held.now a.thief a.victim c.in_ok-judge_steal.ensures in
    (limit-below _ few.0, limit-below _ few.1, few.2)

pub returns-in_err-judge_steal : goal.returns-in_err-judge_steal
returns-in_err-judge_steal c =
    let a = c.args in
    let p = err_from_is_err_and c.from_residual.result c.from_residual.ensures.1 in
    let some = number-some c.in_err-judge_steal.field-0.0 in
    rw (p.1, p.2)
    (steal-refused (lent (goal.at.returns-in_err-judge_steal c).Start) a.tree.now a.thief a.victim _ c.in_err-judge_steal.ensures
    (λ z. omega (arith, some)))

pub bounds-low-v : goal.bounds-low-v
bounds-low-v c = (allowed (goal.at.bounds-low-v c).In_ok-judge_steal).1

pub bounds-base-v : goal.bounds-base-v
bounds-base-v c = (allowed (goal.at.bounds-base-v c).In_ok-judge_steal).1

pub take_step-taken-requires : goal.take_step-taken-requires
take_step-taken-requires c = ((allowed (goal.at.take_step-taken-requires c).In_ok-judge_steal).2, c.requires)

pub returns-in_err-stolen : goal.returns-in_err-stolen
returns-in_err-stolen c =
    let a = c.args in
    let took = c.take_step-taken in
    let none : took.result ≡ None = grind arith in
    let empty : c.in_err-stolen.field-0.0 ≡ Deque = grind arith in
    let p = err_from_is_err_and c.from_residual-in_err-stolen.result c.from_residual-in_err-stolen.ensures.1 in
    rw (p.1, p.2, empty)
    (steal-empty (lent (goal.at.returns-in_err-stolen c).Start) a.tree.now a.thief a.victim _ c.in_ok-judge_steal.ensures refl
    c.wide.result c.wide.ensures c.wide-2.result c.wide-2.ensures took.new.place took.ensures.leaves took.result took.ensures.gives none)

pub settle-requires : goal.settle-requires
settle-requires c =
    let few = allowed (goal.at.settle-requires c).In_ok-judge_steal in
    let took = c.take_step-taken in
    let is : took.result ≡ Some c.in_ok-stolen.stolen = grind arith in
    (few.0, few.1, rw is at took.ensures.small, omega (arith, c.wide-3.ensures))

pub returns : goal.returns
returns c =
    let a = c.args in
    let took = c.take_step-taken in
    let x = c.in_ok-stolen.stolen in
    let is : took.result ≡ Some x = grind arith in
    let settled = c.settle.ensures in
    let begun = rw c.wide-3.ensures at settled.phase in
    steal-takes (lent (goal.at.returns c).Start) a.tree.now a.thief a.victim _ c.in_ok-judge_steal.ensures refl
    c.wide.result c.wide.ensures c.wide-2.result c.wide-2.ensures took.new.place took.ensures.leaves
    took.result took.ensures.gives x is c.trace_number.result c.trace_number.ensures _ refl
    _ _ _ _ settled.held begun settled.low settled.base
