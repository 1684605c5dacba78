-- A step that opens a task marks itself with its worker, and holds and pushes by the policy; a step that ends one pops, and the pusher
-- that is found stands before it in the tree, so what it pushed is known.
use Rattle.std.proofs.Common.{◌≡◌, ◌<◌, length, sym, ◌∙◌, arith}
use Rattle.std.proofs.Math.Option.{some}
use Rattle.rules.specs.Tree.{kinds}
use Rattle.tree.specs.Laws.Highest.{highest-is}
use Rattle.tree.specs.Laws.Steps.{found_at, found_nothing}
use Rattle.policy.proofs.Laws.Parts.{holds_most, pushes_most}
use Rattle.run_spec.specs.Deques.{marked, newest_mark}
use Rattle.run_spec.proofs.Laws.Running.{next-opens, place-opens, next-pops, next-ends, place-ends}
use Rattle.run_event.proofs.run.advance.Goals as goal
use Rattle.run_event.proofs.run.advance.Goals.{In-Some}

-- The pusher that is found.
found : (c : In-Some) → let a = c.args in newest_mark a.place.now a.worker a.low.0 a.step.0 ≡ some c.in-Some.q.0
found c = found_at _ _ c.pop.ensures.gives c.in-Some.q c.in-Some.is

-- It stands in the tree.
before : (c : In-Some) → c.in-Some.q.0 < length (kinds c.args.tree.now)
before c =
    let a = c.args in
    let is = highest-is (marked a.place.now a.worker) a.low.0 a.step.0 c.in-Some.q.0 (found c) in
    omega (arith, c.requires.0, is.before)

pub overflow_cast-result : goal.overflow_cast-result
overflow_cast-result c =
    let a = c.args in
    omega (arith, c.held_after-held.ensures, c.requires.1, holds_most a.policy (kinds a.tree.now) a.step.0 c.requires.0)

pub returns-then-kind-ne-END-clause-gives : goal.returns-then-kind-ne-END-clause-gives
returns-then-kind-ne-END-clause-gives c =
    next-opens _ _ _ _ _ _ (λ e. c.if-kind-ne-END.true (c.kind.ensures ∙ e)) _ c.held_after-held.ensures

pub returns-then-kind-ne-END-clause-leaves : goal.returns-then-kind-ne-END-clause-leaves
returns-then-kind-ne-END-clause-leaves c =
    let a = c.args in
    c.push.ensures
    ∙ place-opens a.policy (kinds a.tree.now) a.place.now a.worker a.low.0 a.step.0 (λ e. c.if-kind-ne-END.true (c.kind.ensures ∙ e))

pub pushed_by-held-requires : goal.pushed_by-held-requires
pushed_by-held-requires c = (before (goal.at.pushed_by-held-requires c).In-Some, c.requires.2)

pub overflow_cast-result-in-Some : goal.overflow_cast-result-in-Some
overflow_cast-result-in-Some c =
    let a = c.args in
    let most = pushes_most a.policy (kinds a.tree.now) c.in-Some.q.0 (before (goal.at.overflow_cast-result-in-Some c).In-Some) in
    omega (arith, c.pushed_by-held.ensures, c.requires.1, most)

pub returns-in-Some-clause-gives : goal.returns-in-Some-clause-gives
returns-in-Some-clause-gives c =
    next-pops _ _ _ _ _ _ (sym c.kind.ensures ∙ c.if-kind-ne-END.false) _ (found (goal.at.returns-in-Some-clause-gives c).In-Some)
    _ c.pushed_by-held.ensures

pub returns-in-Some-clause-leaves : goal.returns-in-Some-clause-leaves
returns-in-Some-clause-leaves c =
    let a = c.args in
    place-ends a.policy _ _ _ _ _ (sym c.kind.ensures ∙ c.if-kind-ne-END.false) _ c.pop.ensures.marks

pub returns-in-None-clause-gives : goal.returns-in-None-clause-gives
returns-in-None-clause-gives c =
    next-ends _ _ _ _ _ _ (sym c.kind.ensures ∙ c.if-kind-ne-END.false) (found_nothing _ _ c.pop.ensures.gives c.in-None.is)

pub returns-in-None-clause-leaves : goal.returns-in-None-clause-leaves
returns-in-None-clause-leaves c =
    let a = c.args in
    place-ends a.policy _ _ _ _ _ (sym c.kind.ensures ∙ c.if-kind-ne-END.false) _ c.pop.ensures.marks
