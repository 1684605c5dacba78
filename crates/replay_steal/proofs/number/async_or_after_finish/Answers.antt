-- The kind of the step before tells an async child's first step, and the table of openers tells a step after a finish child. Step 0
-- is neither.
use Rattle.std.proofs.Common.{◌∙◌, sym, arith}
use Rattle.rules.specs.Tree.{kinds}
use Rattle.replay_spec.proofs.Laws.Naming.{pushable-first, pushable_async, pushable_finish, pushable-none}
use Rattle.replay_steal.proofs.number.async_or_after_finish.Goals as goal

pub returns-then-s-eq0 : goal.returns-then-s-eq0
returns-then-s-eq0 c = pushable-first (kinds c.args.tree.now) c.args.step.0 c.if-s-eq0.true

pub returns-then-kind-eq-ASYNC : goal.returns-then-kind-eq-ASYNC
returns-then-kind-eq-ASYNC c =
    pushable_async (kinds c.args.tree.now) c.args.step.0 (omega arith) (sym c.kind.ensures ∙ c.if-kind-eq-ASYNC.true)

pub returns-in-Some : goal.returns-in-Some
returns-in-Some c =
    pushable_finish (kinds c.args.tree.now) c.args.step.0 c.in-Some.first (sym c.finish_by.ensures ∙ c.in-Some.is)

pub returns-in-None : goal.returns-in-None
returns-in-None c =
    pushable-none (kinds c.args.tree.now) c.args.step.0 (omega arith) (λ e. c.if-kind-eq-ASYNC.false (c.kind.ensures ∙ e))
    (sym c.finish_by.ensures ∙ c.in-None.is)
