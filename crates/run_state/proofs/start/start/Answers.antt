-- `judge_start` gives the rules' verdict on policy, count and tree; beside a refusal the state is all zeros, and an accepted start has
-- position 0 and the first state.
use Rattle.std.proofs.Common.{refl, arith}
use Rattle.std.proofs.lemmas.Result.{err_from_is_err_and}
use Rattle.refusals.specs.Laws.Numbers.{number-some}
use Rattle.run_state.specs.Laws.Cases.{start-refused, start-accepts}
use Rattle.run_state.proofs.start.start.Goals as goal

pub returns-in_err-judge_start : goal.returns-in_err-judge_start
returns-in_err-judge_start c =
    let a = c.args in
    let p = err_from_is_err_and c.from_residual.result c.from_residual.ensures.1 in
    let some = number-some c.in_err-judge_start.field-0.0.refusal in
    rw (p.1, p.2)
    (start-refused a.setup.workers a.setup.policy a.tree.now _ c.in_err-judge_start.ensures (λ z. omega (arith, some)) _ refl)

pub returns : goal.returns
returns c =
    let a = c.args in
    start-accepts a.setup.workers a.setup.policy a.tree.now _ c.in_ok-judge_start.ensures refl c.first_state.result c.first_state.ensures
