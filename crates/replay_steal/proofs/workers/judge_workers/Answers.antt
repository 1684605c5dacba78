-- The workers are asked in the order in which the rules judge a record, and the table, which has every worker that a count can give,
-- has the free number exactly for one without a phase.
use Rattle.std.proofs.Common.{◌≡◌, false, leb, sym, ◌∙◌, arith}
use borrow.Author.Tests.{leb-false}
use Rattle.policy.specs.Contract.{worker_limit}
use Rattle.policy.proofs.Laws.Workers.{limit_most}
use Rattle.replay_spec.proofs.Laws.Workers.{thief-refused, victim-refused, same-refused, unseen-refused, none-refused}
use Rattle.replay_steal.proofs.workers.judge_workers.Goals as goal
use Rattle.replay_steal.proofs.workers.judge_workers.Goals.{Else-no_worker-2}

-- Both workers are in the run.
thief_fine : (c : Else-no_worker-2) → leb (worker_limit c.args.workers) c.args.thief ≡ false
thief_fine c = sym c.no_worker.ensures ∙ c.if-no_worker.false

victim_fine : (c : Else-no_worker-2) → leb (worker_limit c.args.workers) c.args.victim ≡ false
victim_fine c = sym c.no_worker-2.ensures ∙ c.if-no_worker-2.false

pub returns-then-no_worker : goal.returns-then-no_worker
returns-then-no_worker c = thief-refused _ _ _ _ (sym c.no_worker.ensures ∙ c.if-no_worker.true)

pub returns-then-no_worker-2 : goal.returns-then-no_worker-2
returns-then-no_worker-2 c = victim-refused _ _ _ _ (sym c.no_worker-2.ensures ∙ c.if-no_worker-2.true)

pub returns-then-thief-victim : goal.returns-then-thief-victim
returns-then-thief-victim c =
    let at = (goal.at.returns-then-thief-victim c).Else-no_worker-2 in
    same-refused _ _ _ _ (thief_fine at) (victim_fine at) c.if-thief-victim.true

pub bounds-latest-victim : goal.bounds-latest-victim
bounds-latest-victim c =
    let a = c.args in
    let limit = worker_limit a.workers in
    omega (arith, leb-false limit a.victim (victim_fine (goal.at.bounds-latest-victim c).Else-no_worker-2), limit_most a.workers)

pub returns-then-latest-victim : goal.returns-then-latest-victim
returns-then-latest-victim c =
    let at = (goal.at.returns-then-latest-victim c).Else-no_worker-2 in
    unseen-refused _ _ _ _ (thief_fine at) (victim_fine at) c.if-thief-victim.false c.if-latest-victim.true

pub returns : goal.returns
returns c =
    let at = (goal.at.returns c).Else-no_worker-2 in
    none-refused _ _ _ _ (thief_fine at) (victim_fine at) c.if-thief-victim.false c.if-latest-victim.false
