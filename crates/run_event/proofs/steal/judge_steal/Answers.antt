-- It asks for the thief, the victim and the tree before it looks at what the thief holds, so the first refusal that applies is given,
-- and an idle thief gets none.
use Rattle.std.proofs.Common.{◌≡◌, ◌<◌, ℕ, Bool, false, leb, arith, sym, ◌∙◌, leb-true, leb-false}
use Rattle.rules.specs.Tree.{kinds}
use Rattle.policy.specs.Contract.{worker_limit}
use Rattle.policy.proofs.Laws.Workers.{limit-below}
use Rattle.run_spec.proofs.Laws.Stealing.{judged-thief, judged-victim, judged-long, judged-busy, judged-idle}
use Rattle.run_event.proofs.steal.judge_steal.Goals as goal
use Rattle.run_event.proofs.steal.judge_steal.Goals.{then-no_worker-via-then-no_worker, then-no_worker-via-else-no_worker+then-no_worker-2}

-- A worker that the run has.
few : (workers worker : ℕ) {far : Bool} → far ≡ leb (worker_limit workers) worker → far ≡ false → worker < worker_limit workers
few workers worker judged is = leb-false (worker_limit workers) worker (sym judged ∙ is)

pub returns-then-no_worker : goal.returns-then-no_worker
returns-then-no_worker c =
    let a = c.args in
    elim c.then-no_worker.branch [
      | then-no_worker-via-then-no_worker w ↦
          judged-thief a.workers (kinds a.tree.now) a.held.now a.thief a.victim
          (leb-true (worker_limit a.workers) a.thief (sym c.no_worker.ensures ∙ w.if-no_worker.true))
      | then-no_worker-via-else-no_worker+then-no_worker-2 w ↦
          judged-victim a.workers (kinds a.tree.now) a.held.now a.thief a.victim
          (leb-true (worker_limit a.workers) a.victim (sym w.no_worker-else-no_worker.ensures ∙ w.if-no_worker-2.true))
    ]

pub returns-then-n-gt-MOST_STEPS : goal.returns-then-n-gt-MOST_STEPS
returns-then-n-gt-MOST_STEPS c =
    let a = c.args in
    judged-long a.workers (kinds a.tree.now) a.held.now a.thief a.victim (few _ _ c.no_worker.ensures c.if-no_worker.false)
    (few _ _ c.no_worker-else-no_worker.ensures c.if-no_worker-2.false) (omega arith)

pub bounds-held-t : goal.bounds-held-t
bounds-held-t c = limit-below _ (few _ _ c.no_worker.ensures c.if-no_worker.false)

pub returns-then-wide-n : goal.returns-then-wide-n
returns-then-wide-n c =
    let a = c.args in
    judged-busy a.workers (kinds a.tree.now) a.held.now a.thief a.victim (few _ _ c.no_worker.ensures c.if-no_worker.false)
    (few _ _ c.no_worker-else-no_worker.ensures c.if-no_worker-2.false) (omega arith) c.wide.result c.wide.ensures (omega arith)

pub returns : goal.returns
returns c =
    let a = c.args in
    judged-idle a.workers (kinds a.tree.now) a.held.now a.thief a.victim (few _ _ c.no_worker.ensures c.if-no_worker.false)
    (few _ _ c.no_worker-else-no_worker.ensures c.if-no_worker-2.false) (omega arith) c.wide.result c.wide.ensures (omega arith)
