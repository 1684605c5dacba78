-- The refusals are asked in the order in which the definition lists them, so the first that applies is given. A held step that is not
-- asked whether it waits stands in the table of openers and not at `low`, and such a step does not wait.
use Rattle.std.proofs.Common.{◌≡◌, ◌<◌, ℕ, Bool, false, List, leb, arith, sym, ap, refl, ◌∙◌, leb-true, leb-false}
use Rattle.std.proofs.Math.Bool.{not}
use Rattle.std.proofs.Math.Option.{Option, none, some}
use Rattle.std.specs.Prelude.{is_some}
use Rattle.rules.specs.Tree.{kinds}
use Rattle.tree.specs.Steps.{MaybeStep, maybe_step}
use Rattle.tree.specs.Laws.Highest.{nothing}
use Rattle.policy.specs.Contract.{worker_limit}
use Rattle.policy.proofs.Laws.Workers.{limit-below}
use Rattle.run_spec.specs.Running.{waits_for, awaits, run_number}
use Rattle.run_spec.proofs.Laws.Waiting.{waits-at_low, waits-awaits}
use Rattle.run_spec.proofs.Laws.Running.{judged-worker, judged-long, judged-idle, judged-waits, judged-runs}
use Rattle.run_event.proofs.run.judge_run.Goals as goal
use Rattle.run_event.proofs.run.judge_run.Goals.{Else-n-i}

-- A worker that the run has.
few : (workers worker : ℕ) {far : Bool} → far ≡ leb (worker_limit workers) worker → far ≡ false → worker < worker_limit workers
few workers worker judged is = leb-false (worker_limit workers) worker (sym judged ∙ is)

-- A step waits exactly where there is a step that it waits for.
asked : (ks place : List ℕ) (i : ℕ) (r : MaybeStep) → r ≡ maybe_step (awaits ks place i) → is_some r ≡ waits_for ks place i
unfolding maybe_step nothing
asked ks place i r e = ap is_some e ∙ by (awaits ks place i) ∙ sym (waits-awaits ks place i)
  where
    by : (o : Option ℕ) → is_some (maybe_step o) ≡ not (nothing o)
    by none = refl
    by (some j) = refl

-- A held step that does not wait.
runs : (c : Else-n-i)
    → waits_for (kinds c.args.tree.now) c.args.place.now c.wide-i.result ≡ false
    → 0 ≡ run_number c.args.workers (kinds c.args.tree.now) c.args.place.now c.args.held.now c.args.worker
runs c free =
    let a = c.args in
    judged-runs a.workers (kinds a.tree.now) a.place.now a.held.now a.worker (few _ _ c.no_worker.ensures c.if-no_worker.false)
    (omega arith) c.wide-i.result c.wide-i.ensures (omega arith) free

pub returns-then-no_worker : goal.returns-then-no_worker
returns-then-no_worker c =
    let a = c.args in
    judged-worker a.workers (kinds a.tree.now) a.place.now a.held.now a.worker
    (leb-true (worker_limit a.workers) a.worker (sym c.no_worker.ensures ∙ c.if-no_worker.true))

pub returns-then-n-gt-MOST_STEPS : goal.returns-then-n-gt-MOST_STEPS
returns-then-n-gt-MOST_STEPS c =
    let a = c.args in
    judged-long a.workers (kinds a.tree.now) a.place.now a.held.now a.worker (few _ _ c.no_worker.ensures c.if-no_worker.false)
    (omega arith)

pub bounds-held-w : goal.bounds-held-w
bounds-held-w c = limit-below _ (few _ _ c.no_worker.ensures c.if-no_worker.false)

pub returns-then-n-i : goal.returns-then-n-i
returns-then-n-i c =
    let a = c.args in
    judged-idle a.workers (kinds a.tree.now) a.place.now a.held.now a.worker (few _ _ c.no_worker.ensures c.if-no_worker.false)
    (omega arith) c.wide-i.result c.wide-i.ensures (omega arith)

pub bounds-low-w : goal.bounds-low-w
bounds-low-w c = limit-below _ (few _ _ c.no_worker.ensures c.if-no_worker.false)

pub returns-then-not-may_wait : goal.returns-then-not-may_wait
returns-then-not-may_wait c =
    let a = c.args in
    runs (goal.at.returns-then-not-may_wait c).Else-n-i
    (waits-at_low (kinds a.tree.now) a.openers.now a.place.now a.held.now a.low.now a.worker
    (c.requires.waits_at_low (limit-below _ (few _ _ c.no_worker.ensures c.if-no_worker.false)))
    c.wide-i.result c.wide-i.ensures c.wide.result c.wide.ensures (sym c.may_wait.ensures ∙ c.if-not-may_wait.true))

pub returns-then-is_some : goal.returns-then-is_some
returns-then-is_some c =
    let a = c.args in
    judged-waits a.workers (kinds a.tree.now) a.place.now a.held.now a.worker (few _ _ c.no_worker.ensures c.if-no_worker.false)
    (omega arith) c.wide-i.result c.wide-i.ensures (omega arith)
    (sym (asked (kinds a.tree.now) a.place.now c.wide-i.result c.awaits.result c.awaits.ensures)
    ∙ sym c.is_some.ensures ∙ c.if-is_some.true)

pub returns : goal.returns
returns c =
    let a = c.args in
    runs (goal.at.returns c).Else-n-i
    (sym (asked (kinds a.tree.now) a.place.now c.wide-i.result c.awaits.result c.awaits.ensures)
    ∙ sym c.is_some.ensures ∙ c.if-is_some.false)
