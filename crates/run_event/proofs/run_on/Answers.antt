-- A refused run stores nothing; any other is by one of the workers, of a step of the tree, so `advance` gives the step that it holds
-- next and the places, and nothing else changes.
use Rattle.std.proofs.Common.{◌≤◌, ◌<◌, ℕ, List, length, get_or, refl, arith}
use Rattle.std.proofs.lemmas.Result.{err_from_is_err_and}
use Rattle.rules.specs.Tree.{kinds}
use Rattle.refusals.specs.Laws.Numbers.{number-some}
use Rattle.policy.proofs.Laws.Workers.{limit-below}
use Rattle.run_spec.specs.Moves.{Fields, fields_of}
use Rattle.run_spec.proofs.Laws.Running.{run_allowed}
use Rattle.run_spec.proofs.Laws.Moves.{lent_climbs, run_refused, run_runs}
use Rattle.run_event.proofs.run_on.Goals as goal
use Rattle.run_event.proofs.run_on.Goals.{Start, In_ok-judge_run}

-- The fields that are lent.
abbrev lent : Start → List ℕ → ℕ → Fields
lent c base steals =
    let a = c.args in
    fields_of a.place.now a.held.now a.phase.now a.low.now base steals a.setup

-- A run that is not refused is by one of the workers, of a step of the tree.
allowed : (c : In_ok-judge_run) → let a = c.args in
    (a.worker < 16) × (length (kinds a.tree.now) ≤ 4095) × (get_or a.held.now a.worker 0 < length (kinds a.tree.now))
allowed c =
    let a = c.args in
    let few = run_allowed a.setup.workers (kinds a.tree.now) a.place.now a.held.now a.worker c.in_ok-judge_run.ensures in
    (limit-below _ few.0, few.1, few.2)

pub returns-in_err-judge_run : goal.returns-in_err-judge_run
returns-in_err-judge_run c =
    let a = c.args in
    let p = err_from_is_err_and c.from_residual.result c.from_residual.ensures.1 in
    let some = number-some c.in_err-judge_run.field-0.0 in
    λ base steals. rw (p.1, p.2)
    (run_refused (lent (goal.at.returns-in_err-judge_run c).Start base steals) a.tree.now a.worker _ c.in_err-judge_run.ensures
    (λ z. omega (arith, some)))

pub bounds-held-w : goal.bounds-held-w
bounds-held-w c = (allowed (goal.at.bounds-held-w c).In_ok-judge_run).0

pub bounds-low-w : goal.bounds-low-w
bounds-low-w c = (allowed (goal.at.bounds-low-w c).In_ok-judge_run).0

pub advance-requires : goal.advance-requires
advance-requires c =
    let few = allowed (goal.at.advance-requires c).In_ok-judge_run in
    let i = c.wide in
    (omega (arith, few, i.ensures), few.1, c.requires.task_ends, lent_climbs c.requires few.0 i.ensures c.wide-2.ensures)

pub bounds-held-w-2 : goal.bounds-held-w-2
bounds-held-w-2 c = (allowed (goal.at.bounds-held-w-2 c).In_ok-judge_run).0

pub bounds-phase-w : goal.bounds-phase-w
bounds-phase-w c = (allowed (goal.at.bounds-phase-w c).In_ok-judge_run).0

pub returns : goal.returns
returns c =
    let a = c.args in
    let advance = c.advance in
    λ base steals. run_runs (lent (goal.at.returns c).Start base steals) a.tree.now a.worker _ c.in_ok-judge_run.ensures refl
    c.wide.result c.wide.ensures c.wide-3.result c.wide-3.ensures c.wide-2.result c.wide-2.ensures
    advance.result advance.ensures.gives advance.new.place advance.ensures.leaves
