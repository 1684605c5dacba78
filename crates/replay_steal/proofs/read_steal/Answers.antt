use Rattle.std.proofs.Common.{◌≡◌, refl, sym, ◌∙◌, arith, get_or}
use Rattle.std.specs.Prelude.{true, false}
use Rattle.rules.specs.Tree.{kinds}
use Rattle.tree.specs.Steps.{maybe_step}
use Rattle.tree.specs.Laws.Steps.{found_at}
use Rattle.tree_scan.specs.Laws.Frames.{accepted-frame}
use Rattle.replay_spec.specs.Naming.{step_named}
use Rattle.replay_spec.proofs.Laws.Naming.{step_within}
use Rattle.replay_spec.proofs.Laws.Taking.{table_upward, read_unnamed, read-elsewhere, read-there}
use Rattle.replay_steal.proofs.read_steal.Goals as goal
use Rattle.replay_steal.proofs.read_steal.Goals.{After-step_named}

-- What the number names in the phase, by the tables' step and ordinal.
named : (c : After-step_named)
    → let a = c.args in
    let base = get_or a.bases.now a.phase.0 0 in
    let ordinal = get_or a.ordinals.now a.phase.0 0 in
    c.step_named.result ≡ maybe_step (step_named (kinds a.tree.now) base ordinal a.number)
named c = rw (← c.wide-2.ensures, ← c.wide.ensures) c.step_named.ensures

-- It names no step.
pub returns-in_err-step : goal.returns-in_err-step
returns-in_err-step c =
    let is = named (goal.at.returns-in_err-step c).After-step_named in
    rw c.from_residual.ensures (read_unnamed _ _ _ _ c.step_named.result is c.in_err-step.was _)

-- A step that it names is a step of the tree, so it has a label.
pub take-requires-clause-step : goal.take-requires-clause-step
take-requires-clause-step c =
    let a = c.args in
    let start = c.requires.base in
    let openers = c.requires.openers in
    let frame = accepted-frame a.tree.now start.0 in
    let step = c.in_ok-step.step in
    let is = named (goal.at.take-requires-clause-step c).After-step_named in
    let within = step_within (kinds a.tree.now) frame.shape _ _ step.0 a.number start.2 (found_at _ _ is step c.in_ok-step.was) in
    (omega (arith, within, openers.0), omega (arith, openers.0, c.requires.labels.0), table_upward _ a.openers.now openers.1)

-- The labels tell whether it can be stolen from the phase.
pub returns-then-not-take : goal.returns-then-not-take
returns-then-not-take c =
    let is = named (goal.at.returns-then-not-take c).After-step_named in
    read-elsewhere _ _ _ _ c.in_ok-step.step (sym is ∙ c.in_ok-step.was) false _ c.if-not-take.ensures refl

pub returns : goal.returns
returns c =
    let is = named (goal.at.returns c).After-step_named in
    read-there _ _ _ _ c.in_ok-step.step (sym is ∙ c.in_ok-step.was) true _ c.if-not-take.ensures refl
