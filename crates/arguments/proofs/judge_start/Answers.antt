-- A policy below 1 or above 2 is refused, then a count of 0 or above 16; that for all others the tree decides, the check finds alone.
use Rattle.std.proofs.Common.{ℕ, arith, inl, inr, ◌≤◌, ◌≡◌}
use Rattle.arguments.specs.Laws.Starts.{start_policy, start-count}
use Rattle.arguments.proofs.judge_start.Goals as goal
use Rattle.arguments.proofs.judge_start.Goals.{then-setup-lt-WORK_FIRST-via-then-setup-lt-WORK_FIRST, then-setup-lt-WORK_FIRST-via-else-setup-lt-WORK_FIRST+then-setup-gt-HELP_FIRST}
use Rattle.arguments.proofs.judge_start.Goals.{then-workers-eq0-via-then-workers-eq0, then-workers-eq0-via-else-workers-eq0+then-workers-gt-WORKERS}

pub returns-then-setup-lt-WORK_FIRST : goal.returns-then-setup-lt-WORK_FIRST
returns-then-setup-lt-WORK_FIRST c =
    let a = c.args in
    let other : (k : ℕ) → 1 ≤ k → k ≤ 2 → a.setup.policy ≡ k → ⊥ =
    λ k low high e. elim c.then-setup-lt-WORK_FIRST.branch [
      | then-setup-lt-WORK_FIRST-via-then-setup-lt-WORK_FIRST w ↦ omega (arith, w.if-setup-lt-WORK_FIRST.true)
      | then-setup-lt-WORK_FIRST-via-else-setup-lt-WORK_FIRST+then-setup-gt-HELP_FIRST w ↦ omega (arith, w.if-setup-gt-HELP_FIRST.true)
    ]
    in
    rw c.into.ensures
    (start_policy a.setup.workers a.setup.policy a.tree.now (other 1 (omega arith) (omega arith)) (other 2 (omega arith) (omega arith)))

pub returns-then-workers-eq0 : goal.returns-then-workers-eq0
returns-then-workers-eq0 c =
    let a = c.args in
    let one_of : (1 ≤ a.setup.policy) × (a.setup.policy ≤ 2) = (omega (arith, c.if-setup-lt-WORK_FIRST.false), omega (arith, c.if-setup-gt-HELP_FIRST.false)) in
    rw c.into-then-workers-eq0.ensures
    (start-count a.setup.workers a.setup.policy a.tree.now one_of
    (elim c.then-workers-eq0.branch [
      | then-workers-eq0-via-then-workers-eq0 w ↦ inl (omega (arith, c.wide-workers.ensures, w.if-workers-eq0.true))
      | then-workers-eq0-via-else-workers-eq0+then-workers-gt-WORKERS w ↦ inr (omega (arith, c.wide-workers.ensures, w.if-workers-gt-WORKERS.true))
    ]))
