-- A run never gets stuck: for every worker count, policy and tree that a start accepts, and every list of events, refused ones
-- included, unless every step has run, some worker may run.
use Rattle.std.specs.Prelude.{ℕ, ◌≡◌, List}
use Rattle.rules.specs.Tree.{kinds}
use Rattle.rules.specs.Scheduling.{Run, start}
use Rattle.rules.specs.Calls.{start_verdict, after_events}
use Rattle.tree_scan.specs.Laws.Starts.{start-tree-accepts}
use Rattle.tree_scan.specs.Laws.Frames.{accepted-frame}
use Rattle.run_invariant.specs.Invariant.{Invariant}
use Rattle.run_invariant.proofs.Theorem.{events_keep_invariant}
use Rattle.run_progress.specs.Progress.{Progress}
use Rattle.run_progress.proofs.Laws.Progress.{progress}

-- Of every state of which the invariant of runs holds,
pub invariant_goes_on : (w p : ℕ) (tree : List ℕ) → (start_verdict w p tree).number ≡ 0 → (s : Run) → Invariant p (kinds tree) s
    → Progress (kinds tree) s
invariant_goes_on w p tree accepts =
    let frame = accepted-frame tree (start-tree-accepts w p tree accepts) in
    progress p (kinds tree) frame.shape frame.some

-- so of every state that events lead to.
pub never_stuck : (w p : ℕ) (tree : List ℕ) → (start_verdict w p tree).number ≡ 0 → (es : List (List ℕ))
    → Progress (kinds tree) (after_events p (kinds tree) (start w) es)
never_stuck w p tree accepts es = invariant_goes_on w p tree accepts _ (events_keep_invariant w p tree accepts es)
