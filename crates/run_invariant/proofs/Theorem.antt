-- Whatever the scheduler does: for every worker count, policy and tree that a start accepts, and every list of events, refused ones
-- included, the invariant holds of the run that they lead to.
use Rattle.std.specs.Prelude.{ℕ, ◌≡◌, List}
use Rattle.rules.specs.Tree.{kinds}
use Rattle.rules.specs.Scheduling.{start}
use Rattle.rules.specs.Calls.{start_verdict, after_events}
use Rattle.run_invariant.specs.Invariant.{Invariant}
use Rattle.tree_scan.specs.Laws.Starts.{start-tree-accepts, start_workers}
use Rattle.tree_scan.specs.Laws.Frames.{accepted-frame}
use Rattle.run_invariant.proofs.Laws.Always.{always}

pub events_keep_invariant : (w p : ℕ) (tree : List ℕ) → (start_verdict w p tree).number ≡ 0 → (es : List (List ℕ))
    → Invariant p (kinds tree) (after_events p (kinds tree) (start w) es)
events_keep_invariant w p tree accepts =
    let frame = accepted-frame tree (start-tree-accepts w p tree accepts) in
    always p (kinds tree) frame.some frame.shape w (start_workers w p tree accepts).0
