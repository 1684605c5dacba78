-- Every trace that replay accepts splits the tree: for every policy, tree, trace and lent list.
use Rattle.std.specs.Prelude.{ℕ, ◌≡◌, List}
use Rattle.rules.specs.Calls.{replay_verdict}
use Rattle.replay_invariant.specs.Splits.{Splits}
use Rattle.replay_invariant.proofs.Laws.Consequences.{splits}

pub accepted_traces_split : (w p : ℕ) (tree trace list : List ℕ) → (replay_verdict w p tree trace list).number ≡ 0 → Splits w p tree trace
accepted_traces_split = splits
