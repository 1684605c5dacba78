-- Single events are the rules: for every worker count, policy and tree that start accepts, and every list of events. And what a step
-- waits for is the highest step of the finish child before it that has not run.
use Rattle.std.specs.Prelude.{ℕ, ◌≡◌, List}
use Rattle.rules.specs.Calls.{start_verdict}
use Rattle.run_refinement.specs.Follows.{Follows}
use Rattle.run_refinement.specs.WaitingTest.{WaitingTest}
use Rattle.run_refinement.proofs.Laws.Follows.{follows}
use Rattle.run_refinement.proofs.Laws.WaitingTest.{waiting}

pub events_follow_rules : (w p : ℕ) (tree : List ℕ) → (start_verdict w p tree).number ≡ 0 → (es : List (List ℕ)) → Follows w p tree es
events_follow_rules = follows

pub waiting_test : WaitingTest
waiting_test = waiting
