-- What is taken of an input: its policy, and the places where its tree starts and ends. The trace is what follows the tree.
use Rattle.std.specs.Prelude.{ℕ, ◌-◌, ◌≤◌, ◌≡◌, List, length, take, drop}
use Rattle.rules.specs.Program.{input_policy, input_tree, input_trace}

pub record Parts (input : List ℕ) (policy start end : ℕ) : Type 0 where
  pub policy_is : policy ≡ input_policy input
  pub ordered : start ≤ end
  pub within : end ≤ length input
  pub tree_is : take (end - start) (drop start input) ≡ input_tree input
  pub trace_is : take (length input - end) (drop end input) ≡ input_trace input
