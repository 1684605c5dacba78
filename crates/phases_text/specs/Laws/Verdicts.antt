-- The verdict of a replay: it is the same for all run lists with room, and what an accepted one says.
use Rattle.std.specs.Prelude.{ℕ, ◌*◌, ◌≤◌, ◌≡◌, List}
use Rattle.std.proofs.Math.Path.{refl}
use Rattle.std.proofs.Math.Decide.{ℕ_discrete}
use Rattle.std.proofs.Math.ListN.{length}
use borrow.Author.Tests.{ne_eqb, le-ltb}
use Rattle.rules.specs.Bytes.{records, first_refused}
use Rattle.rules.specs.Tree.{most_steps, kinds}
use Rattle.rules.specs.Traces.{replay_walk}
use Rattle.rules.specs.Calls.{start_verdict, replay_verdict}
use Rattle.tree.specs.Laws.Verdicts.{first-accepts}
use Rattle.tree_scan.specs.Laws.Starts.{start-tree-accepts}
use Rattle.tree_scan.specs.Laws.Frames.{accepted-frame}

-- The tree of an accepted start has at most the limit of steps.
pub start_steps : (w p : ℕ) (tree : List ℕ) → (start_verdict w p tree).number ≡ 0 → length (kinds tree) ≤ most_steps
start_steps w p tree e = (accepted-frame tree (start-tree-accepts w p tree e)).most

module _ (w p : ℕ) (tree trace : List ℕ) where
  -- Run lists with room for all records are alike.
  pub same_verdict : (one two : List ℕ) → ((start_verdict w p tree).number ≡ 0 → 4 * length (kinds tree) ≤ length one)
      → ((start_verdict w p tree).number ≡ 0 → 4 * length (kinds tree) ≤ length two)
      → replay_verdict w p tree trace one ≡ replay_verdict w p tree trace two
  unfolding replay_verdict first_refused
  same_verdict one two f g =
      elim (ℕ_discrete (start_verdict w p tree).number 0) [
        | yes z ↦
            let n = length (kinds tree) in
            rw (le-ltb (length one) (4 * n) (f z), le-ltb (length two) (4 * n) (g z)) refl
        | no n ↦ rw (ne_eqb (start_verdict w p tree).number 0 n) refl
      ]

  module _ (list : List ℕ) (e : (replay_verdict w p tree trace list).number ≡ 0) where
    pub accepted-walk : (replay_walk w p (kinds tree) (records 4 trace)).verdict.number ≡ 0
    unfolding replay_verdict
    accepted-walk = (first-accepts _ _ (first-accepts _ _ (first-accepts _ _ (first-accepts _ _ e).1).1).1).0
