-- The tables that the walk reads, what is so on its way, and what it leaves.
use Rattle.std.specs.Prelude.{ℕ, suc, ◌+◌, ◌≤◌, ◌<◌, ◌≡◌, List, ◌++◌, length}
use Rattle.rules.specs.Tree.{kinds, weights, tree_verdict}
use Rattle.rules.specs.Calls.{written}
use Rattle.rules_dag.specs.Spans.{chain as chain_steps, chain_bytes}
use Rattle.tree_tables.specs.Terms.{Ends, Openers}
use Rattle.dag_chain.specs.Terms.{path, walked, Pending, remains}
use Rattle.dag_lasting.specs.Terms.{Lasting}

-- The tables of an accepted tree, each with room for all steps.
pub record Tables (tree ends openers : List ℕ) : Type 0 where
  pub accepts : (tree_verdict tree).number ≡ 0
  pub room_ends : length (kinds tree) ≤ length ends
  pub room_openers : length (kinds tree) ≤ length openers
  pub ends_are : Ends (kinds tree) ends (length (kinds tree))
  pub openers_are : Openers (kinds tree) openers (length (kinds tree))

-- The table of what each step lasts, with room for all steps.
pub record Lasted (tree lasting : List ℕ) : Type 0 where
  pub room : length (kinds tree) ≤ length lasting
  pub all : Lasting (kinds tree) (weights tree) lasting 0 (length (kinds tree))

-- The walk is at step c, with so much weight left from it on and so many steps written before it: these and the walk from c on are
-- together the whole walk.
pub record Walking (ks ws lent chain : List ℕ) (c left count : ℕ) : Type 0 where
  pub done : List ℕ
  pub qs : List ℕ
  pub more : ℕ
  pub room : c < length ks
  pub waiting : Pending ks c qs
  pub rest : left ≡ remains ks ws c qs
  pub whole : walked ks ws ≡ done ++ path ks ws (suc more) c (remains ks ws c qs) qs
  pub enough : length ks ≤ suc more + c
  pub counted : count ≡ length done
  pub few : count ≤ c
  pub listed : chain ≡ written (chain_bytes done) lent

-- The chain's length is answered, and its steps stand at the front of the lent buffer.
pub record ChainWritten (ks ws lent : List ℕ) (count : ℕ) (after : List ℕ) : Type 0 where
  pub counted : count ≡ length (chain_steps ks ws)
  pub listed : after ≡ written (chain_bytes (chain_steps ks ws)) lent
