-- What the tables have. `ks` are the tree's kinds and `ws` its weights.
use Rattle.std.specs.Prelude.{ℕ, suc, ◌*◌, ◌≤◌, ◌<◌, ◌≡◌, List, length, get_or}
use Rattle.rules.specs.Tree.{most_steps, kinds, tree_verdict}
use Rattle.rules_dag.specs.Spans.{lasts}
use Rattle.tree_scan.specs.Laws.Frames.{size_at}
use Rattle.tree_tables.proofs.Laws.Filling as tables

-- The most that four bytes can weigh.
abbrev pub most_weight : ℕ
most_weight = 4294967295

-- Nothing in a tree lasts longer.
abbrev pub longest : ℕ
longest = most_steps * most_weight

-- This is what step j lasts, which is no more than the steps from j to the end of its task can weigh, with all that they spawn: so no sum
-- of two wraps.
abbrev pub Lasts : List ℕ → List ℕ → ℕ → ℕ → Type 0
Lasts ks ws j x = (x ≡ lasts ks ws j) × (lasts ks ws j ≤ size_at ks j * most_weight)

-- The table of what steps last has it for each step from a to before b.
abbrev pub Lasting : List ℕ → List ℕ → List ℕ → ℕ → ℕ → Type 0
Lasting ks ws table a b = (j : ℕ) → a ≤ j → j < b → Lasts ks ws j (get_or table j 0)

-- It has it from step a to step b, and past b it is as before.
pub record Filled (ks ws before table : List ℕ) (a b : ℕ) : Type 0 where
  pub lasting : Lasting ks ws table a (suc b)
  pub kept : (j : ℕ) → b < j → get_or table j 0 ≡ get_or before j 0

-- The tables of ends and of openers have what the steps from j on tell, and are as long as they were.
abbrev pub Tabled : List ℕ → List ℕ → List ℕ → List ℕ → List ℕ → ℕ → Type 0
Tabled ks ends₀ openers₀ ends openers j = tables.Filled ks ends₀ openers₀ ends openers j

-- A table has room for each step of an accepted tree, of which i is one.
pub record Room (tree table : List ℕ) (i : ℕ) : Type 0 where
  pub accepts : (tree_verdict tree).number ≡ 0
  pub step : i < length (kinds tree)
  pub room : length (kinds tree) ≤ length table
