-- The order of steps by the parts of a tree, in which proofs are done. `Inside (size_at ks) i j` says that step j is among the steps from
-- i to the end of i's task, with all that they spawn.
use Rattle.std.specs.Prelude.{ℕ, suc, ◌+◌, ◌≤◌, ◌<◌, ◌≡◌, true, false, List, ◌⊎◌, length}
use Rattle.rules.specs.Tree.{kind_at, is_finish, task, cont}
use Rattle.tree_scan.specs.Laws.Shape.{Inside}
use Rattle.tree_scan.specs.Laws.Frames.{end_at, size_at}

-- Step `opener` opened a finish child that has step i, or a descendant of it has; step j follows it in the opener's task.
pub record Finished (ks : List ℕ) (i j : ℕ) : Type 0 where
  pub opener : ℕ
  pub within : opener < length ks
  pub finish : is_finish (kind_at ks opener) ≡ true
  pub same : task ks opener ≡ task ks j
  pub past : cont ks opener ≤ j
  pub low : suc opener ≤ i
  pub high : i < cont ks opener

-- One link: the spawning step, an earlier step of the task, or a step of a finish child.
abbrev pub Directly : List ℕ → ℕ → ℕ → Type 0
Directly ks i j =
    ((end_at ks i ≡ false) × (task ks j ≡ suc i)) ⊎ (((i < j) × (task ks i ≡ task ks j)) ⊎ Finished ks i j)

-- Step i is inside a finish child, and step j inside its continuation.
pub record Across (ks : List ℕ) (i j : ℕ) : Type 0 where
  pub opener : ℕ
  pub within : opener < length ks
  pub finish : is_finish (kind_at ks opener) ≡ true
  pub first : Inside (size_at ks) (suc opener) i
  pub second : Inside (size_at ks) (cont ks opener) j

-- Step i precedes step j, by the parts of the tree: j is inside i and not i, or a finish child lies between.
abbrev pub Ahead : List ℕ → ℕ → ℕ → Type 0
Ahead ks i j = ((i < j) × (j < i + size_at ks i)) ⊎ Across ks i j
