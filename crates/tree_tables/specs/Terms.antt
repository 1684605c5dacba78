-- What the tables of a tree have. `ks` are the tree's kinds, `cs` its classes and `ws` its weights.
use Rattle.std.specs.Prelude.{ℕ, suc, pred, ◌≤◌, ◌<◌, ◌≡◌, false, cond, ◌&&◌, List, map, ◌⊎◌, get_or}
use Rattle.std.proofs.Math.Option.{none, some}
use Rattle.rules.specs.Bytes.{count, sum}
use Rattle.rules.specs.Tree.{class_count, kind_at, is_end, is_finish, task_end, cont, finish_before}
use Rattle.rules.specs.Traces.{of_class}

-- For each of the first m steps the step after its task's end.
abbrev pub Ends : List ℕ → List ℕ → ℕ → Type 0
Ends ks ends m = (i : ℕ) → i < m → get_or ends i 0 ≡ task_end ks i

-- Step q is the opener of step j: the opening step whose child or whose continuation j is. What is good to know of it:
pub record Opener (ks : List ℕ) (q j : ℕ) : Type 0 where
  -- j is its child or its continuation,
  pub opens : is_end (kind_at ks q) ≡ false
  pub which : (j ≡ suc q) ⊎ (j ≡ cont ks q)
  -- it stands before j,
  pub before : q < j
  -- the task of every step between has ended before j,
  pub nearest : (k : ℕ) → q < k → k < j → task_end ks k ≤ j
  -- and where a finish child ends just before j, it opened that.
  pub finish : finish_before ks j ≡ cond (is_end (kind_at ks (pred j)) && is_finish (kind_at ks q)) (some (suc q)) none

-- For each of the first m steps but step 0 its opener.
abbrev pub Openers : List ℕ → List ℕ → ℕ → Type 0
Openers ks openers m = (j : ℕ) → 0 < j → j < m → Opener ks (get_or openers j 0) j

-- The weight of all steps before step j.
unfoldable pub weight_before : List ℕ → ℕ → ℕ
weight_before ws j = sum (λ i. get_or ws i 0) (count 0 j)

-- That, for each of the first m steps and for step m.
abbrev pub Sums : List ℕ → List ℕ → ℕ → Type 0
Sums ws sums m = (j : ℕ) → j ≤ m → get_or sums j 0 ≡ weight_before ws j

-- For each class the weight of its steps before step j.
unfoldable pub classes_before : List ℕ → List ℕ → ℕ → List ℕ
classes_before cs ws j = map (λ c. weight_before (of_class cs ws c) j) (count 0 class_count)

-- Each of the first m steps has a class.
abbrev pub Classed : List ℕ → ℕ → Type 0
Classed cs m = (i : ℕ) → i < m → get_or cs i 0 < class_count
