-- The ordinal of a stolen step, which under work-first is the number of its trace record: it counts a task's children.
use Rattle.std.specs.Prelude.{ℕ, suc, pred, ◌+◌, ◌-◌, ◌%◌, cond, List, [], ◌∷◌, take, drop, eqb}
use Rattle.rules.specs.Tree.{is_end}
use Rattle.rules.specs.Scheduling.{work_first}

-- How many children a list of kinds opens directly, while `depth` of them are open. Others are inside these.
unfoldable pub children_in : ℕ → List ℕ → ℕ
children_in depth [] = 0
children_in depth (k ∷ ks) =
    cond (is_end k) (children_in (pred depth) ks) (cond (eqb depth 0) 1 0 + children_in (suc depth) ks)

-- The children opened directly from step `from` to before step `to`.
unfoldable pub children_between : List ℕ → ℕ → ℕ → ℕ
children_between ks from to = children_in 0 (take (to - from) (drop from ks))

-- More than any ordinal of a tree.
abbrev pub many_ordinals : ℕ
many_ordinals = 4096

-- The ordinal of the step that step q pushes, from the ordinal `base` of a step of the same task, `from`: one more for each child
-- opened between, and one for q's. Under help-first it is not asked for, and 0.
unfoldable pub ordinal_from : ℕ → List ℕ → ℕ → ℕ → ℕ → ℕ
ordinal_from p ks base from q = cond (eqb p work_first) (base % many_ordinals + children_between ks from q + 1) 0
