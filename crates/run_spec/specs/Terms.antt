-- Words of the inner contracts of an event: what its functions ask of the tables that they are lent, and that what a steal takes
-- fits the workers' tables. No entry's contract names them.
use Rattle.std.specs.Prelude.{Some, None, ℕ, ◌≤◌, ◌<◌, ◌≡◌, true, false, List, length, get_or}
use Rattle.rules.specs.Tree.{kinds, task_end, most_steps}
use Rattle.rules.specs.Scheduling.{most_workers}
use Rattle.tree_tables.specs.Terms.{Ends, Openers}
use Rattle.run_spec.specs.Deques.{marked}
use Rattle.run_spec.specs.Running.{waits_for}
use Rattle.run_spec.specs.Stealing.{MaybeStolen}

-- A table of openers leads from step `end` to the steps before it that are marked with w: the task of each of these ends past
-- step `end`. So it is in a run where w holds `end`, by the order of the pushers.
pub record Climbs (openers place : List ℕ) (w low end : ℕ) : Type 0 where
  pub ks : List ℕ
  pub table : Openers ks openers (length openers)
  pub nested : (j : ℕ) → low ≤ j → j < end → marked place w j ≡ true → end < task_end ks j

-- Where a table of openers is lent, only a step at its worker's `low` may wait: a stolen one, with which a phase begins. So it
-- is in every run. An empty table is asked nothing.
abbrev pub WaitsAtLow : List ℕ → List ℕ → List ℕ → List ℕ → List ℕ → ℕ → Type 0
WaitsAtLow ks openers place held low w =
    get_or held w 0 < length openers → (get_or held w 0 ≡ get_or low w 0 → ⊥) → waits_for ks place (get_or held w 0) ≡ false

-- What a call asks of the tables that it is lent: they are the tree's, as far as they go, and lead from each held step to the steps
-- that are marked with its worker; and only a step at `low` may wait. A single event lends empty ones, of which nothing is asked.
pub record Hints (tree ends openers place held low : List ℕ) : Type 0 where
  pub task_ends : Ends (kinds tree) ends (length ends)
  pub opened : Openers (kinds tree) openers (length openers)
  pub waits : (w : ℕ) → w < most_workers → WaitsAtLow (kinds tree) openers place held low w
  pub climbs : (w : ℕ) → w < most_workers → get_or held w 0 < length openers → Climbs openers place w (get_or low w 0) (get_or held w 0)

-- What a steal takes fits the tables.
abbrev pub Small : MaybeStolen → Type 0
Small (Some stolen) = (stolen.pusher.0 < most_steps) × (stolen.step.0 < 65536) × (stolen.ordinal.0 < 65536)
Small None = 0 < 1
