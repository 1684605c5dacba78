-- The weight that a steal moves, what it leaves in the loads, what is so of all loads together, and the totals that a call answers.
use Rattle.std.specs.Prelude.{ℕ, ◌+◌, ◌-◌, ◌≤◌, ◌<◌, ◌≡◌, List, length, get_or, set, replicate}
use Rattle.rules.specs.Bytes.{sum}
use Rattle.rules.specs.Tree.{class_count}
use Rattle.rules.specs.Scheduling.{Phase, most_workers}
use Rattle.rules.specs.Traces.{phase_load, heaviest}
use Rattle.tree_tables.specs.Terms.{weight_before}
use Rattle.loads.specs.declared.Totals.{Totals}

-- By the tables of task ends and of sums, the weight from a step to the end of its task.
unfoldable pub weight_between : List ℕ → List ℕ → ℕ → ℕ
weight_between ends sums step = get_or sums (get_or ends step 0) 0 - get_or sums step 0

-- That weight can leave the victim's load for the thief's.
pub record Movable (ends sums loads : List ℕ) (thief victim step : ℕ) : Type 0 where
  pub in_table : step < length ends
  pub in_sums : (step < length sums) × (get_or ends step 0 < length sums)
  pub rises : get_or sums step 0 ≤ get_or sums (get_or ends step 0) 0
  pub leaves : weight_between ends sums step ≤ get_or loads victim 0
  pub fits : get_or loads thief 0 + weight_between ends sums step < 18446744073709551616

-- Some weight leaves the victim's load for the thief's.
unfoldable pub load_moved : List ℕ → ℕ → ℕ → ℕ → List ℕ
load_moved loads thief victim weight =
    let less = set loads victim (get_or loads victim 0 - weight) in
    set less thief (get_or less thief 0 + weight)

-- Whatever the steps weigh, the loads of all phases are together the weight of the tree.
abbrev pub Whole : List ℕ → List Phase → Type 0
Whole ks phs = (ws : List ℕ) → sum (phase_load ks ws) phs ≡ weight_before ws (length ks)

-- The totals on the loads of workers and classes that a walk comes to.
unfoldable pub totals_of : List ℕ → List ℕ → Totals
totals_of ls by_class = record { loads = ls; heaviest = heaviest ls; classes = by_class }

-- "A refused call returns the number and the position, all other results 0."
abbrev pub no_totals : Totals
no_totals = record { loads = replicate most_workers 0; heaviest = 0; classes = replicate class_count 0 }
