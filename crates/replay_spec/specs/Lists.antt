-- What is written of all phases, by the labels and the phases' first steps.
use Rattle.std.specs.Prelude.{ℕ, ◌*◌, ◌≤◌, ◌<◌, ◌≡◌, length, get_or}
use mathlib.Core.List.{List, map, flatten}
use Rattle.rules.specs.Bytes.{count}
use Rattle.rules.specs.Scheduling.{Phase, phase_at, Entry}
use Rattle.replay_invariant.specs.Invariant.{Split}
use Rattle.replay_invariant.specs.Terms.{Labels}
use Rattle.policy.specs.Contract.{most_phases}
use Rattle.replay_spec.specs.Orders.{phase_order, in_phase}

-- The records of the first m phases.
unfoldable pub listed : ℕ → List ℕ → List ℕ → List ℕ → ℕ → List Entry
listed p ks labels firsts m = flatten (map (λ k. in_phase k (phase_order p ks labels k (get_or firsts k 0))) (count 0 m))

-- The labels are those of phases that split the tree, the m phases begin with the steps of `firsts`, and the tree's records fit
-- `room` bytes.
pub record Listable (p : ℕ) (ks labels firsts : List ℕ) (m room : ℕ) : Type 0 where
  pub phs : List Phase
  pub split : Split p ks phs
  pub shown : Labels ks phs labels
  pub many : m ≡ length phs
  pub few : m ≤ most_phases
  pub begins : (k : ℕ) → k < m → get_or firsts k 0 ≡ (phase_at phs k).first
  pub fits : 4 * length ks ≤ room
