-- What is written of one phase, by the labels and its first step.
use Rattle.std.specs.Prelude.{ℕ, ◌*◌, ◌≤◌, ◌<◌, ◌≡◌, List, [], map, length}
use Rattle.std.proofs.Math.Option.{some}
use Rattle.rules.specs.Scheduling.{Phase, phase_at, Entry}
use Rattle.rules.specs.Traces.{run_alone, running_order}
use Rattle.replay_invariant.specs.Invariant.{Split}
use Rattle.replay_invariant.specs.Terms.{Labels}
use Rattle.replay_spec.specs.Labels.{dropped}

-- The running order of phase k by labels, from its first step.
unfoldable pub phase_order : ℕ → List ℕ → List ℕ → ℕ → ℕ → List ℕ
phase_order p ks labels k first = run_alone (λ x. dropped labels x k) p ks (length ks) (record { held = some first; deque = [] })

-- Steps as records of phase k.
unfoldable pub in_phase : ℕ → List ℕ → List Entry
in_phase k steps = map (λ i. record { phase = k; step = i }) steps

-- The labels are those of phases that split the tree, of which phase k begins with `first`, and its records fit `room` bytes.
pub record Writable (p : ℕ) (ks labels : List ℕ) (k first room : ℕ) : Type 0 where
  pub phs : List Phase
  pub split : Split p ks phs
  pub shown : Labels ks phs labels
  pub begun : k < length phs
  pub from : (phase_at phs k).first ≡ first
  pub fits : 4 * length (running_order p ks (phase_at phs k)) ≤ room
