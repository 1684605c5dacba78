-- A worker takes a step from another's phase.
use Prim.Native.Nat.{ℕ, ◌+◌, ◌≤◌, ◌<◌}
use Rattle.std.specs.Prelude.{◌≡◌}
use mathlib.Core.List.{List}
use Rattle.std.proofs.Math.ListN.{length}
use Rattle.rules.specs.Bytes.{sum}
use Rattle.rules.specs.Scheduling.{most_workers, Phase, phase_at}
use Rattle.run_invariant.proofs.Laws.Weights.{span}

-- Worker t takes step o from phase k, which is worker v's.
pub record Takes (ks : List ℕ) (phs : List Phase) (t k v o : ℕ) : Type 0 where
  pub begun : k < length phs
  pub own : (phase_at phs k).worker ≡ v
  pub other : t ≡ v → ⊥
  pub thief : t < most_workers
  pub victim : v < most_workers
  pub within : o < length ks
  -- The parts stolen from the phase before and the part taken now are apart, and inside the part from its first step.
  pub apart : (j : ℕ) → sum (span ks j) (phase_at phs k).stolen + span ks j o ≤ span ks j (phase_at phs k).first
