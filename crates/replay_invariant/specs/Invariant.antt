-- How an accepted trace splits a tree into phases, whether a scheduler made it or not: what is so of one phase, of a step that
-- may be stolen from it, and of all phases. `p` is the policy, `ks` the kinds of an accepted tree. "The part from i" is again
-- the steps from i to the end of i's task, with all that they spawn.
use Rattle.std.specs.Prelude.{ℕ, ◌+◌, ◌≤◌, ◌<◌, ◌≡◌, ◌&&◌, List, length, ltb, leb}
use Rattle.rules.specs.Bytes.{sum}
use Rattle.rules.specs.Tree.{task_end}
use Rattle.rules.specs.Scheduling.{work_first, Phase, phase_at}
use Rattle.rules.specs.Traces.{covers}
use Rattle.run_invariant.specs.Invariant.{Pushed, frontier_end}
use Rattle.run_invariant.proofs.Laws.Counts.{Has}
use Rattle.run_invariant.proofs.Laws.Weights.{span}

-- A phase of a replayed trace.
pub record Cut (p : ℕ) (ks : List ℕ) (ph : Phase) : Type 0 where
  -- It begins with a step of the tree.
  pub begins : ph.first < length ks
  -- The parts stolen from it are apart, and inside the part from its first step.
  pub apart : (j : ℕ) → sum (span ks j) ph.stolen ≤ span ks j ph.first
  -- What is stolen was pushed, and is not the first step.
  pub pushed : (s : ℕ) → Has ph.stolen s → Pushed p ks s
  pub later : (s : ℕ) → Has ph.stolen s → s ≡ ph.first → ⊥
  -- Work-first: it covers an interval of serial numbers, up to the end of the frontier task.
  pub some : p ≡ work_first → ph.first < frontier_end ks ph
  pub interval : p ≡ work_first → (j : ℕ) → covers ks ph j ≡ leb ph.first j && ltb j (frontier_end ks ph)

-- Step s can be stolen from a phase.
pub record Taken (p : ℕ) (ks : List ℕ) (ph : Phase) (s : ℕ) : Type 0 where
  pub pushed : Pushed p ks s
  pub later : s ≡ ph.first → ⊥
  -- The part from it is all still in the phase.
  pub apart : (j : ℕ) → sum (span ks j) ph.stolen + span ks j s ≤ span ks j ph.first
  -- Work-first: it is a step of the frontier task.
  pub frontier : p ≡ work_first → task_end ks s ≡ frontier_end ks ph

-- The phases of a replayed trace.
pub record Split (p : ℕ) (ks : List ℕ) (phs : List Phase) : Type 0 where
  pub cuts : (k : ℕ) → k < length phs → Cut p ks (phase_at phs k)
  -- Phase 0 begins with step 0 and each other phase with a step stolen, each step stolen begins one: so every sum over first
  -- steps is that over step 0 and all steps stolen.
  pub begun : (f : ℕ → ℕ) → sum (λ ph. f ph.first) phs ≡ f 0 + sum (λ ph. sum f ph.stolen) phs
