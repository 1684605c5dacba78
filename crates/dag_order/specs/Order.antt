-- What is claimed of the order of steps (document 02, #105). `Precedes` says "over any number of links" in words, `must_precede` is the
-- test that computes.
use Rattle.std.specs.Prelude.{ℕ, ◌<◌, ◌≡◌, true, List, length}
use Rattle.rules_dag.specs.Precedence.{Precedes, must_precede}

-- Of the kinds of a tree.
pub record Order (ks : List ℕ) : Type 0 where
  -- The test holds exactly where one or more links lead from step i to step j.
  pub test_then : (i j : ℕ) → must_precede ks i j ≡ true → Precedes ks i j
  pub test_only : (i j : ℕ) → j < length ks → Precedes ks i j → must_precede ks i j ≡ true
  -- Links one behind the other are links.
  pub along : (i k j : ℕ) → Precedes ks i k → Precedes ks k j → Precedes ks i j
  -- They lead to a higher step, so never back: no step precedes itself.
  pub higher : (i j : ℕ) → j < length ks → Precedes ks i j → i < j
