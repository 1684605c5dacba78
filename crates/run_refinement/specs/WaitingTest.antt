-- What is claimed of the waiting test (document 02, #104). `awaits` is what the contract of the test gives, by the places of a state;
-- `awaited` is the rules' word, by the log of a run.
use Rattle.std.specs.Prelude.{ℕ, ◌≤◌, ◌<◌, ◌≡◌, Bool, true, false, cond, not, List, length}
use Rattle.std.proofs.Math.Option.{Option, none, some}
use Rattle.rules.specs.Tree.{finish_before, kinds}
use Rattle.rules.specs.Scheduling.{Entry, worker_at, has_run, waits, awaited, judge_run}
use Rattle.rules.specs.Calls.{start_verdict}
use Rattle.run_spec.specs.Deques.{unrun_mark, marked}
use Rattle.run_spec.specs.Running.{waits_for, awaits}
use Rattle.run_refinement.specs.Follows.{ruled, reached}

-- Step j is one "of the child and its descendants", where a finish child ends just before step i.
pub record OfChild (ks : List ℕ) (i j : ℕ) : Type 0 where
  pub first : ℕ
  pub child : finish_before ks i ≡ some first
  pub from : first ≤ j
  pub before : j < i

-- The test's answer for step i, where `ran` says which steps have run.
pub record TestAnswer (ks : List ℕ) (i : ℕ) (ran : ℕ → Bool) (answer : Option ℕ) : Type 0 where
  -- "The test answers that step, the highest unrun one of the child and its descendants,
  pub of_child : (j : ℕ) → answer ≡ some j → OfChild ks i j
  pub unrun : (j : ℕ) → answer ≡ some j → ran j ≡ false
  pub highest : (j : ℕ) → answer ≡ some j → (k : ℕ) → OfChild ks i k → ran k ≡ false → k ≤ j
  -- or none exactly when all of them have run."
  pub none_then : answer ≡ none → (k : ℕ) → OfChild ks i k → ran k ≡ true
  pub none_only : ((k : ℕ) → OfChild ks i k → ran k ≡ true) → answer ≡ none

-- Whether a step is answered.
unfoldable pub answered : Option ℕ → Bool
answered none = false
answered (some j) = true

pub record WaitingTest : Type 0 where
  -- In any state, reached or not, and by the rules.
  pub by_places : (ks place : List ℕ) (i : ℕ) → TestAnswer ks i (λ j. not (marked place unrun_mark j)) (awaits ks place i)
  pub by_log : (ks : List ℕ) (log : List Entry) (i : ℕ) → TestAnswer ks i (has_run log) (awaited ks log i)
  -- A step waits exactly where one is answered: so it is in what an event answers in any state, and by document 01.
  pub waits_places : (ks place : List ℕ) (i : ℕ) → waits_for ks place i ≡ answered (awaits ks place i)
  pub waits_log : (ks : List ℕ) (log : List Entry) (i : ℕ) → waits ks log i ≡ answered (awaited ks log i)
  -- "On reached states" the test's answer is the rules' word,
  pub same : (w p : ℕ) (tree : List ℕ) → (start_verdict w p tree).number ≡ 0 → (es : List (List ℕ)) (i : ℕ) → i < length (kinds tree)
      → awaits (kinds tree) (reached w p tree es).place i ≡ awaited (kinds tree) (ruled w p tree es).log i
  -- and a worker that holds a step is refused with 10 exactly where the test answers one.
  pub ten : (w p : ℕ) (tree : List ℕ) → (start_verdict w p tree).number ≡ 0 → (es : List (List ℕ)) (u i : ℕ)
      → (worker_at (ruled w p tree es) u).hand.held ≡ some i
      → judge_run (kinds tree) (ruled w p tree es) u ≡ cond (answered (awaits (kinds tree) (reached w p tree es).place i)) 10 0
