-- Demand 3: for every worker count, policy and tree that start accepts, and every list of events.
use Rattle.std.specs.Prelude.{ℕ, ◌≡◌, List}
use Rattle.run_state.specs.Contract.{start_answer}
use Rattle.run_spec.specs.declared.Event.{Event}
use Rattle.agreement.specs.Agreement.{entries, Agreement}
use Rattle.agreement.specs.WorkerCount.{WorkerCount}
use Rattle.agreement.specs.StepClasses.{StepClasses}
use Rattle.agreement.proofs.Laws.Whole.{agrees}
use Rattle.agreement.proofs.Laws.Counted.{counted}
use Rattle.agreement.proofs.Laws.Classed.{classified}

pub same_phases : (w p : ℕ) (tree : List ℕ) → (start_answer w p tree).number ≡ 0 → (es : List Event)
    → Agreement (entries w p tree) tree es
same_phases = agrees

-- The worker count, #101 of document 02: for every policy's byte and every tree's bytes.
pub worker-count : (p : ℕ) (tree : List ℕ) → WorkerCount p tree
worker-count = counted

-- The classes, #103 of document 02: for every count, every policy's byte and every tree's bytes.
pub step-classes : (w p : ℕ) (tree : List ℕ) → StepClasses w p tree
step-classes = classified
