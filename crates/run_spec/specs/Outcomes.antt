-- What an event did, and the outcome that an answer stands for.
use Rattle.std.specs.Prelude.{ℕ, Result, Ok, Err}
use Rattle.refusals.specs.declared.Refusal.{Refusal}
use Rattle.refusals.specs.Numbers.{number_of}
use Rattle.tree.specs.declared.Phase.{Phase}
use Rattle.tree.specs.declared.Step.{Step}
use Rattle.trace.specs.declared.number.TraceNumber.{TraceNumber}
use Rattle.run_spec.specs.declared.Done.{Done}
use Rattle.run_spec.specs.declared.Done.TheVariants.{Ran as DoneRan, Stole as DoneStole}

-- The phase and the step that it ran, or the trace number of the step that it stole, or its refusal, whose position is always 0.
pub data Outcome : Type 0 where
  Ran : Phase → Step → Outcome
  Stole : TraceNumber → Outcome
  Refused : ℕ → Outcome

-- It is answered by what was done or a refusal.
abbrev pub outcome_of : Result Done Refusal → Outcome
outcome_of (Ok (DoneRan phase step)) = Ran phase step
outcome_of (Ok (DoneStole number)) = Stole number
outcome_of (Err refusal) = Refused (number_of refusal)
