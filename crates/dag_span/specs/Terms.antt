-- What the call answers, refused or accepted.
use Rattle.std.specs.Prelude.{ℕ, ◌≡◌, List}
use Rattle.rules_dag.specs.Spans.{span_of}
use Rattle.dag_span.specs.Contract.{Answers, answers}

-- The answers of an accepted call, with the lent buffer as it leaves it.
pub record Measured (tree lent : List ℕ) (answer : Answers) (after : List ℕ) : Type 0 where
  pub answered : answer ≡ answers (span_of tree lent)
  pub left : after ≡ (span_of tree lent).chain

-- A refusal, with no other answer.
abbrev pub refusal : ℕ → ℕ → Answers
refusal number position = record { number = number; position = position; work = 0; span = 0; length = 0 }
