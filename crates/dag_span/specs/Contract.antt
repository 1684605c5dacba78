-- What the call answers, by the rules.
use Rattle.std.specs.Prelude.{ℕ, Result, Ok, Err}
use Rattle.rules_dag.specs.Spans.{Spanned as Call}
use Rattle.refusals.specs.declared.Refused.{Refused}
use Rattle.refusals.specs.Numbers.{number_of}
use Rattle.dag_span.specs.declared.Spanned.{Spanned}

-- Its refusal and position, or the work, the span and how many steps the chain has; what is not answered is 0.
pub record Answers : Type 0 where
  pub number : ℕ
  pub position : ℕ
  pub work : ℕ
  pub span : ℕ
  pub length : ℕ

-- The answers of a call, beside what it leaves in the lent buffer.
unfoldable pub answers : Call → Answers
answers c =
    record {
      number = c.verdict.number;
      position = c.verdict.position;
      work = c.work;
      span = c.span;
      length = c.chain_length;
    }

-- They are given by what is measured or a refusal.
abbrev pub answers_of : Result Spanned Refused → Answers
answers_of (Ok s) = record { number = 0; position = 0; work = s.work; span = s.span; length = s.length }
answers_of (Err e) = record { number = number_of e.refusal; position = e.position; work = 0; span = 0; length = 0 }
