-- What the schedule maker answers, by the rules.
use Rattle.std.specs.Prelude.{ℕ, Result, Ok, Err}
use Rattle.rules_schedule.specs.Schedules.{Scheduled as Call}
use Rattle.refusals.specs.declared.Refused.{Refused}
use Rattle.refusals.specs.Numbers.{number_of}

-- Its refusal and position, or how many events the list has.
pub record Answers : Type 0 where
  pub number : ℕ
  pub position : ℕ
  pub events : ℕ

-- The answers of a schedule call, beside what it leaves in the lent list.
unfoldable pub answers : Call → Answers
answers c = record { number = c.verdict.number; position = c.verdict.position; events = c.event_count }

-- They are given by a count or a refusal.
abbrev pub answers_of : Result ℕ Refused → Answers
answers_of (Ok events) = record { number = 0; position = 0; events = events }
answers_of (Err e) = record { number = number_of e.refusal; position = e.position; events = 0 }
