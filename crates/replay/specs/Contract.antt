-- What replay answers, by the rules.
use Rattle.std.specs.Prelude.{ℕ, List, replicate, Result, Ok, Err}
use Rattle.rules.specs.Tree.{class_count}
use Rattle.rules.specs.Scheduling.{most_workers}
use Rattle.rules.specs.Calls.{Replayed as Call}
use Rattle.refusals.specs.declared.Refused.{Refused}
use Rattle.refusals.specs.Numbers.{number_of}
use Rattle.replay.specs.declared.Replayed.{Replayed}

-- The answers of a replay call, beside what it leaves in the lent run list.
pub record Answers : Type 0 where
  pub number : ℕ
  pub position : ℕ
  pub phases : ℕ
  pub loads : List ℕ
  pub heaviest : ℕ
  pub classes : List ℕ

unfoldable pub answers : Call → Answers
answers c =
    record {
      number = c.verdict.number;
      position = c.verdict.position;
      phases = c.phase_count;
      loads = c.loads;
      heaviest = c.heaviest;
      classes = c.class_loads;
    }

-- They are answered whole, or by a refusal: "a refused call returns the number and the position, all other results 0."
abbrev pub answers_of : Result Replayed Refused → Answers
answers_of (Ok r) =
    record {
      number = 0;
      position = 0;
      phases = r.phases;
      loads = r.loads;
      heaviest = r.heaviest;
      classes = r.classes;
    }
answers_of (Err e) =
    record {
      number = number_of e.refusal;
      position = e.position;
      phases = 0;
      loads = replicate most_workers 0;
      heaviest = 0;
      classes = replicate class_count 0;
    }
