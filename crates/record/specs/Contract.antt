-- What recording answers, by the rules.
use Rattle.std.specs.Prelude.{ℕ, Bool, false, List, replicate, Result, Ok, Err}
use Rattle.rules.specs.Tree.{class_count}
use Rattle.rules.specs.Scheduling.{most_workers}
use Rattle.rules.specs.Calls.{Recorded as Call}
use Rattle.refusals.specs.declared.Refused.{Refused}
use Rattle.refusals.specs.Numbers.{number_of}
use Rattle.record.specs.declared.Recorded.{Recorded}

-- Its refusal and position, or the counts of log and trace records, whether every step has run, each worker's load, the heaviest
-- worker and each class's load.
pub record Answers : Type 0 where
  pub number : ℕ
  pub position : ℕ
  pub logs : ℕ
  pub steals : ℕ
  pub finished : Bool
  pub loads : List ℕ
  pub heaviest : ℕ
  pub classes : List ℕ

-- The answers of a record call, beside what it leaves in the lent log and trace.
unfoldable pub answers : Call → Answers
answers c =
    record {
      number = c.verdict.number;
      position = c.verdict.position;
      logs = c.log_count;
      steals = c.trace_count;
      finished = c.finished;
      loads = c.loads;
      heaviest = c.heaviest;
      classes = c.class_loads;
    }

-- "A refused call returns the number and the position, all other results 0."
abbrev pub answers_of : Result Recorded Refused → Answers
answers_of (Ok r) =
    record {
      number = 0;
      position = 0;
      logs = r.logs;
      steals = r.steals;
      finished = r.finished;
      loads = r.totals.loads;
      heaviest = r.totals.heaviest;
      classes = r.totals.classes;
    }
answers_of (Err e) =
    record {
      number = number_of e.refusal;
      position = e.position;
      logs = 0;
      steals = 0;
      finished = false;
      loads = replicate most_workers 0;
      heaviest = 0;
      classes = replicate class_count 0;
    }
