-- The library's answers as C's flat structs of numbers.
use Rattle.std.specs.Prelude.{cond}
use Rattle.run_spec.specs.Outcomes.{Outcome, Ran, Stole, Refused}
use Rattle.run_state.specs.Contract.{Answered, Started}
use Rattle.run_state.specs.declared.Idle.{Idle}
use Rattle.trace.specs.Contract.{number_value}
use Rattle.record.specs.Contract.{Answers as Recorded}
use Rattle.replay.specs.Contract.{Answers as Replayed}
use Rattle.schedule.specs.Contract.{Answers as Scheduled}
use Rattle.frame_answers.specs.declared.FrameStart.{FrameStart}
use Rattle.frame_answers.specs.declared.FrameOutcome.{FrameOutcome}
use Rattle.frame_answers.specs.declared.FrameEvent.{FrameEvent}
use Rattle.frame_answers.specs.declared.FrameIdle.{FrameIdle}
use Rattle.frame_answers.specs.declared.FrameRecord.{FrameRecord}
use Rattle.frame_answers.specs.declared.FrameReplay.{FrameReplay}
use Rattle.frame_answers.specs.declared.FrameSchedule.{FrameSchedule}

-- A start's refusal and position, and the state.
abbrev pub flat_start : Started → FrameStart
flat_start a = record { number = a.number; position = a.position; state = a.state }

-- "A refused single event hands back the state it got, with position 0."
abbrev pub flat_outcome : Outcome → FrameOutcome
flat_outcome (Ran phase step) = record { number = 0; position = 0; what = 1; phase = phase.0; step = step.0; trace = 0 }
flat_outcome (Stole number) = record { number = 0; position = 0; what = 2; phase = 0; step = 0; trace = number_value number }
flat_outcome (Refused number) = record { number = number; position = 0; what = 0; phase = 0; step = 0; trace = 0 }

-- An event by value: its outcome, and the next state.
abbrev pub flat_event : Answered → FrameEvent
flat_event a = record { outcome = flat_outcome a.outcome; state = a.state }

-- The idle workers; the state that they are told with is left out.
abbrev pub flat_idle : Idle → FrameIdle
flat_idle a = record { set = a.set; count = a.count; lowest = a.lowest }

-- A recording's answer; a truth value is 1 or 0.
abbrev pub flat_record : Recorded → FrameRecord
flat_record a =
    record {
      number = a.number;
      position = a.position;
      logs = a.logs;
      steals = a.steals;
      finished = cond a.finished 1 0;
      loads = a.loads;
      heaviest = a.heaviest;
      class_loads = a.classes;
    }

-- A replay's answer.
abbrev pub flat_replay : Replayed → FrameReplay
flat_replay a =
    record {
      number = a.number;
      position = a.position;
      phases = a.phases;
      loads = a.loads;
      heaviest = a.heaviest;
      class_loads = a.classes;
    }

-- A schedule's answer.
abbrev pub flat_schedule : Scheduled → FrameSchedule
flat_schedule a = record { number = a.number; position = a.position; events = a.events }
