-- Refusals by the numbers of document 01, "Refusals", and document 02; and the number and position of an answer that may be one.
use Rattle.std.specs.Prelude.{ℕ, Result, Ok, Err}
use Rattle.rules.specs.Bytes.{Verdict}
use Rattle.refusals.specs.declared.Refusal.{Refusal}
use Rattle.refusals.specs.declared.Refusal.TheVariants.{Policy, TreeLength, TreeRecord, OpenTasks, Root, InputLength, OutputLength}
use Rattle.refusals.specs.declared.Refusal.TheVariants.{Worker, Idle, Waits, Thief, Deque, SameWorker, NoPhase}
use Rattle.refusals.specs.declared.Refusal.TheVariants.{Number, Count, Full}
use Rattle.refusals.specs.declared.Refused.{Refused}

-- A refusal's number.
abbrev pub number_of : Refusal → ℕ
number_of Policy = 1
number_of TreeLength = 2
number_of TreeRecord = 3
number_of OpenTasks = 4
number_of Root = 5
number_of InputLength = 6
number_of OutputLength = 7
number_of Worker = 8
number_of Idle = 9
number_of Waits = 10
number_of Thief = 11
number_of Deque = 12
number_of SameWorker = 13
number_of NoPhase = 14
number_of Number = 15
number_of Count = 16
number_of Full = 17

-- The number of an answer that may be a refusal, 0 for none,
abbrev pub number_in : {T : Type 0} → Result T Refusal → ℕ
number_in (Ok answer) = 0
number_in (Err refusal) = number_of refusal

-- and the rules' verdict that it stands for, where it has a position.
abbrev pub verdict_in : {T : Type 0} → Result T Refused → Verdict
verdict_in (Ok answer) = record { number = 0; position = 0 }
verdict_in (Err refused) = record { number = number_of refused.refusal; position = refused.position }
