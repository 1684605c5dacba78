-- The number of a trace record: an ordinal under work-first, which counts a task's children, or a serial number under help-first.
use Rattle.std.specs.Prelude.{ℕ, cond, eqb}
use Rattle.rules.specs.Scheduling.{work_first}
use Rattle.trace.specs.declared.number.TraceNumber.{TraceNumber}
use Rattle.trace.specs.declared.number.TraceNumber.TheVariants.{ByOrdinal, BySerial}

-- The trace number of a stolen step: its ordinal or its serial number, and never the one for the other.
unfoldable pub number_by : ℕ → ℕ → ℕ → TraceNumber
number_by p ordinal step = cond (eqb p work_first) (ByOrdinal (record { 0 = ordinal })) (BySerial (record { 0 = step }))

-- The number that goes into a trace record.
abbrev pub number_value : TraceNumber → ℕ
number_value (ByOrdinal o) = o.0
number_value (BySerial s) = s.0
