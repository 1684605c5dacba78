-- What a trace record says, and the ordinal that its number is.
use Rattle.std.specs.Prelude.{ℕ, ◌/◌, ◌<◌, ◌≡◌, List, [], length, get_or}
use Rattle.rules.specs.Bytes.{records}
use Rattle.rules.specs.Traces.{record_number}
use Rattle.trace.specs.declared.number.TraceNumber.{TraceNumber}
use Rattle.trace.specs.declared.number.TraceNumber.TheVariants.{ByOrdinal, BySerial}

-- Record k is that of these workers and this number.
pub record RecordAt (trace : List ℕ) (k thief victim number : ℕ) : Type 0 where
  pub more : k < length trace / 4
  pub first : get_or (get_or (records 4 trace) k []) 0 0 ≡ thief
  pub second : get_or (get_or (records 4 trace) k []) 1 0 ≡ victim
  pub rest : record_number (get_or (records 4 trace) k []) ≡ number
  -- It has two bytes.
  pub small : number < 65536

-- The ordinal that a trace number is, 0 where it is a serial number.
abbrev pub ordinal_in : TraceNumber → ℕ
ordinal_in (ByOrdinal o) = o.0
ordinal_in (BySerial s) = 0
