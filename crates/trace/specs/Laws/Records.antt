-- A trace record by its bytes, as `record_at` reads them.
use Rattle.std.specs.Prelude.{ℕ, ◌+◌, ◌*◌, ◌/◌, ◌<◌, ◌≡◌, List, [], length, get_or}
use Rattle.std.proofs.Common.{arith, drop_of_length-le, drop-cons}
use Rattle.rules.specs.Bytes.{little_endian, records}
use Rattle.rules.specs.Traces.{record_number}
use Rattle.tree.specs.Laws.Records.{length_record, field_at}
use Rattle.trace.specs.Terms.{RecordAt}

pub record_bytes : (trace : List ℕ) (k number : ℕ) → k < length trace / 4
    → number < 65536 → number ≡ get_or trace (4 * k + 2) 0 + 256 * get_or trace (4 * k + 3) 0
    → RecordAt trace k (get_or trace (4 * k) 0) (get_or trace (4 * k + 1) 0) number
unfolding record_number little_endian
record_bytes trace k number more small is =
    let r = get_or (records 4 trace) k [] in
    let here : 4 * k + 0 ≡ 4 * k = omega arith in
    let size = length_record 4 trace k more (omega arith) in
    let low = field_at 4 trace k 2 more (omega arith) in
    let high = field_at 4 trace k 3 more (omega arith) in
    record {
      more = more;
      first = rw here at (field_at 4 trace k 0 more (omega arith));
      second = field_at 4 trace k 1 more (omega arith);
      rest = rw (drop-cons r 2 0 (omega arith), drop-cons r 3 0 (omega arith), drop_of_length-le r {i = 4} (omega arith))
          (omega (arith, low, high));
      small = small;
    }
