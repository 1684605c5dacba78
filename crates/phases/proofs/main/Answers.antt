-- What was written to the text is no longer than the text.
use Rattle.std.proofs.Common.{◌≡◌, ℕ, ◌≤◌, List, length, drop, length-append, length-take-le, arith, sym}
use Rattle.rules.specs.Calls.{written}
use Rattle.phases.proofs.main.Goals as goal

-- What is written to a buffer is no longer than the buffer then is.
within : (bytes before : List ℕ) (n : ℕ) (text : List ℕ) → n ≡ length bytes → text ≡ written bytes before → n ≤ length text
unfolding written
within bytes before n text count put = rw (count, put) (omega (arith, length-append bytes (drop (length bytes) before)))

pub slice_bounds-text-end : goal.slice_bounds-text-end
slice_bounds-text-end c =
    let put = c.list_phases-length in
    within _ _ put.result put.new.text put.ensures.counts put.ensures.text

pub slice_bounds-write_all-end : goal.slice_bounds-write_all-end
slice_bounds-write_all-end c =
    let put = c.list_phases-length in
    sym (length-take-le put.result put.new.text (within _ _ put.result put.new.text put.ensures.counts put.ensures.text))
