-- The walk leaves its log and trace at the front of the call's own arrays, and they have room in the lent ones; after a refusal nothing
-- is copied.
use Rattle.std.proofs.Common.{arith}
use Rattle.std.proofs.lemmas.Result.{err_from_is_err_and}
use Rattle.record.specs.Body.Laws.Results.{lost_result, bytes_most, log-room, trace-room, done-result}
use Rattle.record.proofs.body.run.Goals as goal

pub returns-in_err-walked : goal.returns-in_err-walked
returns-in_err-walked c =
    let p = err_from_is_err_and c.from_residual.result c.from_residual.ensures.1 in
    rw (p.1, p.2) (lost_result c.in_err-walked.ensures.walks _ _ _)

pub overflow_mul-walked : goal.overflow_mul-walked
overflow_mul-walked c = omega (arith, bytes_most c.requires.admitted c.in_ok-walked.ensures.walks)

pub copy_out-requires : goal.copy_out-requires
copy_out-requires c =
    let walks = c.in_ok-walked.ensures.walks in
    (omega (arith, bytes_most c.requires.admitted walks), log-room c.requires.admitted walks)

pub overflow_mul-walked-2 : goal.overflow_mul-walked-2
overflow_mul-walked-2 c = omega (arith, bytes_most c.requires.admitted c.in_ok-walked.ensures.walks)

pub copy_out-requires-2 : goal.copy_out-requires-2
copy_out-requires-2 c =
    let walks = c.in_ok-walked.ensures.walks in
    (omega (arith, bytes_most c.requires.admitted walks), trace-room c.requires.admitted walks)

pub returns : goal.returns
returns c =
    let walked = c.in_ok-walked.ensures in
    done-result c.requires.admitted walked.walks _ _ _ c.copy_out.ensures c.copy_out-2.ensures walked.classes
