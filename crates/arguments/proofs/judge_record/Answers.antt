-- A refused start decides whatever else is asked; for an accepted one the count of steps is the tree's, so the outputs are judged by it.
use Rattle.std.proofs.Common.{ℕ, ◌∙◌, refl, arith}
use Rattle.std.proofs.lemmas.Result.{err_from_is_err_and}
use Rattle.rules.specs.Bytes.{whole_records}
use Rattle.rules.specs.Calls.{most_events}
use Rattle.refusals.specs.Laws.Numbers.{number-some}
use Rattle.arguments.specs.Terms.{record_judged, too_short}
use Rattle.arguments.specs.Laws.Starts.{start-begins, begun_steps}
use Rattle.arguments.specs.Laws.Cases.{judged-is, refused-is}
use Rattle.arguments.proofs.judge_record.Goals as goal

pub returns-in_err-steps : goal.returns-in_err-steps
unfolding record_judged
returns-in_err-steps c =
    let a = c.args in
    let p = err_from_is_err_and c.from_residual.result c.from_residual.ensures.1 in
    let e = c.in_err-steps.field-0.0 in
    rw (p.1, p.2)
    (refused-is _ _ a.tree.now _ c.in_err-steps.ensures (λ z. omega (arith, number-some e.refusal)) (whole_records 2 most_events a.events.now)
    (λ (n : ℕ). too_short n a.log a.trace))

pub too_short-requires : goal.too_short-requires
too_short-requires c = begun_steps (start-begins _ _ c.args.tree.now _ c.in_ok-steps.ensures refl)

pub returns : goal.returns
unfolding record_judged
returns c =
    let a = c.args in
    c.judge_call.ensures
    ∙ rw (c.whole_records-whole.ensures, c.too_short.ensures)
    (judged-is _ _ a.tree.now _ c.in_ok-steps.ensures _ (λ (n : ℕ). too_short n a.log a.trace))
