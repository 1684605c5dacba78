-- The first three bytes are the policy and the count, and where an input is cut short, what is left up to its end is all that the rules
-- take.
use Rattle.phases_text.specs.Input.Laws.{input_parts}
use Rattle.phases_text.proofs.input.parts_of.Goals as goal

pub returns : goal.returns
returns c =
    let many = rw (c.byte.ensures, c.byte-2.ensures) at c.two_bytes-n.ensures in
    input_parts c.args.input.now _ _ _ _ c.byte-policy.ensures many c.place-start.ensures c.place-end.ensures
