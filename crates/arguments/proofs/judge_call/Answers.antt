-- It asks in rising number, and the first refusal decides.
use Rattle.std.proofs.Common.{refl}
use Rattle.arguments.specs.Terms.{judged}
use Rattle.arguments.proofs.judge_call.Goals as goal

pub returns-then-not-whole : goal.returns-then-not-whole
unfolding judged
returns-then-not-whole c = rw (c.into.ensures, c.if-not-whole.true) refl

pub returns-then-short : goal.returns-then-short
unfolding judged
returns-then-short c = rw (c.into-then-short.ensures, c.if-not-whole.false, c.if-short.true) refl

pub returns : goal.returns
unfolding judged
returns c = rw (c.if-not-whole.false, c.if-short.false) refl
