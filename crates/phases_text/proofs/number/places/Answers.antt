-- A number below 10 is printed in one digit, one below 100 in two, and so on; no number is printed in more than five.
use Rattle.std.proofs.Common.{arith}
use Rattle.phases_text.specs.Number.Laws.Numbers.{places_between}
use Rattle.phases_text.proofs.number.places.Goals as goal

pub returns-then-number-lt10 : goal.returns-then-number-lt10
returns-then-number-lt10 c = places_between 0 c.args.number (omega arith) (λ s. absurd (omega arith)) (λ s. omega arith)

pub returns-then-number-lt100 : goal.returns-then-number-lt100
returns-then-number-lt100 c = places_between 1 c.args.number (omega arith) (λ s. omega arith) (λ s. omega arith)

pub returns-then-number-lt1000 : goal.returns-then-number-lt1000
returns-then-number-lt1000 c = places_between 2 c.args.number (omega arith) (λ s. omega arith) (λ s. omega arith)

pub returns-then-number-lt10000 : goal.returns-then-number-lt10000
returns-then-number-lt10000 c = places_between 3 c.args.number (omega arith) (λ s. omega arith) (λ s. omega arith)

pub returns : goal.returns
returns c = places_between 4 c.args.number (omega arith) (λ s. omega arith) (λ s. absurd (omega arith))
