-- The loads as they are, and what `heaviest` finds in them.
use Rattle.loads.specs.Terms.{totals_of}
use Rattle.loads.proofs.totals_of.Goals as goal

pub returns : goal.returns
unfolding totals_of
returns c =
    let a = c.args in
    λ k. record { loads = a.loads; heaviest = c.heaviest-most.ensures k; classes = a.classes }
