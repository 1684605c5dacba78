-- The longer square root is the shorter one with two binary digits behind it. They are its two lowest, and so extend the root of the root.
use Rattle.std.proofs.Common.{◌^◌, rules, arith}
use Rattle.limits_root.specs.Laws.{root_below}
use Rattle.limits_root.proofs.both_extended.Goals as goal

pub extended-requires-2 : goal.extended-requires-2
extended-requires-2 c = (search rules, omega (arith, root_below c.args.roots.fourth (2 ^ 44) (omega arith)), search rules)
