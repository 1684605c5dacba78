-- The square root of a power of 2 below 2 to the power 176 is below 2 to the power 88, and the root of that has no high digit.
use Rattle.std.proofs.Common.{ℕ, rules, arith, add-zero, ◌≡◌, ◌+◌, ◌*◌, ◌^◌, ◌<◌, ◌%◌}
use Rattle.std.proofs.Math.Pow.{pow-lt, pow-add}
use Rattle.limits_root.specs.Terms.{value, number}
use Rattle.limits_root.specs.Laws.{root_below, fourth_limit}
use Rattle.limits_root.specs.declared.Roots.{Roots}
use Rattle.limits_root.proofs.limit.Goals as goal

-- The first digits' power is below 16.
first : (k : ℕ) → 2 ^ (k % 4) < 16
first k = pow-lt {j = 4} (omega arith)

-- Four more digits.
next : (power : ℕ) → 2 ^ (power + 4) ≡ 16 * 2 ^ power
next power = omega (arith, pow-add 2 power 4)

-- The square root has at most 88 bits.
small : (roots : Roots) (power : ℕ) → power < 176 → number roots.square ≡ 2 ^ power → value roots.square.root < 2 ^ 88
small roots power below is = root_below roots.square (2 ^ 88) (rw is (pow-lt {j = 176} below))

pub both_extended-roots-requires : goal.both_extended-roots-requires
unfolding number
both_extended-roots-requires c = (search rules, search rules, omega (arith, first c.args.k))

pub loop-init : goal.loop-init
unfolding number
loop-init c = (c.both_extended-roots.ensures.0, rw add-zero (omega (arith, first c.args.k)))

pub both_extended-roots-requires-in-loop : goal.both_extended-roots-requires-in-loop
both_extended-roots-requires-in-loop c =
    (c.loop.invariant.0, small c.loop.roots (c.args.k % 4 + 4 * c.loop.counter) (omega arith) c.loop.invariant.1, search rules)

pub loop-preserved : goal.loop-preserved
loop-preserved c =
    let power = c.args.k % 4 + 4 * c.loop.counter in
    let longer : c.args.k % 4 + 4 * (c.loop.counter + 1) ≡ power + 4 = omega arith in
    (c.both_extended-roots-in-loop.ensures.0, rw longer (omega (arith, next power)))

pub returns : goal.returns
returns c =
    let roots = c.loop.roots in
    let whole : c.args.k % 4 + 4 * c.loop.counter ≡ c.args.k = omega arith in
    let is : number roots.square ≡ 2 ^ c.args.k = rw whole at c.loop.invariant.1 in
    let half = small roots c.args.k (omega arith) is in
    let low : value roots.fourth.root ≡ roots.fourth.root.low = omega (arith, root_below roots.fourth (2 ^ 44) (omega arith)) in
    rw low at (fourth_limit c.args.k roots c.loop.invariant.0 is)
