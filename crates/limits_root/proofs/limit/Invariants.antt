-- The roots are those of 2 to the power so far: k % 4, and four for each step made.
use Rattle.std.proofs.Common.{◌≡◌, ◌+◌, ◌*◌, ◌^◌, ◌%◌}
use Rattle.limits_root.specs.Terms.{number, Fourth}
use Rattle.limits_root.proofs.limit.Given as goal

abbrev pub invariant-loop : goal.invariant-loop
invariant-loop l = Fourth l.roots × (number l.roots.square ≡ 2 ^ (l.k % 4 + 4 * l.counter))
