-- Over the children that are left, the walk from where the loop stands finds what the whole walk finds from its start.
use Rattle.std.proofs.Common.{◌≡◌, ◌-◌}
use Rattle.rules.specs.Tree.{kinds}
use Rattle.replay_invariant.specs.Terms.{hopped}
use Rattle.replay_steal.proofs.number.hop.Given as goal

abbrev pub invariant-loop : goal.invariant-loop
invariant-loop l = hopped (kinds l.tree) (l.children - l.counter) l.step.0 ≡ hopped (kinds l.tree) l.children l.fn.from.0
