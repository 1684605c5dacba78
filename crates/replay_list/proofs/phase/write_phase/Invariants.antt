-- The stack has what the phase, run alone so far, has pending.
use Rattle.std.proofs.Common.{◌-◌, ◌*◌, length}
use Rattle.replay_spec.proofs.Laws.Stacks.{Writing}
use Rattle.replay_list.proofs.phase.write_phase.Given as goal

abbrev pub invariant-loop-held : goal.invariant-loop-held
invariant-loop-held l =
    Writing l.policy l.tree l.labels l.phase.0 l.fn.first.0 l.fn.list l.stack l.list l.held.0 l.depth l.count

abbrev pub decreases-loop-held : goal.decreases-loop-held
decreases-loop-held l = length l.fn.list - 4 * l.count
