-- The phases so far stand at the front of the list.
use Rattle.replay_spec.proofs.Laws.Lists.{Listing}
use Rattle.replay_list.proofs.write_list.Given as goal

abbrev pub invariant-loop-k : goal.invariant-loop-k
invariant-loop-k l = Listing l.policy l.tree l.labels l.firsts l.phases l.fn.list l.list l.stack l.k l.at
