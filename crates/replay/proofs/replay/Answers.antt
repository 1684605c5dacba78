-- It is the replay for a caller that is not full.
use Rattle.replay.specs.Laws.Unless.{unless_not}
use Rattle.replay.proofs.replay.Goals as goal

pub returns-clause-answers : goal.returns-clause-answers
returns-clause-answers c =
    let a = c.args in
    rw (← unless_not _ _ a.tree.now a.trace.now a.list.now) c.replay_unless.ensures.answers

pub returns-clause-list : goal.returns-clause-list
returns-clause-list c =
    let a = c.args in
    rw (← unless_not _ _ a.tree.now a.trace.now a.list.now) c.replay_unless.ensures.list
