-- From worker w on the set is built.
use Rattle.policy.specs.Contract.{worker_limit}
use Rattle.run_spec.proofs.Laws.Idle.{Built}
use Rattle.run_state.proofs.idle_set.Given as goal

abbrev pub invariant-loop-w : goal.invariant-loop-w
invariant-loop-w l = Built l.held (worker_limit l.fn.workers) l.w l.set
