-- Doubling the set of the workers behind makes room for the bit of the one before them; at most sixteen workers fit sixteen bits.
use Rattle.std.proofs.Common.{ℕ, ◌*◌, ◌≡◌, arith}
use Rattle.policy.specs.Contract.{worker_limit}
use Rattle.policy.proofs.Laws.Workers.{limit_most}
use Rattle.run_spec.proofs.Laws.Idle.{built-start, built-fits, built-idle, built-busy}
use Rattle.run_state.proofs.idle_set.Goals as goal

twice : (set : ℕ) → set * 2 ≡ 2 * set
twice set = omega arith

pub loop-w-init : goal.loop-w-init
loop-w-init c = rw c.limit-w.ensures (built-start c.args.held.now (worker_limit c.args.workers))

pub overflow_mul-set : goal.overflow_mul-set
overflow_mul-set c =
    let a = c.args in
    let loop = c.loop-w in
    let fits = built-fits a.held.now (worker_limit a.workers) loop.w loop.set (omega arith) loop.invariant (limit_most a.workers) in
    omega (arith, fits)

pub offset_bounds-held-w : goal.offset_bounds-held-w
offset_bounds-held-w c = omega (arith, c.loop-w.invariant.within, limit_most c.args.workers)

pub bounds-held-w : goal.bounds-held-w
bounds-held-w c = omega (arith, c.loop-w.invariant.within, limit_most c.args.workers)

pub overflow_add-set : goal.overflow_add-set
overflow_add-set c =
    let a = c.args in
    let loop = c.loop-w in
    let fits = built-fits a.held.now (worker_limit a.workers) loop.w loop.set (omega arith) loop.invariant (limit_most a.workers) in
    omega (arith, fits)

pub loop-w-preserved-then-wide-ge-MOST_STEPS : goal.loop-w-preserved-then-wide-ge-MOST_STEPS
loop-w-preserved-then-wide-ge-MOST_STEPS c =
    let a = c.args in
    let loop = c.loop-w in
    rw (twice loop.set)
    (built-idle a.held.now (worker_limit a.workers) loop.w loop.set (omega arith) loop.invariant (omega (arith, c.wide.ensures)))

pub loop-w-preserved : goal.loop-w-preserved
loop-w-preserved c =
    let a = c.args in
    let loop = c.loop-w in
    rw (twice loop.set)
    (built-busy a.held.now (worker_limit a.workers) loop.w loop.set (omega arith) loop.invariant (omega (arith, c.wide.ensures)))
