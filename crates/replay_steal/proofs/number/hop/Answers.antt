use Rattle.std.proofs.Common.{◌≡◌, ◌+◌, ◌-◌, sym, ◌∙◌, arith}
use Rattle.replay_spec.proofs.Laws.Naming.{hop_end, hop_on, hop-done}
use Rattle.replay_steal.proofs.number.hop.Goals as goal

pub returns-then-kind-eq-END : goal.returns-then-kind-eq-END
returns-then-kind-eq-END c =
    let loop = c.loop in
    hop_end _ _ _ loop.step.0 (c.args.children - loop.counter) loop.invariant (omega arith) (sym c.kind.ensures ∙ c.if-kind-eq-END.true)

pub loop-preserved : goal.loop-preserved
loop-preserved c =
    let loop = c.loop in
    let left = c.args.children - loop.counter in
    let one_less : c.args.children - (loop.counter + 1) ≡ left - 1 = omega arith in
    rw one_less
    (hop_on _ _ _ loop.step.0 left loop.invariant (omega arith) (λ e. c.if-kind-eq-END.false (c.kind.ensures ∙ e))
    _ c.cont_by-step.ensures)

pub returns : goal.returns
returns c =
    let loop = c.loop in
    hop-done _ _ _ loop.step.0 (c.args.children - loop.counter) loop.invariant (omega arith)
