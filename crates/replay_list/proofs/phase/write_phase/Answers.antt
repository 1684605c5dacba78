-- The phase is run alone with the stack of what it has pending. A pushed step stays exactly where the phase covers it, so each
-- covered step is written once and the loop ends.
use Rattle.std.proofs.Common.{◌∙◌, sym, arith}
use Rattle.replay_spec.proofs.Laws.Stacks.{Turn, Opening, writing_start, record_fits, phase-done, step-popped, pushed_inside}
use Rattle.replay_spec.proofs.Laws.Stacks.{step-dropped, push-fits, step_pushed}
use Rattle.replay_list.proofs.phase.write_phase.Goals as goal
use Rattle.replay_list.proofs.phase.write_phase.Goals.{After-kind, After-held_after-hold}

-- The held step's record is put.
turn : (c : After-kind)
    → let a = c.args in
    let l = c.loop-held in
    Turn a.policy a.tree.now a.labels.now a.phase.0 a.first.0 a.list.now l.stack l.list l.held.0 l.depth l.count c.put_entry.new.entries
turn c = record { so = c.loop-held.invariant; put = c.put_entry.ensures }

-- It opens a task: what it pushes and what is held then are known.
opening : (c : After-held_after-hold)
    → let a = c.args in
    let l = c.loop-held in
    Opening a.policy a.tree.now a.labels.now a.phase.0 a.first.0 a.list.now l.stack l.list l.held.0 l.depth l.count
    c.put_entry.new.entries c.held_after-hold.result.0 c.pushed_by-push.result.0
opening c =
    record {
      turn = record { so = c.loop-held.invariant; put = c.put_entry.ensures };
      opens = λ e. c.if-kind-eq-END.false (c.kind.ensures ∙ e);
      holding = c.held_after-hold.ensures;
      pushing = c.pushed_by-push.ensures;
    }

pub loop-held-init : goal.loop-held-init
loop-held-init c = writing_start c.requires.accepted.0 c.requires.writable c.requires.rooms.1

pub put_entry-requires : goal.put_entry-requires
put_entry-requires c = omega (arith, record_fits c.loop-held.invariant)

pub returns-then-depth-eq0-clause-counts : goal.returns-then-depth-eq0-clause-counts
returns-then-depth-eq0-clause-counts c =
    let t = turn (goal.at.returns-then-depth-eq0-clause-counts c).After-kind in
    (phase-done t (sym c.kind.ensures ∙ c.if-kind-eq-END.true) c.if-depth-eq0.true).0

pub returns-then-depth-eq0-clause-list : goal.returns-then-depth-eq0-clause-list
returns-then-depth-eq0-clause-list c =
    let t = turn (goal.at.returns-then-depth-eq0-clause-list c).After-kind in
    (phase-done t (sym c.kind.ensures ∙ c.if-kind-eq-END.true) c.if-depth-eq0.true).1

pub offset_bounds-stack-depth : goal.offset_bounds-stack-depth
offset_bounds-stack-depth c = omega (arith, record_fits c.loop-held.invariant)

pub bounds-stack-depth : goal.bounds-stack-depth
bounds-stack-depth c = omega (arith, record_fits c.loop-held.invariant)

pub loop-held-preserved-then-kind-eq-END : goal.loop-held-preserved-then-kind-eq-END
loop-held-preserved-then-kind-eq-END c =
    let t = turn (goal.at.loop-held-preserved-then-kind-eq-END c).After-kind in
    rw c.wide.ensures (step-popped t (sym c.kind.ensures ∙ c.if-kind-eq-END.true) c.if-depth-eq0.false)

pub pushed_by-push-requires : goal.pushed_by-push-requires
pushed_by-push-requires c = ((record_fits c.loop-held.invariant).0, c.requires.accepted.1)

pub held_after-hold-requires : goal.held_after-hold-requires
held_after-hold-requires c = ((record_fits c.loop-held.invariant).0, c.requires.accepted.1)

pub stays-requires : goal.stays-requires
stays-requires c = omega (arith, pushed_inside (opening (goal.at.stays-requires c).After-held_after-hold), c.requires.rooms.0)

pub overflow_cast-stack : goal.overflow_cast-stack
overflow_cast-stack c = omega (arith, pushed_inside (opening (goal.at.overflow_cast-stack c).After-held_after-hold))

-- What it pushes stays, so the stack has room for it.
pub bounds-stack-depth-then-stays : goal.bounds-stack-depth-then-stays
bounds-stack-depth-then-stays c =
    let o = opening (goal.at.bounds-stack-depth-then-stays c).After-held_after-hold in
    omega (arith, push-fits o (sym c.stays.ensures ∙ c.if-stays.true), c.loop-held.invariant.room)

pub offset_bounds-stack-depth-then-stays : goal.offset_bounds-stack-depth-then-stays
offset_bounds-stack-depth-then-stays c = omega (arith, record_fits c.loop-held.invariant)

pub overflow_add-depth : goal.overflow_add-depth
overflow_add-depth c = omega (arith, record_fits c.loop-held.invariant)

pub loop-held-preserved-then-stays : goal.loop-held-preserved-then-stays
loop-held-preserved-then-stays c =
    step_pushed (opening (goal.at.loop-held-preserved-then-stays c).After-held_after-hold) (sym c.stays.ensures ∙ c.if-stays.true)

pub loop-held-preserved : goal.loop-held-preserved
loop-held-preserved c =
    step-dropped (opening (goal.at.loop-held-preserved c).After-held_after-hold) (sym c.stays.ensures ∙ c.if-stays.false)

pub loop-held-smaller-then-kind-eq-END : goal.loop-held-smaller-then-kind-eq-END
loop-held-smaller-then-kind-eq-END c = omega (arith, record_fits c.loop-held.invariant)

pub loop-held-smaller-then-stays : goal.loop-held-smaller-then-stays
loop-held-smaller-then-stays c = omega (arith, record_fits c.loop-held.invariant)

pub loop-held-smaller : goal.loop-held-smaller
loop-held-smaller c = omega (arith, record_fits c.loop-held.invariant)
