use Rattle.std.proofs.Common.{◌≡◌, ◌∙◌, Result, Ok, refl, ap, arith, length}
use Rattle.rules.specs.Tree.{kinds}
use Rattle.refusals.specs.declared.Refusal.{Refusal}
use Rattle.run_spec.specs.declared.Event.{Event}
use Rattle.run_spec.specs.declared.Done.{Done}
use Rattle.run_spec.specs.Outcomes.{outcome_of}
use Rattle.run_spec.specs.Moves.{fields_of}
use Rattle.run_spec.proofs.Laws.Moves.{fresh_arrays}
use Rattle.run_refinement.proofs.Laws.Hints.{shows_hints}
use Rattle.tree_tables.proofs.Laws.Fronts.{start-frame}
use Rattle.record_walk.specs.Laws.Turns.{Turn, Weighed, turn-start, turn-done, turn-refused, ran-fits}
use Rattle.record_walk.specs.Laws.Turns.{ran-turn, stole-fits, stole-movable, stole-turn}
use Rattle.record_walk.proofs.walk.Goals as goal
use Rattle.record_walk.proofs.walk.Goals.{After-event_on-judged, in-Ran, in-Stole}

-- ---- what is so in a turn

-- The event has been judged, and moved the state if it is fine.
turn : (c : After-event_on-judged)
    → let a = c.args in
    let l = c.loop-at in
    let event = c.event_at-event.result in
    let moved = c.event_on-judged in
    let next = moved.new in
    Turn a.setup.workers a.setup.policy a.tree.now a.events.now l.at
    (fields_of l.place l.held l.latest l.low l.base l.steals a.setup) l.log l.trace l.loads l.logs event.first event.second
    (outcome_of moved.result) (fields_of next.place next.held next.phase next.low next.base next.steals a.setup)
turn c =
    record {
      accepts = c.requires.accepted;
      so = c.loop-at.invariant;
      more = c.loop-at-test.true;
      first = ap (λ (e : Event). e.first) c.event_at-event.ensures;
      second = ap (λ (e : Event). e.second) c.event_at-event.ensures;
      moved = c.event_on-judged.ensures;
    }

weighed : (c : After-event_on-judged) → Weighed c.args.tree.now c.args.ends.now c.args.sums.now
weighed c =
    let n = length (kinds c.args.tree.now) in
    let ends = c.requires.ends in
    let sums = c.requires.sums in
    let fits = c.type_inv.sums n in
    record {
      sized = ends.0;
      right = ends.1;
      longer = sums.0;
      added = sums.1;
      light = omega (arith, sums.1 n (omega arith), fits);
    }

-- What it did has one of these forms.
did : {r : Result Done Refusal} {d e : Done} → r ≡ Ok d → d ≡ e → outcome_of r ≡ outcome_of (Ok e)
did is form = ap outcome_of (is ∙ ap Ok form)

-- ---- the start

pub loop-at-init : goal.loop-at-init
loop-at-init c =
    let a = c.args in
    let given = c.requires in
    turn-start _ _ a.tree.now a.events.now given.accepted a.sums.now given.sums.1 _ c.steps-n.ensures a.log.now a.trace.now
    given.rooms.0 given.rooms.1 _ (fresh_arrays a.setup) _ refl

-- ---- an event

pub event_on-judged-requires : goal.event_on-judged-requires
event_on-judged-requires c =
    let a = c.args in
    let given = c.requires in
    let so = c.loop-at.invariant in
    shows_hints _ a.tree.now (start-frame _ _ a.tree.now given.accepted) _ so.run so.shows
    a.openers.now (omega (arith, given.openers.0)) a.ends.now given.ends.1 given.openers.1

-- It has run a step.
pub put_entry-requires : goal.put_entry-requires
put_entry-requires c = (ran-fits (turn (goal.at.put_entry-requires c).After-event_on-judged) (did c.in-Ok.is c.in-Ran.is)).0

pub overflow_add-logs : goal.overflow_add-logs
overflow_add-logs c = omega (arith, ran-fits (turn (goal.at.overflow_add-logs c).After-event_on-judged) (did c.in-Ok.is c.in-Ran.is))

-- It has stolen one: the record has room, and it names two of the workers.
pub bounds-held-event : goal.bounds-held-event
bounds-held-event c =
    let at = (goal.at.bounds-held-event c).After-event_on-judged in
    omega (arith, stole-fits (turn at) (did c.in-Ok.is c.in-Stole.is) _ refl)

pub trace_steal-requires-clause-room : goal.trace_steal-requires-clause-room
trace_steal-requires-clause-room c =
    let at = (goal.at.trace_steal-requires-clause-room c).After-event_on-judged in
    rw c.wide-before.ensures (stole-fits (turn at) (did c.in-Ok.is c.in-Stole.is) _ refl).0

pub trace_steal-requires-clause-workers : goal.trace_steal-requires-clause-workers
trace_steal-requires-clause-workers c =
    let at = (goal.at.trace_steal-requires-clause-workers c).After-event_on-judged in
    let fits = stole-fits (turn at) (did c.in-Ok.is c.in-Stole.is) _ refl in
    (fits.1, fits.2, fits.3)

pub trace_steal-requires-clause-movable : goal.trace_steal-requires-clause-movable
trace_steal-requires-clause-movable c =
    let at = (goal.at.trace_steal-requires-clause-movable c).After-event_on-judged in
    stole-movable (turn at) (did c.in-Ok.is c.in-Stole.is) c.wide.result c.wide.ensures (weighed at)

-- It is refused.
pub returns-in-Err : goal.returns-in-Err
returns-in-Err c =
    rw c.at.ensures (turn-refused (turn (goal.at.returns-in-Err c).After-event_on-judged) _ (ap outcome_of c.in-Err.is) _ _)

pub loop-at-preserved : goal.loop-at-preserved
loop-at-preserved c =
    let at = (goal.at.loop-at-preserved c).After-event_on-judged in
    elim c.match-done.branch [
      | in-Ran w ↦ rw (w.log-is, w.trace-is, w.loads-is, w.logs-is) (ran-turn (turn at) (did c.in-Ok.is w.in-Ran.is) _ w.put_entry.ensures)
      | in-Stole w ↦
          let traced = w.trace_steal.ensures in
          rw (w.log-is, w.trace-is, w.loads-is, w.logs-is)
          (stole-turn (turn at) (did c.in-Ok.is w.in-Stole.is) w.wide.result w.wide.ensures (weighed at)
          _ (rw c.wide-before.ensures at traced.trace) _ traced.loads)
    ]

-- ---- the end

pub returns : goal.returns
returns c = rw c.wide-2.ensures (turn-done c.requires.accepted c.loop-at.invariant c.loop-at-test.false)
