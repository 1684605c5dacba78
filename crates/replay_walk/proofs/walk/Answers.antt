use Rattle.std.proofs.Common.{◌≡◌, ◌/◌, refl, sym, ◌∙◌, arith, length, get_or}
use Rattle.rules.specs.Tree.{kinds}
use Rattle.tree_scan.specs.Laws.Starts.{start-tree-accepts}
use Rattle.refusals.specs.Laws.Numbers.{number_none}
use Rattle.trace.specs.Laws.Numbers.{ordinal-kept}
use Rattle.replay_walk.specs.Laws.Retracing.{tables-filled, label_room_lem, retrace_start, retrace_judged, retrace_end}
use Rattle.replay_walk.specs.Laws.Turns.{Judged, NumberRead, read_as, two_workers, read_ready, retrace-broken, begin-ready}
use Rattle.replay_walk.specs.Laws.Turns.{part-movable, retrace-begun}
use Rattle.replay_walk.proofs.walk.Goals as goal
use Rattle.replay_walk.proofs.walk.Goals.{In_default, After-read_steal}

-- ---- what is so in a turn

-- The record's workers are not refused.
judged : (c : In_default)
    → let a = c.args in
    let l = c.loop-at in
    let r = c.record_at-steal.result in
    Judged a.setup.workers a.setup.policy a.tree.now a.trace.now l.at l.labels l.firsts l.bases l.ordinals l.latest l.loads
    r.thief r.victim r.number.0
judged c =
    let n = c.in_default.not-Err in
    record {
      so = c.loop-at.invariant;
      entry = c.record_at-steal.ensures;
      fine = sym c.judge_workers-judged.ensures ∙ number_none c.judge_workers-judged.result n;
    }

-- Its number has been read against the victim's latest phase.
read : (c : After-read_steal)
    → let a = c.args in
    let l = c.loop-at in
    let r = c.record_at-steal.result in
    NumberRead a.setup.policy a.tree.now a.ends.now a.openers.now a.sums.now l.labels l.bases l.ordinals
    (get_or l.latest r.victim 0) r.number.0 c.read_steal.result c.read_steal.new.labels
read c =
    let a = c.args in
    let given = c.requires in
    let light = c.type_inv.sums (length (kinds a.tree.now)) in
    record {
      tables = tables-filled _ _ _ _ given.ends given.openers given.sums (omega (arith, light));
      reading = read_as a.setup.policy _ _ _ _ _ _ _ c.record_at-steal.result.number.0 c.wide.ensures c.decode_number-number.ensures
          c.read_steal.ensures;
      kept = c.read_steal.auto.labels;
    }

-- ---- the start

pub begin_first-requires-clause-rooms : goal.begin_first-requires-clause-rooms
begin_first-requires-clause-rooms c =
    let room = label_room_lem _ _ _ c.requires.start.0 _ c.requires.fresh.0 in
    (omega (arith, room), c.requires.fresh.1)

pub loop-at-init : goal.loop-at-init
loop-at-init c =
    let a = c.args in
    let given = c.requires in
    let begun = c.begin_first.ensures in
    retrace_start _ _ a.tree.now a.trace.now given.start.0 given.start.1 a.sums.now c.steps.result given.sums.1 c.steps.ensures
    a.labels.now given.fresh.0 a.firsts.now given.fresh.1 _ _ _ _ _ _ begun.labels begun.firsts refl refl begun.latest begun.loads

-- ---- a record that is refused

pub returns-in-Err : goal.returns-in-Err
returns-in-Err c =
    let told = rw c.in-Err.is at c.judge_workers-judged.ensures in
    rw c.at.ensures (retrace_judged c.loop-at.invariant c.record_at-steal.ensures c.in-Err.refusal told)

pub returns-in_default-read_steal : goal.returns-in_default-read_steal
returns-in_default-read_steal c =
    let at = goal.at.returns-in_default-read_steal c in
    rw c.at-in_default-read_steal.ensures
    (retrace-broken (judged at.In_default) (read at.After-read_steal) c.in_default-read_steal.is)

-- ---- a record whose number is read

pub bounds-latest-victim : goal.bounds-latest-victim
bounds-latest-victim c = omega (arith, two_workers (judged (goal.at.bounds-latest-victim c).In_default))

pub read_steal-requires-clause-base : goal.read_steal-requires-clause-base
read_steal-requires-clause-base c =
    let ready = read_ready (judged (goal.at.read_steal-requires-clause-base c).In_default) in
    let from = c.wide.ensures in
    (start-tree-accepts _ _ c.args.tree.now c.requires.start.0, omega (arith, from, ready.0, ready.1), rw from ready.2)

pub read_steal-requires-clause-labels : goal.read_steal-requires-clause-labels
read_steal-requires-clause-labels c =
    let ready = read_ready (judged (goal.at.read_steal-requires-clause-labels c).In_default) in
    (c.loop-at.invariant.label_room, ready.3)

-- ---- a record that begins a phase

pub begin-requires-clause-phases : goal.begin-requires-clause-phases
begin-requires-clause-phases c =
    let j = judged (goal.at.begin-requires-clause-phases c).In_default in
    let ready = read_ready j in
    (ready.0, omega (arith, c.wide.ensures, ready.0, ready.1), (two_workers j).0)

pub begin-requires-clause-step : goal.begin-requires-clause-step
begin-requires-clause-step c =
    let at = goal.at.begin-requires-clause-step c in
    let given = begin-ready (judged at.In_default) (read at.After-read_steal) c.in-Some.is in
    (omega (arith, given), omega (arith, given, c.requires.openers.0), omega (arith, given))

pub begin-requires-clause-rooms : goal.begin-requires-clause-rooms
begin-requires-clause-rooms c =
    let at = goal.at.begin-requires-clause-rooms c in
    let now = read at.After-read_steal in
    let given = begin-ready (judged at.In_default) now c.in-Some.is in
    let room = c.loop-at.invariant in
    (omega (arith, given, now.kept, room.label_room), room.first_room, room.base_room)

-- The ordinal that is kept has two bytes, and work-first it is the number.
pub begin-requires-clause-ordinals : goal.begin-requires-clause-ordinals
begin-requires-clause-ordinals c =
    let room = c.loop-at.invariant in
    let kept = ordinal-kept c.args.setup.policy c.record_at-steal.result.number.0 c.record_at-steal.ensures.small
    c.decode_number-number.ensures c.ordinal_in.ensures
    in
    (room.ordinal_room, room.latest_room, kept.0)

pub move_part-requires-clause-workers : goal.move_part-requires-clause-workers
move_part-requires-clause-workers c =
    let two = two_workers (judged (goal.at.move_part-requires-clause-workers c).In_default) in
    (two.0, two.1, two.2)

pub move_part-requires-clause-movable : goal.move_part-requires-clause-movable
move_part-requires-clause-movable c =
    let at = goal.at.move_part-requires-clause-movable c in
    part-movable (judged at.In_default) (read at.After-read_steal) c.in-Some.is

pub loop-at-preserved : goal.loop-at-preserved
loop-at-preserved c =
    let at = goal.at.loop-at-preserved c in
    let stored = c.begin.ensures in
    let kept = ordinal-kept c.args.setup.policy c.record_at-steal.result.number.0 c.record_at-steal.ensures.small
    c.decode_number-number.ensures c.ordinal_in.ensures
    in
    retrace-begun (judged at.In_default) (read at.After-read_steal) c.in-Some.is c.wide.ensures kept.1
    _ _ _ _ _ _ stored.labels stored.firsts stored.bases stored.ordinals stored.latest c.move_part.ensures

-- ---- the end

pub returns : goal.returns
returns c =
    let all : c.loop-at.at ≡ length c.args.trace.now / 4 = omega arith in
    rw (← all) (retrace_end c.loop-at.invariant c.loop-at-test.false)
