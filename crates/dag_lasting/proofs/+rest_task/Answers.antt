-- An end lasts its weight, and going back from child to child each opener finds in the tables what its two parts tell.
use Rattle.std.proofs.Common.{ℕ, ◌-◌, ◌<◌, length, sym, ◌∙◌, arith, length-set}
use Rattle.rules.specs.Tree.{most_steps, kinds}
use Rattle.tree_tables.proofs.Laws.Filling.{end_kind, open_kind}
use Rattle.dag_lasting.specs.Laws.Filling.{Child, reach, same_room, passed_start, end_lasting, filled-stored}
use Rattle.dag_lasting.specs.Laws.Filling.{passed-root, passed_first, room_back, passed-child, parts-short, passed-turn}
use Rattle.dag_lasting.specs.Laws.Filling.{tabled_again, tabled_through, tabled_back, tabled_end, tabled_open}
use Rattle.dag_lasting.proofs.+rest_task.Goals as goal
use Rattle.dag_lasting.proofs.+rest_task.Goals.{rest-After-task-child}

-- The step before ends a child, whose first step `task` answers,
child : (t : ℕ) (c : rest-After-task-child t) → Child (kinds c.args.tree.now) c.task-child.result.0 c.loop-at.at
child t c =
    let end = sym c.kind.ensures ∙ c.if-kind-ne-END.false in
    passed-child c.loop-at.invariant.passed (omega arith) (end_kind _ _ end) c.task-child.ensures.first

-- and all indices are in the tables.
indices : (t : ℕ) (c : rest-After-task-child t)
    → let at = c.loop-at.at in
    let first = c.task-child.result.0 in
    let tables = c.task-child.new in
    (0 < first) × (first < at) × (at < most_steps) × (at < length tables.lasting) × (at < length tables.ends)
    × (at < length tables.openers)
indices t c =
    let p = c.loop-at.invariant.passed in
    let far = reach p.given in
    let u = c.task-child.ensures.tabled in
    let inside : c.loop-at.at < length (kinds c.args.tree.now) = omega (arith, p.within, p.given.step) in (
      (child t c).some,
      (child t c).before,
      omega (arith, p.within),
      omega (arith, p.within, c.task-child.auto.lasting),
      omega (arith, inside, u.room_ends_lem),
      omega (arith, inside, u.room_openers_lem),
    )

-- ---- `rest`

pub rest-loop-at-init : goal.rest-loop-at-init
rest-loop-at-init t c = record { passed = passed_start c.requires.room c.requires.lasting; tabled = c.requires.tabled }

pub rest-returns-then-kind-ne-END-clause-first : goal.rest-returns-then-kind-ne-END-clause-first
rest-returns-then-kind-ne-END-clause-first t c =
    let opens = open_kind (kinds c.args.tree.now) (c.loop-at.at - 1) (λ e. c.if-kind-ne-END.true (c.kind.ensures ∙ e)) in
    passed_first c.loop-at.invariant.passed (omega arith) opens

pub rest-returns-then-kind-ne-END-clause-filled : goal.rest-returns-then-kind-ne-END-clause-filled
rest-returns-then-kind-ne-END-clause-filled t c = c.loop-at.invariant.passed.filled

pub rest-returns-then-kind-ne-END-clause-tabled : goal.rest-returns-then-kind-ne-END-clause-tabled
rest-returns-then-kind-ne-END-clause-tabled t c = c.loop-at.invariant.tabled

pub rest-task-child-requires : goal.rest-task-child-requires
rest-task-child-requires t c =
    let p = c.loop-at.invariant.passed in
    let end = sym c.kind.ensures ∙ c.if-kind-ne-END.false in
    (omega (arith, p.within, c.decreases), (room_back p, (end, tabled_back c.loop-at.invariant.tabled (omega arith))))

pub rest-overflow_sub-opener : goal.rest-overflow_sub-opener
rest-overflow_sub-opener t c = (child t (goal.at.rest-overflow_sub-opener t c).After-task-child).some

pub rest-bounds-lasting-first : goal.rest-bounds-lasting-first
rest-bounds-lasting-first t c = omega (arith, indices t (goal.at.rest-bounds-lasting-first t c).After-task-child)

pub rest-offset_bounds-lasting-at : goal.rest-offset_bounds-lasting-at
rest-offset_bounds-lasting-at t c = omega (arith, indices t (goal.at.rest-offset_bounds-lasting-at t c).After-task-child)

pub rest-bounds-lasting-at : goal.rest-bounds-lasting-at
rest-bounds-lasting-at t c = omega (arith, indices t (goal.at.rest-bounds-lasting-at t c).After-task-child)

pub rest-joined-requires-clause-child_le_longest : goal.rest-joined-requires-clause-child_le_longest
rest-joined-requires-clause-child_le_longest t c =
    let k = child t (goal.at.rest-joined-requires-clause-child_le_longest t c).After-task-child in
    (parts-short c.loop-at.invariant.passed k c.task-child.ensures.filled).0

pub rest-joined-requires-clause-rest_le_longest : goal.rest-joined-requires-clause-rest_le_longest
rest-joined-requires-clause-rest_le_longest t c =
    let k = child t (goal.at.rest-joined-requires-clause-rest_le_longest t c).After-task-child in
    (parts-short c.loop-at.invariant.passed k c.task-child.ensures.filled).1

pub rest-offset_bounds-ends-at : goal.rest-offset_bounds-ends-at
rest-offset_bounds-ends-at t c = omega (arith, indices t (goal.at.rest-offset_bounds-ends-at t c).After-task-child)

pub rest-bounds-ends-at : goal.rest-bounds-ends-at
rest-bounds-ends-at t c = omega (arith, indices t (goal.at.rest-bounds-ends-at t c).After-task-child)

pub rest-overflow_cast-openers : goal.rest-overflow_cast-openers
rest-overflow_cast-openers t c = omega (arith, indices t (goal.at.rest-overflow_cast-openers t c).After-task-child)

pub rest-bounds-openers-first : goal.rest-bounds-openers-first
rest-bounds-openers-first t c = omega (arith, indices t (goal.at.rest-bounds-openers-first t c).After-task-child)

pub rest-overflow_cast-openers-in-loop-at : goal.rest-overflow_cast-openers-in-loop-at
rest-overflow_cast-openers-in-loop-at t c =
    omega (arith, indices t (goal.at.rest-overflow_cast-openers-in-loop-at t c).After-task-child)

pub rest-offset_bounds-openers-at : goal.rest-offset_bounds-openers-at
rest-offset_bounds-openers-at t c = omega (arith, indices t (goal.at.rest-offset_bounds-openers-at t c).After-task-child)

pub rest-bounds-openers-at : goal.rest-bounds-openers-at
rest-bounds-openers-at t c =
    simp length-set (omega (arith, indices t (goal.at.rest-bounds-openers-at t c).After-task-child))

pub rest-loop-at-smaller : goal.rest-loop-at-smaller
rest-loop-at-smaller t c = omega (arith, indices t (goal.at.rest-loop-at-smaller t c).After-task-child)

pub rest-loop-at-preserved : goal.rest-loop-at-preserved
rest-loop-at-preserved t c =
    let k = child t (goal.at.rest-loop-at-preserved t c).After-task-child in
    let i = c.loop-at.invariant in
    let e = c.task-child.ensures in record {
      passed = passed-turn i.passed k e.filled c.task-child.auto.lasting c.weight-own.ensures (omega arith)
          (rw c.kind-in-loop-at.ensures at c.joined.ensures);
      tabled = tabled_open _ i.passed.given.accepts k (tabled_through i.tabled e.tabled);
    }

pub rest-returns-clause-first : goal.rest-returns-clause-first
rest-returns-clause-first t c = passed-root c.loop-at.invariant.passed (omega arith)

pub rest-returns-clause-filled : goal.rest-returns-clause-filled
rest-returns-clause-filled t c = c.loop-at.invariant.passed.filled

pub rest-returns-clause-tabled : goal.rest-returns-clause-tabled
rest-returns-clause-tabled t c = c.loop-at.invariant.tabled

-- ---- `task`

pub task-overflow_cast-ends : goal.task-overflow_cast-ends
task-overflow_cast-ends t c = omega (arith, reach c.requires.room)

pub task-rest-requires : goal.task-rest-requires
task-rest-requires t c =
    let g = c.requires.room in
    let end = end_kind _ _ c.requires.is_end in
    let l = end_lasting g end c.weight.ensures (omega arith) in
    let tables = tabled_again (tabled_end _ g.accepts end c.requires.tabled) in
    (omega (arith, c.decreases), (same_room (simp length-set) g, (l, tables)))

pub task-returns : goal.task-returns
task-returns t c =
    let end = tabled_end _ c.requires.room.accepts (end_kind _ _ c.requires.is_end) c.requires.tabled in
    let e = c.rest.ensures in
    record { first = e.first; filled = filled-stored _ _ e.filled; tabled = tabled_through end e.tabled }
