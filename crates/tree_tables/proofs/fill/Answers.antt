-- An end's task ends behind it. An opening step finds its continuation where its child's task ends, and its own end where the
-- continuation's is, both filled before.
use Rattle.std.proofs.Common.{ℕ, suc, ◌+◌, ◌-◌, ◌*◌, ◌≤◌, ◌<◌, ◌≡◌, ◌∙◌, List, length, get_or, true, false, sym, arith, length-set}
use Rattle.rules.specs.Tree.{kinds, kind_at, cont, tree_verdict}
use Rattle.tree.specs.Laws.Records.{length-kinds, kind_at_lem}
use Rattle.tree_scan.specs.Laws.Frames.{Frame, end_at, accepted-frame}
use Rattle.tree_tables.proofs.Laws.Filling.{Filled, end_kind, open_kind, fill_start, fill-turn, fill_end, fill-after}
use Rattle.tree_tables.proofs.Laws.Filling.{fill-inside, fill-open, filled-openers}
use Rattle.tree_tables.proofs.fill.Goals as goal

-- The step before j of an accepted tree, whose tables are filled from j on.
module _ (tree : List ℕ) (accepts : (tree_verdict tree).number ≡ 0) {ends₀ openers₀ ends openers : List ℕ} {j : ℕ}
    (f : Filled (kinds tree) ends₀ openers₀ ends openers j) where
  frame : Frame tree
  frame = accepted-frame tree accepts

  near : j ≤ 4095
  near = omega (arith, f.within, frame.most)

  module _ (some : 0 < j) where
    back : Filled (kinds tree) ends₀ openers₀ ends openers (suc (j - 1))
    back = fill-turn (kinds tree) frame.shape ends₀ openers₀ ends openers j f some

    -- Its kind, as the slice has it.
    kind-back : kind_at (kinds tree) (j - 1) ≡ get_or tree (8 * (j - 1)) 0
    kind-back = kind_at_lem tree (j - 1) (omega (arith, length-kinds tree, f.within))

    at-end : get_or tree (8 * (j - 1)) 0 ≡ 3 → end_at (kinds tree) (j - 1) ≡ true
    at-end e = end_kind (kinds tree) (j - 1) (kind-back ∙ e)

    -- It opens a task.
    module _ (other : get_or tree (8 * (j - 1)) 0 ≡ 3 → ⊥) where
      opens : end_at (kinds tree) (j - 1) ≡ false
      opens = open_kind (kinds tree) (j - 1) (λ e. other (sym kind-back ∙ e))

      -- Its child and its continuation are steps, and the continuation is the one that is read.
      child : j - 1 + 1 < length (kinds tree)
      child = (fill-inside (kinds tree) frame.shape ends₀ openers₀ ends openers (j - 1) back opens).0

      next : (at : ℕ) → at ≡ get_or ends (j - 1 + 1) 0 → at ≡ cont (kinds tree) (j - 1)
      next at e = e ∙ fill-after (kinds tree) frame.shape ends₀ openers₀ ends openers (j - 1) back opens

      next-inside : (at : ℕ) → at ≡ get_or ends (j - 1 + 1) 0 → at < length (kinds tree)
      next-inside at e = omega (arith, next at e, fill-inside (kinds tree) frame.shape ends₀ openers₀ ends openers (j - 1) back opens)

pub loop-j-init : goal.loop-j-init
loop-j-init c =
    let tree = c.args.tree.now in
    let shape = (accepted-frame tree c.requires.accepted).shape in
    rw (← length-kinds tree) (fill_start (kinds tree) shape _ _ c.requires.ends_room c.requires.openers_room)

pub overflow_cast-ends : goal.overflow_cast-ends
overflow_cast-ends c = omega (arith, near c.args.tree.now c.requires.accepted c.loop-j.invariant)

pub loop-j-preserved-then-tree-j-eq-END : goal.loop-j-preserved-then-tree-j-eq-END
loop-j-preserved-then-tree-j-eq-END c =
    let tree = c.args.tree.now in
    let shape = (accepted-frame tree c.requires.accepted).shape in
    let f = c.loop-j.invariant in
    fill_end (kinds tree) shape _ _ _ _ (c.loop-j.j - 1) (back tree c.requires.accepted f (omega arith))
    (at-end tree c.requires.accepted f (omega arith) c.if-tree-j-eq-END.true)

pub bounds-ends-j-in-loop-j : goal.bounds-ends-j-in-loop-j
bounds-ends-j-in-loop-j c =
    let f = c.loop-j.invariant in
    omega (arith, f.room_ends_lem, child c.args.tree.now c.requires.accepted f (omega arith) c.if-tree-j-eq-END.false)

pub bounds-ends-after : goal.bounds-ends-after
bounds-ends-after c =
    let f = c.loop-j.invariant in
    let after = c.wide-after in
    let inside = next-inside c.args.tree.now c.requires.accepted f (omega arith) c.if-tree-j-eq-END.false after.result after.ensures in
    omega (arith, f.room_ends_lem, inside)

pub overflow_cast-openers : goal.overflow_cast-openers
overflow_cast-openers c = omega (arith, near c.args.tree.now c.requires.accepted c.loop-j.invariant)

pub bounds-openers-j : goal.bounds-openers-j
bounds-openers-j c =
    let f = c.loop-j.invariant in
    omega (arith, f.room_openers_lem, child c.args.tree.now c.requires.accepted f (omega arith) c.if-tree-j-eq-END.false)

pub overflow_cast-openers-in-loop-j : goal.overflow_cast-openers-in-loop-j
overflow_cast-openers-in-loop-j c = omega (arith, near c.args.tree.now c.requires.accepted c.loop-j.invariant)

pub bounds-openers-after : goal.bounds-openers-after
bounds-openers-after c =
    let f = c.loop-j.invariant in
    let after = c.wide-after in
    let inside = next-inside c.args.tree.now c.requires.accepted f (omega arith) c.if-tree-j-eq-END.false after.result after.ensures in
    simp length-set (omega (arith, f.room_openers_lem, inside))

pub loop-j-preserved : goal.loop-j-preserved
loop-j-preserved c =
    let tree = c.args.tree.now in
    let shape = (accepted-frame tree c.requires.accepted).shape in
    let f = c.loop-j.invariant in
    let other = c.if-tree-j-eq-END.false in
    fill-open (kinds tree) shape _ _ _ _ (c.loop-j.j - 1) (back tree c.requires.accepted f (omega arith))
    (opens tree c.requires.accepted f (omega arith) other) c.wide-after.result
    (next tree c.requires.accepted f (omega arith) other c.wide-after.result c.wide-after.ensures)

pub returns-clause-openers : goal.returns-clause-openers
returns-clause-openers c =
    let tree = c.args.tree.now in
    let first : c.loop-j.j ≡ 0 = omega arith in
    filled-openers (kinds tree) (accepted-frame tree c.requires.accepted).shape _ _ _ _ (rw first at c.loop-j.invariant)
