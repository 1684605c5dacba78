-- The climb passes the ends of tasks that are no finish children, and some finish child has the step, so it comes to that child's end.
use Rattle.std.proofs.Common.{◌≡◌, get_or, sym, arith}
use Rattle.rules.specs.Tree.{kinds, kind_at}
use Rattle.tree_tables.proofs.Laws.Filling.{end_kind}
use Rattle.dag_walk.specs.Laws.Steps.{climb_first, climb-on, climb-less, climb-found}
use Rattle.dag_walk.proofs.after_finish.Goals as goal
use Rattle.dag_walk.proofs.after_finish.Goals.{After-kind}

-- The kind that was read is that of the opener in the table.
opener-kind : (c : After-kind) → kind_at (kinds c.args.tree.now) (get_or c.args.openers.now c.loop-next.next 0) ≡ c.kind.result
opener-kind c = sym (rw c.wide.ensures at c.kind.ensures)

pub loop-next-init : goal.loop-next-init
loop-next-init c =
    climb_first _ _ _ c.requires.tables _ c.requires.end_within (end_kind _ _ c.requires.is_end) c.requires.held

pub loop-next-smaller : goal.loop-next-smaller
loop-next-smaller c =
    let inv = c.loop-next.invariant in
    omega (arith, c.wide-next.ensures, inv.room, climb-less _ _ _ c.requires.tables _ _ inv)

pub loop-next-preserved : goal.loop-next-preserved
loop-next-preserved c =
    rw c.wide-next.ensures
    (climb-on _ _ _ c.requires.tables _ _ c.loop-next.invariant c.requires.held
    (λ two. omega (arith, opener-kind (goal.at.loop-next-preserved c).After-kind)))

pub returns : goal.returns
returns c =
    climb-found _ _ _ c.requires.tables _ _ c.loop-next.invariant (omega (arith, opener-kind (goal.at.returns c).After-kind))
