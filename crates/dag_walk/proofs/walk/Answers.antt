-- The walk from the root is the rules' chain; each step is higher than the one before, so there are no more of them than the buffer has
-- room for.
use Rattle.std.proofs.Common.{arith}
use Rattle.tree_tables.proofs.Laws.Filling.{end_kind}
use Rattle.dag_walk.specs.Laws.Steps.{frame}
use Rattle.dag_walk.specs.Laws.Walking.{walk_start, walk_last, walk-held, walk-higher, walk_turn}
use Rattle.dag_walk.proofs.walk.Goals as goal

pub bounds-lasting-0 : goal.bounds-lasting-0
bounds-lasting-0 c = omega (arith, c.requires.lasted.room, (frame _ _ _ c.requires.tables).some)

pub loop-left-init : goal.loop-left-init
loop-left-init c =
    let f = frame _ _ _ c.requires.tables in
    walk_start _ _ f.shape _ c.requires.chain_room f.some _ (c.requires.lasted.all 0 (omega arith) f.some).0

pub returns-then-left-own : goal.returns-then-left-own
returns-then-left-own c =
    walk_last _ _ (frame _ _ _ c.requires.tables).shape _ c.requires.chain_room _ _ _ _ c.loop-left.invariant _ c.weight-own.ensures _
    c.put_step.ensures c.if-left-own.true

pub next_step-step-requires-clause-held : goal.next_step-step-requires-clause-held
next_step-step-requires-clause-held c end =
    walk-held _ _ (frame _ _ _ c.requires.tables).shape _ c.requires.chain_room _ _ _ _ c.loop-left.invariant _ c.weight-own.ensures _
    c.put_step.ensures (omega arith) (end_kind _ _ end)

pub loop-left-smaller : goal.loop-left-smaller
loop-left-smaller c =
    omega (
      arith,
      walk-higher _ _ (frame _ _ _ c.requires.tables).shape _ c.requires.chain_room _ _ _ _ c.loop-left.invariant _
          c.weight-own.ensures _ c.put_step.ensures (omega arith) _ c.next_step-step.ensures,
    )

pub loop-left-preserved : goal.loop-left-preserved
loop-left-preserved c =
    walk_turn _ _ (frame _ _ _ c.requires.tables).shape _ c.requires.chain_room _ _ _ _ c.loop-left.invariant _ c.weight-own.ensures _
    c.put_step.ensures (omega arith) _ c.next_step-step.ensures
