-- The last step ends the root, whose first step is step 0, so the task filled from there is the whole tree.
use Rattle.std.proofs.Common.{suc, ◌-◌, ◌≡◌, ◌∙◌, length, arith}
use Rattle.rules.specs.Tree.{kinds, kind_at, task}
use Rattle.tree_scan.specs.Laws.Frames.{Frame, accepted-frame}
use Rattle.tree_tables.proofs.Laws.Filling.{fill_start, filled-ends, filled-openers}
use Rattle.dag_lasting.specs.Laws.Filling.{root_ends}
use Rattle.dag_lasting.proofs.fill.Goals as goal
use Rattle.dag_lasting.proofs.fill.Goals.{After-steps-end}

-- The tree is accepted, and its last step ends the root.
frame : (c : After-steps-end) → Frame c.args.tree.now
frame c = accepted-frame c.args.tree.now c.requires.accepted

last : (c : After-steps-end)
    → let end = c.steps-end.result - 1 in
    (kind_at (kinds c.args.tree.now) end ≡ 3) × (task (kinds c.args.tree.now) end ≡ 0)
last c = root_ends (kinds c.args.tree.now) (frame c).shape c.steps-end.result c.steps-end.ensures (frame c).some

pub overflow_sub-end : goal.overflow_sub-end
overflow_sub-end c = omega (arith, (frame (goal.at.overflow_sub-end c).After-steps-end).some)

pub task-requires : goal.task-requires
task-requires c =
    let s = (goal.at.task-requires c).After-steps-end in
    let ks = kinds c.args.tree.now in
    let f = frame s in
    let pre = c.requires in
    let whole : suc (c.steps-end.result - 1) ≡ length ks = omega (arith, f.some) in
    record {
      room = record { accepts = pre.accepted; step = omega (arith, f.some); room = pre.lasting_room };
      is_end = (last s).0;
      tabled = rw whole (fill_start ks f.shape _ _ pre.ends_room pre.openers_room);
    }

pub returns : goal.returns
returns c =
    let s = (goal.at.returns c).After-steps-end in
    let ks = kinds c.args.tree.now in
    let f = frame s in
    let e = c.task.ensures in
    let first : c.task.result.0 ≡ 0 = e.first ∙ (last s).1 in
    let tables = rw first at e.tabled in
    record {
      lasting = λ j l u. e.filled.lasting j (omega (arith, first)) (omega (arith, c.steps-end.ensures));
      ends = filled-ends ks f.shape _ _ _ _ tables;
      openers = filled-openers ks f.shape _ _ _ _ tables;
    }
