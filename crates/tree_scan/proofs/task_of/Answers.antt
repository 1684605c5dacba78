-- An opening that no end matches opens the step's task, and the openings that bring the count of ends to 0 open its children.
use Rattle.std.proofs.Common.{ℕ, ◌≡◌, ◌∙◌, ◌+◌, ◌-◌, ◌≤◌, ◌<◌, List, length, sym, arith}
use Rattle.std.proofs.Math.Decide.{dec_le}
use Rattle.rules.specs.Tree.{kinds, task, ordinal}
use Rattle.tree.specs.Laws.Records.{length-kinds, kind_at_lem}
use Rattle.tree_scan.specs.declared.Task.{Task}
use Rattle.tree_scan.specs.Contract.{task_of}
use Rattle.tree_scan.specs.Laws.Scans.{Backward, backward_start, backward_start_past, backward_turn, backward_end}
use Rattle.tree_scan.specs.Laws.Scans.{backward_found, backward_child, backward_inner, backward_done}
use Rattle.tree_scan.proofs.task_of.Goals as goal

-- The scan begins at the step, or at the tree's end where that comes first.
start : (ks : List ℕ) (i j : ℕ) → (i ≤ length ks → j ≡ i) → (length ks ≤ i → j ≡ length ks) → Backward ks i j 0 0
start ks i j inside past =
    elim (dec_le i (length ks)) [
      | yes h ↦ rw (inside h) (backward_start ks i h)
      | no n ↦ rw (past (omega arith)) (backward_start_past ks i (omega arith))
    ]

-- What holds at j holds one record behind the one before.
turn : (ks : List ℕ) (i j ended n children : ℕ) → Backward ks i j ended children → 0 < j → n ≡ ended → Backward ks i (j - 1 + 1) n children
turn ks i j ended n children b h e = rw e (backward_turn ks i j ended children b h)

-- The answer from its parts.
answer : (ks : List ℕ) (i f o : ℕ) → task ks i ≡ f → ordinal ks i ≡ o
    → ◌≡◌ {A = Task} (record { first = record { 0 = f }; ordinal = record { 0 = o } }) (task_of ks i)
unfolding task_of
answer ks i f o first count = λ k. record { first = record { 0 = sym first k }; ordinal = record { 0 = sym count k } }

pub loop-j-init : goal.loop-j-init
loop-j-init c =
    let tree = c.args.tree.now in
    start (kinds tree) c.args.step.0 c.min-j.result (λ h. omega (arith, c.min-j.ensures, length-kinds tree))
    (λ h. omega (arith, c.min-j.ensures, length-kinds tree))

pub overflow_add-ended : goal.overflow_add-ended
overflow_add-ended c = omega (arith, length-kinds c.args.tree.now)

pub loop-j-preserved-then-tree-j-eq-END : goal.loop-j-preserved-then-tree-j-eq-END
loop-j-preserved-then-tree-j-eq-END c =
    let tree = c.args.tree.now in
    let loop = c.loop-j in
    let behind = backward_turn (kinds tree) c.args.step.0 loop.j loop.ended loop.children loop.invariant (omega arith) in
    let end = kind_at_lem tree (loop.j - 1) (omega (arith, length-kinds tree)) ∙ c.if-tree-j-eq-END.true in
    backward_end (kinds tree) c.args.step.0 (loop.j - 1) loop.ended loop.children behind end

pub returns-then-ended-eq0 : goal.returns-then-ended-eq0
returns-then-ended-eq0 c =
    let tree = c.args.tree.now in
    let loop = c.loop-j in
    let i = c.args.step.0 in
    let behind = turn (kinds tree) i loop.j loop.ended 0 loop.children loop.invariant (omega arith) (omega arith) in
    let same = kind_at_lem tree (loop.j - 1) (omega (arith, length-kinds tree)) in
    let found = backward_found (kinds tree) i (loop.j - 1) loop.children behind (λ e. c.if-tree-j-eq-END.false (sym same ∙ e)) in
    answer (kinds tree) i (loop.j - 1 + 1) loop.children found.0 found.1

pub overflow_add-children : goal.overflow_add-children
overflow_add-children c = omega (arith, length-kinds c.args.tree.now)

pub loop-j-preserved-then-ended-eq0-2 : goal.loop-j-preserved-then-ended-eq0-2
loop-j-preserved-then-ended-eq0-2 c =
    let tree = c.args.tree.now in
    let loop = c.loop-j in
    let behind = turn (kinds tree) c.args.step.0 loop.j loop.ended 1 loop.children loop.invariant (omega arith) (omega arith) in
    let same = kind_at_lem tree (loop.j - 1) (omega (arith, length-kinds tree)) in
    rw c.if-ended-eq0-2.true
    (backward_child (kinds tree) c.args.step.0 (loop.j - 1) loop.children behind (λ e. c.if-tree-j-eq-END.false (sym same ∙ e)))

pub loop-j-preserved : goal.loop-j-preserved
loop-j-preserved c =
    let tree = c.args.tree.now in
    let loop = c.loop-j in
    let i = c.args.step.0 in
    let behind = turn (kinds tree) i loop.j loop.ended (loop.ended - 1 + 1) loop.children loop.invariant (omega arith) (omega arith) in
    let same = kind_at_lem tree (loop.j - 1) (omega (arith, length-kinds tree)) in
    backward_inner (kinds tree) i (loop.j - 1) (loop.ended - 1) loop.children behind (omega arith)
    (λ e. c.if-tree-j-eq-END.false (sym same ∙ e))

pub returns : goal.returns
returns c =
    let ks = kinds c.args.tree.now in
    let loop = c.loop-j in
    let first : loop.j ≡ 0 = omega arith in
    let found = backward_done ks c.args.step.0 loop.ended loop.children (rw first at loop.invariant) in
    answer ks c.args.step.0 0 loop.children found.0 found.1
