-- Where the loop stops the verdict is the walk's, and at its end the root is open or not.
use Rattle.std.proofs.Common.{ℕ, ◌≡◌, ◌∙◌, ◌/◌, ◌<◌, length, get_or, sym, ap, arith, []}
use Rattle.rules.specs.Bytes.{Verdict}
use Rattle.rules.specs.Tree.{kinds, tree_records, judge_tree_record}
use Rattle.refusals.specs.Numbers.{number_of}
use Rattle.refusals.specs.Laws.Numbers.{number-some, number_none}
use Rattle.tree.specs.Laws.Records.{length-kinds}
use Rattle.tree.specs.Laws.Acceptance.{walking_start, walking-end, walking-open, walking-stop, walking-done}
use Rattle.tree.specs.Laws.Acceptance.{verdict_wrong, verdict_stop, verdict_open, verdict_accepted, answered-refused}
use Rattle.tree.specs.Laws.Acceptance.{answered-accepted}
use Rattle.tree.proofs.validation.accept.Goals as goal
use Rattle.tree.proofs.validation.accept.Goals.{In_default, then-tree-i-eq-END, else-tree-i-eq-END}

-- The record is not refused.
fine : (c : In_default) → judge_tree_record c.loop-i.depth (get_or (tree_records c.args.tree.now) c.loop-i.i []) ≡ 0
fine c = let n = c.in_default.not-Err in sym c.judge_record.ensures ∙ number_none c.judge_record.result n

pub returns-then-wrong_length : goal.returns-then-wrong_length
returns-then-wrong_length c =
    let tree = c.args.tree.now in
    rw c.into.ensures
    (answered-refused tree (record { number = 2; position = 0 })
    (verdict_wrong tree (sym c.wrong_length.ensures ∙ c.if-wrong_length.true)) (λ e. absurd (omega arith)))

pub loop-i-init : goal.loop-i-init
loop-i-init c = walking_start c.args.tree.now

pub judge_record-requires : goal.judge_record-requires
judge_record-requires c = omega (arith, length-kinds c.args.tree.now)

pub returns-in-Err : goal.returns-in-Err
returns-in-Err c =
    let tree = c.args.tree.now in
    let loop = c.loop-i in
    let e = c.in-Err.refusal in
    let same : number_of e ≡ judge_tree_record loop.depth (get_or (tree_records tree) loop.i []) = rw c.in-Err.is at c.judge_record.ensures in
    let some : number_of e ≡ 0 → ⊥ = λ z. omega (arith, number-some e) in
    let stop = walking-stop tree loop.i loop.depth loop.invariant (omega (arith, length-kinds tree)) (λ z. some (same ∙ z)) in
    let here = ap {B = Verdict} (λ (x : ℕ). record { number = x; position = loop.i }) (sym same) in
    let verdict : Verdict = record { number = number_of e; position = loop.i } in
    let right = sym c.wrong_length.ensures ∙ c.if-wrong_length.false in
    rw c.at.ensures (answered-refused tree verdict (verdict_stop tree right verdict (stop ∙ here) some) some)

pub overflow_sub-depth : goal.overflow_sub-depth
overflow_sub-depth c =
    let tree = c.args.tree.now in
    let loop = c.loop-i in
    let f = fine (goal.at.overflow_sub-depth c).In_default in
    (walking-end tree loop.i loop.depth loop.invariant (omega (arith, length-kinds tree)) f c.if-tree-i-eq-END.true).0

pub loop-i-preserved : goal.loop-i-preserved
loop-i-preserved c =
    let tree = c.args.tree.now in
    let loop = c.loop-i in
    let within : loop.i < length (kinds tree) = omega (arith, length-kinds tree) in
    let f = fine (goal.at.loop-i-preserved c).In_default in
    elim c.if-tree-i-eq-END.branch [
      | then-tree-i-eq-END w ↦ rw w.depth-is (walking-end tree loop.i loop.depth loop.invariant within f w.if-tree-i-eq-END.true).1
      | else-tree-i-eq-END w ↦ rw w.depth-is (walking-open tree loop.i loop.depth loop.invariant within f w.if-tree-i-eq-END.false)
    ]

pub returns-then-depth-ne0 : goal.returns-then-depth-ne0
returns-then-depth-ne0 c =
    let tree = c.args.tree.now in
    let right = sym c.wrong_length.ensures ∙ c.if-wrong_length.false in
    let done = walking-done tree c.loop-i.i c.loop-i.depth c.loop-i.invariant (omega (arith, length-kinds tree)) in
    rw c.at-then-depth-ne0.ensures
    (answered-refused tree (record { number = 5; position = length tree / 8 })
    (verdict_open tree right done.0 (λ e. c.if-depth-ne0.true (sym done.1 ∙ e))) (λ e. absurd (omega arith)))

pub returns : goal.returns
returns c =
    let tree = c.args.tree.now in
    let right = sym c.wrong_length.ensures ∙ c.if-wrong_length.false in
    let done = walking-done tree c.loop-i.i c.loop-i.depth c.loop-i.invariant (omega (arith, length-kinds tree)) in
    answered-accepted tree (verdict_accepted tree right done.0 (done.1 ∙ c.if-depth-ne0.false))
