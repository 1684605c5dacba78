-- It asks what the rule asks, in rising number, and while 64 tasks are open only an end is let through.
use Rattle.std.proofs.Common.{ℕ, List, [], ◌≡◌, true, get_or, sym, ◌∙◌, arith}
use Rattle.rules.specs.Tree.{tree_records, well_formed, kind}
use Rattle.tree.specs.Laws.Records.{length-kinds}
use Rattle.tree.specs.Laws.Acceptance.{record_kind, judge_malformed, judge_full, judge_last_end, judge_after, judge_fine}
use Rattle.tree.proofs.validation.judge_record.Goals as goal
use Rattle.tree.proofs.validation.judge_record.Goals.{Else-not-well_formed}

-- Record i of a tree.
abbrev record_at : List ℕ → ℕ → List ℕ
record_at tree i = get_or (tree_records tree) i []

-- The record is well formed.
formed : (c : Else-not-well_formed) → let a = c.args in well_formed (record_at a.tree.now a.i) ≡ true
formed c = sym c.well_formed-2.ensures ∙ c.if-not-well_formed.false

pub returns-then-not-well_formed : goal.returns-then-not-well_formed
returns-then-not-well_formed c =
    let a = c.args in
    sym (judge_malformed a.depth (record_at a.tree.now a.i) (sym c.well_formed-2.ensures ∙ c.if-not-well_formed.true))

pub overflow_mul-i : goal.overflow_mul-i
overflow_mul-i c = omega (arith, length-kinds c.args.tree.now)

pub bounds-tree-i : goal.bounds-tree-i
bounds-tree-i c = omega (arith, length-kinds c.args.tree.now)

pub returns-then-tree-i-eq-END : goal.returns-then-tree-i-eq-END
returns-then-tree-i-eq-END c =
    let a = c.args in
    let full = c.if-depth-eq-MOST_OPEN.true in
    let end = record_kind a.tree.now a.i c.requires ∙ c.if-tree-i-eq-END.true in
    sym (judge_last_end a.depth (record_at a.tree.now a.i) (formed (goal.at.returns-then-tree-i-eq-END c).Else-not-well_formed) full end)

pub returns-then-depth-eq-MOST_OPEN : goal.returns-then-depth-eq-MOST_OPEN
returns-then-depth-eq-MOST_OPEN c =
    let a = c.args in
    let full = c.if-depth-eq-MOST_OPEN.true in
    let opens : kind (record_at a.tree.now a.i) ≡ 3 → ⊥ =
    λ e. c.if-tree-i-eq-END.false (sym (record_kind a.tree.now a.i c.requires) ∙ e)
    in
    sym (judge_full a.depth (record_at a.tree.now a.i) (formed (goal.at.returns-then-depth-eq-MOST_OPEN c).Else-not-well_formed) full opens)

pub returns-then-depth-eq0 : goal.returns-then-depth-eq0
returns-then-depth-eq0 c =
    let a = c.args in
    let fine = formed (goal.at.returns-then-depth-eq0 c).Else-not-well_formed in
    sym (judge_after a.depth (record_at a.tree.now a.i) fine c.if-depth-eq0.true)

pub returns : goal.returns
returns c =
    let a = c.args in
    let fine = formed (goal.at.returns c).Else-not-well_formed in
    sym (judge_fine a.depth (record_at a.tree.now a.i) fine c.if-depth-eq-MOST_OPEN.false c.if-depth-eq0.false)
