-- Where the kind is one of the three, the record's first four bytes, read as one number, are below 16 times 256 exactly where byte 1
-- is below 16 and bytes 2 and 3 are zero.
use Rattle.std.proofs.Common.{sym, ◌∙◌, arith}
use Rattle.tree.specs.Laws.Records.{length-kinds}
use Rattle.tree.specs.Laws.Acceptance.{formed_other, head-below, well_formed-at}
use Rattle.tree.proofs.validation.well_formed.Goals as goal

pub overflow_mul-kind : goal.overflow_mul-kind
overflow_mul-kind c = omega (arith, length-kinds c.args.tree.now)

pub bounds-tree-i : goal.bounds-tree-i
bounds-tree-i c = omega (arith, length-kinds c.args.tree.now)

pub returns-then-kind-lt-ASYNC : goal.returns-then-kind-lt-ASYNC
returns-then-kind-lt-ASYNC c =
    sym (well_formed-at c.args.tree.now c.args.i c.requires ∙ formed_other _ _ _ _ (λ j l u e. absurd (omega arith)))

pub returns-then-kind-gt-END : goal.returns-then-kind-gt-END
returns-then-kind-gt-END c =
    sym (well_formed-at c.args.tree.now c.args.i c.requires ∙ formed_other _ _ _ _ (λ j l u e. absurd (omega arith)))

pub word-requires : goal.word-requires
word-requires c = omega (arith, length-kinds c.args.tree.now)

pub returns : goal.returns
returns c =
    head-below _ _ _ _ _ c.word.ensures (omega arith) (omega arith) ∙ sym (well_formed-at c.args.tree.now c.args.i c.requires)
