-- The tree is judged as the rules do, then the room; nothing refuses after that.
use Rattle.std.proofs.Common.{◌≡◌, Ok, refl, length, arith}
use Rattle.rules.specs.Tree.{kinds, tree_verdict}
use Rattle.tree.specs.Contract.{accepted_of, acceptance}
use Rattle.tree_scan.specs.Laws.Frames.{accepted-frame}
use Rattle.dag_span.specs.Laws.Results.{tree-accepts, steps-are, short-refuses, measured-meets}
use Rattle.dag_span.proofs.span.Goals as goal
use Rattle.dag_span.proofs.span.Goals.{In_ok-steps}

-- What is answered of the tree is a count, whatever form hands it on:
judged : (c : In_ok-steps) → accepted_of (Ok c.in_ok-steps.steps) ≡ acceptance c.args.tree.now
judged c = grind arith

-- the tree is accepted,
accepts : (c : In_ok-steps) → (tree_verdict c.args.tree.now).number ≡ 0
accepts c = tree-accepts _ c.args.chain.now _ (judged c) refl

-- and the count is that of its steps.
counted : (c : In_ok-steps) → c.in_ok-steps.steps ≡ length (kinds c.args.tree.now)
counted c = steps-are _ c.args.chain.now _ (judged c) refl

pub overflow_mul-steps : goal.overflow_mul-steps
overflow_mul-steps c = omega (arith, counted c, (accepted-frame _ (accepts c)).most)

pub returns-then-chain-steps : goal.returns-then-chain-steps
returns-then-chain-steps c =
    let at = (goal.at.returns-then-chain-steps c).In_ok-steps in
    let so = short-refuses _ c.args.chain.now _ (judged at) refl (omega (arith, counted at)) in
    record { answers = rw c.into.ensures so.0; chain = so.1 }

pub measure-requires : goal.measure-requires
measure-requires c =
    let at = (goal.at.measure-requires c).In_ok-steps in
    record { accepted = accepts at; chain_room = omega (arith, counted at) }

pub returns : goal.returns
returns c =
    let at = (goal.at.returns c).In_ok-steps in
    let so = measured-meets _ c.args.chain.now _ (judged at) refl (omega (arith, counted at)) _ _ c.measure.ensures in
    record { answers = so.0; chain = so.1 }
