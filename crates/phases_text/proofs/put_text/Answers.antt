-- The parts that it cuts an input into are the rules' policy, tree and trace, and its count of workers is the rules' sixteen; its own run
-- list has room for every tree, so replay's verdict is the one that the rules print; and either text, of a refusal or of a run list,
-- is the rules' text.
use Rattle.std.proofs.Common.{ℕ, List, ◌≡◌, ◌∙◌, Ok, length, ap, refl, arith}
use Rattle.rules.specs.Tree.{kinds}
use Rattle.rules.specs.Program.{input_tree}
use Rattle.refusals.specs.Laws.Numbers.{number-some}
use Rattle.replay.specs.Contract.{answers_of}
use Rattle.phases_text.specs.Number.Laws.Texts.{text_is}
use Rattle.phases_text.specs.Laws.Phases.{Called, parts_called, called_refused, called-steps, called-room, called-phases}
use Rattle.phases_text.specs.Laws.Phases.{called-listed}
use Rattle.phases_text.proofs.put_text.Goals as goal
use Rattle.phases_text.proofs.put_text.Goals.{After-steps}

-- What is known past an accepted call, and of how many steps its tree has.
called : (c : After-steps) → Called c.args.input.now (answers_of (Ok c.in-Ok.field-0)) c.replay.new.list
called c =
    let e = rw c.of-setup.ensures at c.in-Ok.ensures.answers in
    let l = rw c.of-setup.ensures at c.in-Ok.ensures.list in
    parts_called c.parts_of-parts.ensures _ _ _ e l refl

steps-are : (c : After-steps) → c.steps.result ≡ length (kinds (input_tree c.args.input.now))
steps-are c = c.steps.ensures ∙ ap (λ (l : List ℕ). length (kinds l)) c.parts_of-parts.ensures.tree_is

pub put_listing-requires : goal.put_listing-requires
put_listing-requires c =
    let known = called c in
    let same = steps-are c in
    let phases = rw (← same, ← c.parts_of-parts.ensures.trace_is) at (called-phases known refl) in
    (omega (arith, called-room known refl), omega (arith, called-steps known refl, c.requires), phases)

pub returns-in-Ok : goal.returns-in-Ok
returns-in-Ok c =
    let put = c.put_listing in
    let at = (goal.at.returns-in-Ok c).After-steps in
    let all = rw (← steps-are at, ← c.parts_of-parts.ensures.trace_is) at (called-listed (called at) refl) in
    let so = text_is c.args.text.now put.new.text put.result all (put.ensures.counts, put.ensures.text) in
    record { counts = so.0; text = so.1 }

pub returns-in-Err : goal.returns-in-Err
returns-in-Err c =
    let put = c.put_refusal in
    let e = rw c.of-setup.ensures at c.in-Err.ensures.answers in
    let l = rw c.of-setup.ensures at c.in-Err.ensures.list in
    let known = parts_called c.parts_of-parts.ensures _ _ _ e l refl in
    let all = called_refused known (λ z. omega (arith, number-some c.in-Err.refused.refusal)) in
    let counts = rw c.number.ensures at put.ensures.counts in
    let text = rw c.number.ensures at put.ensures.text in
    let so = text_is c.args.text.now put.new.text put.result all (counts, text) in
    record { counts = so.0; text = so.1 }
