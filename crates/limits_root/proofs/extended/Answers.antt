-- The test decides whether the rest has what a digit 1 takes.
use Rattle.std.proofs.Common.{sym, ◌∙◌, rules, leb-false}
use Rattle.limits_root.specs.Terms.{value, number}
use Rattle.limits_root.specs.Laws.{digit_0, digit_1}
use Rattle.limits_root.proofs.extended.Goals as goal

pub returns-then-at_most : goal.returns-then-at_most
unfolding number
returns-then-at_most c =
    let r = c.args.r in
    let all = c.quadrupled-rest in
    let step = c.quadrupled-step in
    let longer = c.doubled in
    let left = c.minus in
    let next =
    digit_1 (value r.root) (value r.rest) c.args.pair (value all.result) (value step.result)
    (value longer.result) c.requires.2 c.requires.0.less all.ensures.0 step.ensures.0
    (value left.result) longer.ensures.0 left.ensures.0 in
    record { rounded = record { digits = search rules; less = next.1 }; whole = next.0; digit = search rules }

pub returns : goal.returns
unfolding number
returns c =
    let r = c.args.r in
    let all = c.quadrupled-rest in
    let step = c.quadrupled-step in
    let longer = c.doubled-2 in
    let next =
    digit_0 (value r.root) (value r.rest) c.args.pair (value all.result) (value step.result)
    (value longer.result) c.requires.2 c.requires.0.less all.ensures.0 step.ensures.0
    longer.ensures.0 (leb-false _ _ (sym c.at_most.ensures ∙ c.if-at_most.false)) in
    record { rounded = record { digits = search rules; less = next.1 }; whole = next.0; digit = search rules }
