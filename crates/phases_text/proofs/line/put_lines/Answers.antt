-- No line has more than 18 bytes, so there is room for each.
use Rattle.std.proofs.Common.{arith, [], ◌∷◌}
use Rattle.phases_text.specs.Contract.{most_line}
use Rattle.buffers.specs.Laws.Fronts.{front_room}
use Rattle.phases_text.specs.Number.Laws.Texts.{line_most}
use Rattle.phases_text.specs.Line.Laws.Lines.{listing_start, listing-few, listing-turn}
use Rattle.phases_text.proofs.line.put_lines.Goals as goal

pub loop-k-init : goal.loop-k-init
loop-k-init c = listing_start c.args.text.now c.args.trace.now c.args.list.now

pub put_line-at-requires : goal.put_line-at-requires
put_line-at-requires c =
    let a = c.args in
    let loop = c.loop-k in
    front_room loop.invariant most_line
    (omega (arith, listing-few a.text.now a.trace.now a.list.now loop.k loop.text loop.at loop.invariant))

pub overflow_add-at : goal.overflow_add-at
overflow_add-at c =
    let a = c.args in
    let loop = c.loop-k in
    let few = listing-few a.text.now a.trace.now a.list.now loop.k loop.text loop.at loop.invariant in
    let most = line_most c.number_at-phase.result (c.worker_of-worker.result ∷ c.number_at-step.result ∷ []) in
    omega (arith, few, most)

pub loop-k-preserved : goal.loop-k-preserved
loop-k-preserved c =
    let a = c.args in
    let loop = c.loop-k in
    let phase = c.number_at-phase in
    let worker = c.worker_of-worker in
    let step = c.number_at-step in
    let put = c.put_line-at in
    listing-turn a.text.now a.trace.now a.list.now loop.k loop.text loop.at loop.invariant (omega arith) phase.result worker.result
    step.result phase.ensures worker.ensures step.ensures put.new.text put.result (put.ensures.counts, put.ensures.text)
