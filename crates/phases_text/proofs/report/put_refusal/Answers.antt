-- It puts a word, and a line of two numbers behind it.
use Rattle.std.proofs.Common.{ℕ, ◌+◌, List, [], ◌∷◌, ◌++◌, refl, arith}
use Rattle.rules.specs.Program.{line, refused_line}
use Rattle.buffers.specs.Laws.Fronts.{with_part, Front, front_first, front_next}
use Rattle.phases_text.specs.Number.Laws.Texts.{front_is, line_most}
use Rattle.phases_text.specs.Report.Terms.{refusal_text}
use Rattle.phases_text.proofs.report.put_refusal.Goals as goal
use Rattle.phases_text.proofs.report.put_refusal.Goals.{After-put_two}

-- "refused", and a space.
abbrev word : List ℕ
word = 114 ∷ 101 ∷ 102 ∷ 117 ∷ 115 ∷ 101 ∷ 100 ∷ 32 ∷ []

-- What is written after the line.
both : (c : After-put_two)
    → let put = c.put_bytes-at in
    Front c.args.text.now (word ++ line (c.args.number ∷ c.args.position ∷ []))
    (with_part put.new.text put.result c.put_two.new.text) (put.result + c.put_two.result)
both c =
    let a = c.args in
    let first = c.put_bytes-at.ensures in
    let one = front_first a.text.now word _ _ (omega arith) (first.counts, first.text) in
    let next = c.put_two.ensures in
    front_next one (line (a.number ∷ a.position ∷ [])) _ _ (omega (arith, line_most a.number (a.position ∷ []))) (next.counts, next.text)

pub overflow_add-result : goal.overflow_add-result
overflow_add-result c = omega (arith, (both (goal.at.overflow_add-result c).After-put_two).fits)

pub returns : goal.returns
unfolding refusal_text refused_line
returns c =
    let put = front_is (both (goal.at.returns c).After-put_two) refl in
    record { counts = put.0; text = put.1 }
