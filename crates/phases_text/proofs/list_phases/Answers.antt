-- A short buffer is left as it is, and in any other the text is that of the input's first bytes.
use Rattle.std.proofs.Common.{◌≡◌, ◌≤◌, min, length, arith}
use Rattle.rules.specs.Program.{most_input}
use Rattle.buffers.specs.Laws.Fronts.{front_none}
use Rattle.phases_text.specs.Contract.{most_text}
use Rattle.phases_text.specs.Number.Laws.Texts.{text_is, front_is}
use Rattle.phases_text.specs.Laws.Phases.{text_short, text_whole, text_some}
use Rattle.phases_text.proofs.list_phases.Goals as goal

pub returns-then-text-lt-TEXT_BYTES : goal.returns-then-text-lt-TEXT_BYTES
returns-then-text-lt-TEXT_BYTES c =
    let a = c.args in
    let none = front_is (front_none a.text.now) (text_short (length a.text.now) a.input.now (omega arith)) in
    record { counts = none.0; text = none.1; told = λ z. omega arith }

pub returns : goal.returns
returns c =
    let a = c.args in
    let put = c.put_text.ensures in
    let room : most_text ≤ length a.text.now = omega arith in
    let cut : c.place-end.result ≡ min most_input (length a.input.now) = omega arith in
    let all = text_whole (length a.text.now) c.place-end.result a.input.now room cut in
    let whole = text_is a.text.now _ _ all (put.counts, put.text) in
    record {
      counts = whole.0;
      text = whole.1;
      told = λ z. absurd (omega (arith, whole.0, text_some (length a.text.now) a.input.now room));
    }
