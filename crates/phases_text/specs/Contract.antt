-- What `phases_text::list_phases` writes: the whole text, or nothing where the lent buffer is short.
use Rattle.std.specs.Prelude.{ℕ, ◌+◌, ◌*◌, cond, List, [], ltb}
use Rattle.rules.specs.Tree.{most_steps}
use Rattle.rules.specs.Program.{printed}

-- No line has more bytes: three numbers of five digits, and a byte behind each. The heading has as many.
abbrev pub most_line : ℕ
most_line = 18

-- No text has more bytes: the heading, and a line for each step.
abbrev pub most_text : ℕ
most_text = most_line + most_line * most_steps

-- What is written of an input to a buffer of so many bytes. What is printed is never empty, so nothing says that the buffer is short.
unfoldable pub text_for : ℕ → List ℕ → List ℕ
text_for room input = cond (ltb room most_text) [] (printed input)
