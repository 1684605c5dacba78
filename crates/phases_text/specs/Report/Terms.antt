-- What is printed of a refusal.
use Rattle.std.specs.Prelude.{ℕ, List}
use Rattle.rules.specs.Program.{refused_line}

unfoldable pub refusal_text : ℕ → ℕ → List ℕ
refusal_text number position = refused_line (record { number = number; position = position })
