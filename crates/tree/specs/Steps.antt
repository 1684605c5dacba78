-- A step that is looked for, as the functions answer it.
use Rattle.std.specs.Prelude.{ℕ, Option, Some, None}
use Rattle.std.proofs.Math.Option.{Option as Maybe, none, some}
use Rattle.tree.specs.declared.Step.{Step}

-- A step, or none.
abbrev pub MaybeStep : Type 0
MaybeStep = Option Step

-- The step of a number, or none.
unfoldable pub maybe_step : Maybe ℕ → MaybeStep
maybe_step none = None
maybe_step (some i) = Some (record { 0 = i })
