-- A step that was looked for, by what a function answers.
use Rattle.std.specs.Prelude.{ℕ, ◌≡◌, refl, Some, None}
use Rattle.std.proofs.Common.{sym, ap, ◌∙◌}
use Rattle.std.proofs.Math.Option.{Option, none, some}
use Rattle.tree.specs.declared.Step.{Step}
use Rattle.tree.specs.Steps.{MaybeStep, maybe_step}

-- Back from what is answered.
found-by : MaybeStep → Option ℕ
found-by (Some i) = some i.0
found-by None = none

found_same : (o : Option ℕ) → found-by (maybe_step o) ≡ o
unfolding maybe_step found-by
found_same none = refl
found_same (some i) = refl

module _ (o : Option ℕ) (r : MaybeStep) (e : r ≡ maybe_step o) where
  pub found_at : (i : Step) → r ≡ Some i → o ≡ some i.0
  unfolding found-by
  found_at i f = sym (found_same o) ∙ ap found-by (sym e ∙ f)

  pub found_nothing : r ≡ None → o ≡ none
  unfolding found-by
  found_nothing f = sym (found_same o) ∙ ap found-by (sym e ∙ f)
