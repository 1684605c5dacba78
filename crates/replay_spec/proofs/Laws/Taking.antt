-- What `replay_steal::read_steal` comes to: the number names no step, or the labels tell whether the step can be stolen.
use Rattle.std.specs.Prelude.{Some, None}
use Rattle.tree.specs.Steps.{MaybeStep, maybe_step}
use Rattle.std.specs.Prelude.{ℕ, ◌≡◌, refl, Bool, true, false, cond, not, List, length}
use Rattle.std.proofs.Common.{sym, ap, ◌∙◌, inl, inr, ⊎_elim, arith}
use Rattle.std.proofs.Math.Option.{Option, none, some}
use Rattle.std.proofs.lemmas.Bool.{not-true, not-false}
use Rattle.tree.specs.declared.Step.{Step}
use Rattle.tree.specs.Laws.Steps.{found_at, found_nothing}
use Rattle.tree_tables.specs.Terms.{Openers}
use Rattle.replay_spec.specs.Labels.{Upward, Taking}
use Rattle.replay_spec.specs.Reading.{Reading}

-- It may climb: each opener stands before its step.
pub table_upward : (ks openers : List ℕ) → Openers ks openers (length openers) → Upward openers
table_upward ks openers table j h l = (table j h l).before

module _ (openers labels : List ℕ) (o : Option ℕ) (k : ℕ) where
  pub read_unnamed : (r : MaybeStep) → r ≡ maybe_step o → r ≡ None → (after : List ℕ) → Reading openers labels o k None after
  read_unnamed r e f after = rw (found_nothing o r e f)

  -- The named step, which was asked of the labels.
  module _ (step : Step) (e : maybe_step o ≡ Some step) (b : Bool) (after : List ℕ) (taking : Taking openers labels step.0 k b after) where
    read_taken : Reading openers labels o k (cond b (Some step) None) after
    read_taken =
        rw (found_at o _ refl step e)
        (⊎_elim (λ lost. inl (lost.0, rw lost.1 refl))
        (λ (f, (found, c, is)). inr (f, (found, c, rw is refl))) taking)

    pub read-elsewhere : not b ≡ true → Reading openers labels o k None after
    read-elsewhere n = rw (not-true b n) at read_taken

    pub read-there : not b ≡ false → Reading openers labels o k (Some step) after
    read-there n = rw (not-false b n) at read_taken
