-- What reading a steal comes to, and the labels that it leaves.
use Rattle.std.specs.Prelude.{Some, None}
use Rattle.tree.specs.Steps.{MaybeStep}
use Rattle.std.specs.Prelude.{ℕ, ◌≡◌, cond, List, ◌⊎◌, eqb}
use Rattle.std.proofs.Math.Option.{Option, none, some}
use Rattle.replay_invariant.specs.Terms.{free, label_of}
use Rattle.replay_spec.specs.Labels.{Claimed}

-- What reading against phase k comes to, for the step that the number names: that step, where it has no label and the first
-- labelled one above it has the phase's.
abbrev pub Reading : List ℕ → List ℕ → Option ℕ → ℕ → MaybeStep → List ℕ → Type 0
Reading openers labels none k r after = r ≡ None
Reading openers labels (some s) k r after =
    ((label_of labels s ≡ free → ⊥) × (r ≡ None))
    ⊎ ((label_of labels s ≡ free)
    × ((found : ℕ) × Claimed openers labels s k after found × (r ≡ cond (eqb found k) (Some (record { 0 = s })) None)))
