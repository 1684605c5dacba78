-- What the functions on labels answer, and the labels that they leave.
use Rattle.std.specs.Prelude.{ℕ, ◌<◌, ◌≡◌, Bool, false, ◌&&◌, not, List, ◌⊎◌, length, get_or, eqb}
use Rattle.replay_invariant.specs.Terms.{free, label_of, Climb, labelled}

-- Each opener stands before its step.
abbrev pub Upward : List ℕ → Type 0
Upward openers = (j : ℕ) → 0 < j → j < length openers → get_or openers j 0 < j

-- The free steps above step s have been labelled with phase k, and `found` is the label of the first labelled one.
pub record Claimed (openers labels : List ℕ) (s k : ℕ) (after : List ℕ) (found : ℕ) : Type 0 where
  pub path : List ℕ
  pub top : ℕ
  pub climb : Climb openers labels s path top
  pub marks : after ≡ labelled labels path k
  pub finds : found ≡ label_of labels top

-- What taking step s from phase k comes to: whether it has no label, and the first labelled one above it has the phase's.
abbrev pub Taking : List ℕ → List ℕ → ℕ → ℕ → Bool → List ℕ → Type 0
Taking openers labels s k r after =
    ((label_of labels s ≡ free → ⊥) × (r ≡ false))
    ⊎ ((label_of labels s ≡ free) × ((found : ℕ) × Claimed openers labels s k after found × (r ≡ eqb found k)))

-- A step that phase k pushes is dropped: it has the label of another phase.
unfoldable pub dropped : List ℕ → ℕ → ℕ → Bool
dropped labels x k = not (eqb (label_of labels x) free) && not (eqb (label_of labels x) k)
