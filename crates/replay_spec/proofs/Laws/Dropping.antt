-- The pushed steps that a phase drops, by their labels, as `replay_labels::stays` tells them.
use Rattle.std.specs.Prelude.{ℕ, ◌<◌, ◌≡◌, true, false, not, List, length, get_or, eqb}
use Rattle.std.proofs.Math.Path.{refl}
use Rattle.std.proofs.Common.{sym, ◌∙◌}
use Rattle.std.proofs.Math.Bool.{and-false}
use Rattle.std.proofs.Math.Decide.{ℕ_discrete}
use borrow.Author.Tests.{eq-eqb, ne_eqb}
use Rattle.replay_invariant.specs.Terms.{free, label_of}
use Rattle.replay_spec.specs.Labels.{dropped}
use Rattle.replay_spec.proofs.Laws.Claims.{label_read}

module _ (labels : List ℕ) (x k : ℕ) where
  pub free_stays : label_of labels x ≡ free → dropped labels x k ≡ false
  unfolding dropped
  free_stays e = rw (eq-eqb (label_of labels x) free e) refl

  pub own_stays : label_of labels x ≡ k → dropped labels x k ≡ false
  unfolding dropped
  own_stays e = rw (eq-eqb (label_of labels x) k e) (and-false (not (eqb (label_of labels x) free)))

  pub other_dropped : (label_of labels x ≡ free → ⊥) → (label_of labels x ≡ k → ⊥) → dropped labels x k ≡ true
  unfolding dropped
  other_dropped n m = rw (ne_eqb (label_of labels x) free n, ne_eqb (label_of labels x) k m) refl

-- By an entry of the labels.
module _ (labels : List ℕ) (x k : ℕ) (h : x < length labels) where
  pub entry_free : get_or labels x 0 ≡ free → true ≡ not (dropped labels x k)
  entry_free e = rw (free_stays labels x k (sym (label_read labels x h) ∙ e)) refl

  pub entry_other : (get_or labels x 0 ≡ free → ⊥) → eqb (get_or labels x 0) k ≡ not (dropped labels x k)
  entry_other n =
      let same = sym (label_read labels x h) in
      elim (ℕ_discrete (get_or labels x 0) k) [
        | yes e ↦ rw (own_stays labels x k (same ∙ e)) (eq-eqb (get_or labels x 0) k e)
        | no m ↦ rw (other_dropped labels x k (λ f. n (sym same ∙ f)) (λ o. m (sym same ∙ o))) (ne_eqb (get_or labels x 0) k m)
      ]
