-- Ordinals by the policy, in the terms of the code.
use Rattle.std.specs.Prelude.{ℕ, ◌+◌, ◌%◌, ◌≡◌, List}
use Rattle.std.proofs.Math.Path.{refl}
use Rattle.std.proofs.Common.{eq-eqb, ne_eqb}
use Rattle.run_spec.specs.Ordinals.{children_between, many_ordinals, ordinal_from}

module _ (p : ℕ) (ks : List ℕ) (base from q : ℕ) where
  pub ordinal-counted : p ≡ 1 → (children : ℕ) → children ≡ children_between ks from q
      → base % many_ordinals + children + 1 ≡ ordinal_from p ks base from q
  unfolding ordinal_from
  ordinal-counted e children f = rw (eq-eqb p 1 e, f) refl

  pub ordinal_uncounted : (p ≡ 1 → ⊥) → 0 ≡ ordinal_from p ks base from q
  unfolding ordinal_from
  ordinal_uncounted n = rw (ne_eqb p 1 n) refl
