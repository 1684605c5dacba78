-- Truth values, and conditions judged one after the other.
use Rattle.std.specs.Prelude.{ℕ, ◌≡◌, Bool, true, false, cond, ◌||◌, List, [], ◌∷◌, eqb}
use Rattle.std.proofs.Math.Path.{refl}
use Rattle.std.proofs.Common.{true≢false, eq-eqb, ne_eqb}
use Rattle.std.proofs.Math.Decide.{ℕ_discrete}
use Rattle.rules.specs.Bytes.{Verdict, accepted, first_refused}

-- Either way the same.
pub cond_same : {A : Type 0} (x : Bool) (a : A) → cond x a a ≡ a
cond_same true a = refl
cond_same false a = refl

pub cond_of : {A B : Type 0} (f : A → B) (x : Bool) (a b : A) → f (cond x a b) ≡ cond x (f a) (f b)
cond_of f true a b = refl
cond_of f false a b = refl

-- A number is answered exactly where a test holds, if nothing else answers it.
pub number_by_lem : (n : ℕ) (x : Bool) (other : ℕ) → (other ≡ n → ⊥) → eqb (cond x n other) n ≡ x
number_by_lem n true other o = eq-eqb n n refl
number_by_lem n false other o = ne_eqb other n o

pub neither : (n : ℕ) (x : Bool) (a b : ℕ) → (a ≡ n → ⊥) → (b ≡ n → ⊥) → cond x a b ≡ n → ⊥
neither n true a b o p = o
neither n false a b o p = p

-- Where one or the other does not hold, neither does.
pub or_none : (x y : Bool) → x || y ≡ false → (x ≡ false) × (y ≡ false)
or_none false y e = (refl, e)
or_none true y e = absurd (true≢false e)

-- Where none of them refuses, the first does not, nor do the others,
pub first-accepts : (x : Verdict) (xs : List Verdict) → (first_refused (x ∷ xs)).number ≡ 0
    → (x.number ≡ 0) × ((first_refused xs).number ≡ 0)
unfolding first_refused
first-accepts x xs e =
    elim (ℕ_discrete x.number 0) [
      | yes z ↦ (z, rw (eq-eqb x.number 0 z) at e)
      | no n ↦ absurd (n (rw (ne_eqb x.number 0 n) at e))
    ]

-- and no position is named.
pub first_position : (vs : List Verdict) → (first_refused vs).number ≡ 0 → (first_refused vs).position ≡ 0
unfolding first_refused accepted
first_position [] e = refl
first_position (x ∷ xs) e =
    let both = first-accepts x xs e in
    rw (eq-eqb x.number 0 both.0) (first_position xs both.1)

-- A list whose first refuses, or does not.
module _ (v : Verdict) (vs : List Verdict) where
  pub first-refuses : (v.number ≡ 0 → ⊥) → first_refused (v ∷ vs) ≡ v
  unfolding first_refused
  first-refuses n = rw (ne_eqb v.number 0 n) refl

  pub first_passes : v.number ≡ 0 → first_refused (v ∷ vs) ≡ first_refused vs
  unfolding first_refused
  first_passes z = rw (eq-eqb v.number 0 z) refl
