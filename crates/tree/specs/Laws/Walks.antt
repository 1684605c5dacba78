-- Laws of walks, over any kind of record and state: a walk goes on past an accepted record, stops at a refused one, and ends
-- with the list; an accepted walk takes one more accepted record, and has accepted each; what every accepted record keeps, it keeps.
-- A loop over positions holds `walk .. i s (drop i rs)`.
use Prim.Native.Nat.{ℕ, zero, suc, ◌<◌, ◌≤◌}
use Rattle.std.specs.Prelude.{◌≡◌, drop, get_or}
use Rattle.std.proofs.Math.Path.{refl, ap}
use mathlib.Core.List.{List, [], ◌∷◌, ◌++◌}
use Rattle.std.proofs.Math.Decide.{ℕ_discrete}
use Rattle.std.proofs.Common.{arith, drop_of_length-le, drop-cons}
use Rattle.std.proofs.Math.ListN.{length}
use borrow.Author.Tests.{eq-eqb, ne_eqb}
use Rattle.rules.specs.Bytes.{accepted, Walked, walk}

module _ {R S : Type 0} (judge : S → R → ℕ) (next : S → R → S) (rs : List R) (d : R) (i : ℕ) (s : S) where
  pub walk_on : i < length rs → judge s (get_or rs i d) ≡ 0
      → walk judge next i s (drop i rs) ≡ walk judge next (suc i) (next s (get_or rs i d)) (drop (suc i) rs)
  unfolding walk
  walk_on h e = rw (drop-cons rs i d h, eq-eqb (judge s (get_or rs i d)) 0 e) refl

  pub walk_stop : i < length rs → (judge s (get_or rs i d) ≡ 0 → ⊥)
      → walk judge next i s (drop i rs)
      ≡ record { verdict = record { number = judge s (get_or rs i d); position = i }; state = s }
  unfolding walk
  walk_stop h e = rw (drop-cons rs i d h, ne_eqb (judge s (get_or rs i d)) 0 e) refl

  pub walk_end : length rs ≤ i → walk judge next i s (drop i rs) ≡ record { verdict = accepted; state = s }
  unfolding walk
  walk_end h = rw (drop_of_length-le rs h) refl

-- An accepted walk, and one more record that is accepted where it ends.
module _ {R S : Type 0} (judge : S → R → ℕ) (next : S → R → S) where
  pub walk_more : (rs : List R) (i : ℕ) (s t : S) (r : R) → walk judge next i s rs ≡ record { verdict = accepted; state = t }
      → judge t r ≡ 0 → walk judge next i s (rs ++ (r ∷ [])) ≡ record { verdict = accepted; state = next t r }
  unfolding walk accepted
  walk_more [] i s t r w fine =
      let same : s ≡ t = ap (λ (x : Walked S). x.state) w in
      rw (same, fine) refl
  walk_more (x ∷ rs) i s t r w fine =
      elim (ℕ_discrete (judge s x) 0) [
        | yes e ↦ rw e (walk_more rs (suc i) (next s x) t r (rw e at w) fine)
        | no n ↦ absurd (n (ap (λ (y : Walked S). y.verdict.number) (rw (ne_eqb (judge s x) 0 n) at w)))
      ]

-- Each record of an accepted walk is accepted, so what that says of a record holds of each.
module _ {R S : Type 0} (judge : S → R → ℕ) (next : S → R → S) (Q : R → Type 0) (d : R)
    (says : (s : S) (r : R) → judge s r ≡ 0 → Q r) where
  pub walk_each : (rs : List R) (i : ℕ) (s : S) → (walk judge next i s rs).verdict.number ≡ 0 → (k : ℕ) → k < length rs
      → Q (get_or rs k d)
  unfolding walk
  walk_each [] i s v k h = absurd (omega arith)
  walk_each (r ∷ rs) i s v k h =
      elim (ℕ_discrete (judge s r) 0) [
        | yes e ↦ by k h (says s r e) (λ m l. walk_each rs (suc i) (next s r) (rw (eq-eqb (judge s r) 0 e) at v) m l)
        | no n ↦ absurd (n (rw (ne_eqb (judge s r) 0 n) at v))
      ]
    where
      by : (m : ℕ) → m < length (r ∷ rs) → Q r → ((m : ℕ) → m < length rs → Q (get_or rs m d)) → Q (get_or (r ∷ rs) m d)
      by zero l first rest = first
      by (suc m) l first rest = rest m (omega arith)

-- Another judge that accepts each record that the first accepts makes the same walk of an accepted one.
module _ {R S : Type 0} (judge judge' : S → R → ℕ) (next : S → R → S) (Q : R → Type 0) (d : R)
    (too : (s : S) (r : R) → Q r → judge s r ≡ 0 → judge' s r ≡ 0) where
  pub walk_too : (rs : List R) (i : ℕ) (s : S) → ((k : ℕ) → k < length rs → Q (get_or rs k d))
      → (walk judge next i s rs).verdict.number ≡ 0 → walk judge' next i s rs ≡ walk judge next i s rs
  unfolding walk
  walk_too [] i s q v = refl
  walk_too (r ∷ rs) i s q v =
      elim (ℕ_discrete (judge s r) 0) [
        | yes e ↦ rw (eq-eqb (judge s r) 0 e, eq-eqb (judge' s r) 0 (too s r (q 0 (omega arith)) e))
            (walk_too rs (suc i) (next s r) (λ k h. q (suc k) (omega arith)) (rw (eq-eqb (judge s r) 0 e) at v))
        | no n ↦ absurd (n (rw (ne_eqb (judge s r) 0 n) at v))
      ]

-- What holds of the first state and is kept by every accepted record holds of the state that a walk comes to.
module _ {R S : Type 0} (judge : S → R → ℕ) (next : S → R → S) (P : S → Type 0)
    (keeps : (s : S) (r : R) → P s → judge s r ≡ 0 → P (next s r)) where
  pub walk_keeps : (rs : List R) (i : ℕ) (s : S) → P s → P (walk judge next i s rs).state
  unfolding walk
  walk_keeps [] i s so = so
  walk_keeps (r ∷ rs) i s so =
      elim (ℕ_discrete (judge s r) 0) [
        | yes e ↦ rw (eq-eqb (judge s r) 0 e) (walk_keeps rs (suc i) (next s r) (keeps s r so e))
        | no n ↦ rw (ne_eqb (judge s r) 0 n) so
      ]
