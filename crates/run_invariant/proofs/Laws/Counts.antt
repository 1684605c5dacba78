-- Truth values, intervals of numbers, members of lists, and sums over lists: what the laws of phases and runs count with.
use Prim.Native.Nat.{ℕ, zero, suc, ◌+◌, ◌≤◌, ◌<◌}
use Rattle.std.specs.Prelude.{◌≡◌, Bool, ◌&&◌, ◌||◌, length, get_or, eqb, ltb}
use Rattle.std.proofs.Math.Path.{refl, sym}
use Rattle.std.proofs.Common.{ap, ◌∙◌, true≢false, zero-add, lt-ltb, eq-eqb, ne_eqb}
use Rattle.std.proofs.Math.Bool.{true, false, cond, or-false, or_assoc, or-true}
use mathlib.Core.List.{List, [], ◌∷◌, ◌++◌}
use Rattle.std.proofs.Math.Decide.{ℕ_discrete, dec_le}
use native.Mathlib.Omega.{arith}
use Rattle.rules.specs.Bytes.{count, all, any, sum}
use Rattle.run_invariant.specs.Invariant.{kept}

-- ---- truth values

pub and_both : (x y : Bool) → x && y ≡ true → (x ≡ true) × (y ≡ true)
and_both true y e = (refl, e)
and_both false y e = absurd (true≢false (sym e))

pub not_so : (x : Bool) → (x ≡ true → ⊥) → x ≡ false
not_so true n = absurd (n refl)
not_so false n = refl

-- Counted as 1 or 0.
pub at_most_one : (x : Bool) → cond x 1 0 ≤ 1
at_most_one true = omega arith
at_most_one false = omega arith

pub one-true : (x : Bool) → 1 ≤ cond x 1 0 → x ≡ true
one-true true h = refl
one-true false h = absurd (omega arith)

-- ---- the numbers of an interval

-- A test of all numbers from a on, m of them, is the test of each j with a ≤ j < a + m.
module _ (f : ℕ → Bool) where
  pub all_count : (m a : ℕ) → all f (count a m) ≡ true → (j : ℕ) → a ≤ j → j < a + m → f j ≡ true
  unfolding all count
  all_count zero a e j l u = absurd (omega arith)
  all_count (suc m) a e j l u =
      let both = and_both (f a) (all f (count (suc a) m)) e in
      elim (ℕ_discrete j a) [ yes s ↦ rw s both.0 | no n ↦ all_count m (suc a) both.1 j (omega arith) (omega arith) ]

  pub count_all : (m a : ℕ) → ((j : ℕ) → a ≤ j → j < a + m → f j ≡ true) → all f (count a m) ≡ true
  unfolding all count
  count_all zero a t = refl
  count_all (suc m) a t =
      rw (t a (omega arith) (omega arith)) (count_all m (suc a) (λ j l u. t j (omega arith) (omega arith)))

  -- A test that fails, fails somewhere.
  pub some_fails : (m a : ℕ) → all f (count a m) ≡ false → (j : ℕ) × (a ≤ j) × (j < a + m) × (f j ≡ false)
  unfolding all count
  some_fails zero a e = absurd (true≢false e)
  some_fails (suc m) a e = by (f a) refl (λ t. some_fails m (suc a) (rw t at e))
    where
      by : (b : Bool) → f a ≡ b → (f a ≡ true → (j : ℕ) × (suc a ≤ j) × (j < suc a + m) × (f j ≡ false))
          → (j : ℕ) × (a ≤ j) × (j < a + suc m) × (f j ≡ false)
      by true t later =
          let rest = later t in
          (rest.0, omega (arith, rest.1), omega (arith, rest.2), rest.3)
      by false t later = (a, omega arith, omega arith, t)

-- ---- members

-- x stands in the list.
abbrev pub Has : List ℕ → ℕ → Type 0
Has l x = any (eqb x) l ≡ true

pub has_head : (x : ℕ) (l : List ℕ) → Has (x ∷ l) x
unfolding any
has_head x l = rw (eq-eqb x x refl) refl

pub has_tail : (x y : ℕ) (l : List ℕ) → Has l x → Has (y ∷ l) x
unfolding any
has_tail x y l m = rw m (or-true (eqb x y))

-- In a list with a head, it is the head or stands behind it.
pub has_cases : {P : Type 0} (x y : ℕ) (l : List ℕ) → Has (y ∷ l) x → (x ≡ y → P) → (Has l x → P) → P
unfolding any
has_cases x y l m head tail = elim (ℕ_discrete x y) [ yes s ↦ head s | no n ↦ tail (rw (ne_eqb x y n) at m) ]

pub has_none : {P : Type 0} (x : ℕ) → Has [] x → P
unfolding any
has_none x m = absurd (true≢false (sym m))

pub has_sum : (f : ℕ → ℕ) (x : ℕ) (l : List ℕ) → Has l x → f x ≤ sum f l
unfolding sum
has_sum f x [] m = has_none x m
has_sum f x (y ∷ l) m = has_cases x y l m (λ s. rw s (omega arith)) (λ t. omega (arith, has_sum f x l t))

-- Tests of the members.
module _ (f : ℕ → Bool) where
  pub all_members : (l : List ℕ) → ((x : ℕ) → Has l x → f x ≡ true) → all f l ≡ true
  unfolding all
  all_members [] t = refl
  all_members (x ∷ l) t = rw (t x (has_head x l)) (all_members l (λ y m. t y (has_tail y x l m)))

  pub no_members : (l : List ℕ) → ((x : ℕ) → Has l x → f x ≡ false) → any f l ≡ false
  unfolding any
  no_members [] t = refl
  no_members (x ∷ l) t = rw (t x (has_head x l)) (no_members l (λ y m. t y (has_tail y x l m)))

  pub kept_members : (l : List ℕ) → ((x : ℕ) → Has l x → f x ≡ false) → kept f l ≡ l
  unfolding kept
  kept_members [] t = refl
  kept_members (x ∷ l) t = rw (t x (has_head x l), kept_members l (λ y m. t y (has_tail y x l m))) refl

-- ---- tests and sums

module _ {A : Type 0} where
  pub any_one : (f : A → Bool) (l : List A) (x : A) → any f (l ++ (x ∷ [])) ≡ any f l || f x
  unfolding any
  any_one f [] x = or-false (f x)
  any_one f (y ∷ l) x = rw (any_one f l x) (sym (or_assoc (f y) (any f l) (f x)))

  pub sum_ones : (l : List A) → sum (λ x. 1) l ≡ length l
  unfolding sum
  sum_ones [] = refl
  sum_ones (x ∷ l) = omega (arith, sum_ones l)

  -- Member by member: the sum is another, or two others.
  pub sum_same : (f g : A → ℕ) → ((x : A) → f x ≡ g x) → (l : List A) → sum f l ≡ sum g l
  sum_same f g e l = λ k. sum (λ x. e x k) l

  pub sum_plus : (f g h : A → ℕ) → ((x : A) → f x ≡ g x + h x) → (l : List A) → sum f l ≡ sum g l + sum h l
  unfolding sum
  sum_plus f g h e [] = refl
  sum_plus f g h e (x ∷ l) = omega (arith, e x, sum_plus f g h e l)

  -- By places. Past the end stands d.
  pub sum_at : (f : A → ℕ) (d : A) → f d ≡ 0 → (l : List A) (i : ℕ) → f (get_or l i d) ≤ sum f l
  unfolding sum
  sum_at f d z [] i = omega arith
  sum_at f d z (x ∷ l) zero = omega arith
  sum_at f d z (x ∷ l) (suc i) = omega (arith, sum_at f d z l i)

  -- One place, and two, are at most all.
  pub sum_place : (f : A → ℕ) (d : A) (l : List A) (i : ℕ) → i < length l → f (get_or l i d) ≤ sum f l
  unfolding sum
  sum_place f d [] i h = absurd (omega arith)
  sum_place f d (x ∷ l) zero h = omega arith
  sum_place f d (x ∷ l) (suc i) h = omega (arith, sum_place f d l i (omega arith))

  pub sum_two : (f : A → ℕ) (d : A) (l : List A) (i j : ℕ) → i < length l → j < length l → (i ≡ j → ⊥)
      → f (get_or l i d) + f (get_or l j d) ≤ sum f l
  unfolding sum
  sum_two f d [] i j a b n = absurd (omega arith)
  sum_two f d (x ∷ l) zero zero a b n = absurd (n refl)
  sum_two f d (x ∷ l) zero (suc j) a b n = omega (arith, sum_place f d l j (omega arith))
  sum_two f d (x ∷ l) (suc i) zero a b n = omega (arith, sum_place f d l i (omega arith))
  sum_two f d (x ∷ l) (suc i) (suc j) a b n = omega (arith, sum_two f d l i j (omega arith) (omega arith) (omega arith))

  pub sum_below : (f g : A → ℕ) (d : A) (l : List A) → ((i : ℕ) → f (get_or l i d) ≤ g (get_or l i d)) → sum f l ≤ sum g l
  unfolding sum
  sum_below f g d [] t = omega arith
  sum_below f g d (x ∷ l) t = omega (arith, t 0, sum_below f g d l (λ i. t (suc i)))

  pub sum_none : (f : A → ℕ) (d : A) (l : List A) → ((i : ℕ) → f (get_or l i d) ≡ 0) → sum f l ≡ 0
  unfolding sum
  sum_none f d [] t = refl
  sum_none f d (x ∷ l) t = omega (arith, t 0, sum_none f d l (λ i. t (suc i)))

  pub sum_alike : (f g : A → ℕ) (d : A) (l : List A) → ((i : ℕ) → i < length l → f (get_or l i d) ≡ g (get_or l i d))
      → sum f l ≡ sum g l
  unfolding sum
  sum_alike f g d [] e = refl
  sum_alike f g d (x ∷ l) e = omega (arith, e 0 (omega arith), sum_alike f g d l (λ i h. e (suc i) (omega arith)))

  -- A sum that is not 0 is not 0 somewhere.
  pub sum_some : (f : A → ℕ) (d : A) (l : List A) → 1 ≤ sum f l → (i : ℕ) × (i < length l) × (1 ≤ f (get_or l i d))
  unfolding sum
  sum_some f d [] h = absurd (omega arith)
  sum_some f d (x ∷ l) h =
      elim (dec_le 1 (f x)) [
        | yes s ↦ (0, omega arith, s)
        | no n ↦ let rest = sum_some f d l (omega arith) in (suc rest.0, omega (arith, rest.1), rest.2)
      ]

  -- A test passes somewhere where the count of its places is not 0.
  pub any_sum : (f : A → Bool) (l : List A) → any f l ≡ ltb 0 (sum (λ x. cond (f x) 1 0) l)
  unfolding any sum
  any_sum f [] = refl
  any_sum f (x ∷ l) = by (f x) (any_sum f l)
    where
      n : ℕ
      n = sum (λ y. cond (f y) 1 0) l

      by : (b : Bool) → any f l ≡ ltb 0 n → b || any f l ≡ ltb 0 (cond b 1 0 + n)
      by true e = sym (lt-ltb 0 (1 + n) (omega arith))
      by false e = rw zero-add e

-- A number picks its own member of an interval, and nothing where it is none.
pub sum_missed : (f : ℕ → ℕ) (x m a : ℕ) → ((i : ℕ) → i < m → a + i ≡ x → ⊥)
    → sum (λ j. cond (eqb x j) (f j) 0) (count a m) ≡ 0
unfolding sum count
sum_missed f x zero a n = refl
sum_missed f x (suc m) a n =
    rw (ne_eqb x a (λ e. n 0 (omega arith) (omega arith)))
    (omega (arith, sum_missed f x m (suc a) (λ i h e. n (suc i) (omega arith) (omega arith))))

pub sum_self : (f : ℕ → ℕ) (x m a : ℕ) → a ≤ x → x < a + m → sum (λ j. cond (eqb x j) (f j) 0) (count a m) ≡ f x
unfolding sum count
sum_self f x zero a l u = absurd (omega arith)
sum_self f x (suc m) a l u =
    elim (ℕ_discrete x a) [
      | yes e ↦ rw (eq-eqb x a e) (omega (arith, sum_missed f x m (suc a) (λ i h s. omega arith), ap f e))
      | no n ↦ rw (ne_eqb x a n) (omega (arith, sum_self f x m (suc a) (omega arith) (omega arith)))
    ]

-- Two sums, one inside the other, in either order.
module _ {A : Type 0} where
  pub sum_nothing : (l : List A) → sum (λ x. 0) l ≡ 0
  unfolding sum
  sum_nothing [] = refl
  sum_nothing (x ∷ l) = omega (arith, sum_nothing l)

  pub sum_exchange : {B : Type 0} (g : B → A → ℕ) (bs : List B) (l : List A)
      → sum (λ b. sum (g b) l) bs ≡ sum (λ x. sum (λ b. g b x) bs) l
  unfolding sum
  sum_exchange g [] l = sym (sum_nothing l)
  sum_exchange g (b ∷ bs) l =
      omega (arith, sum_exchange g bs l, sum_plus (λ x. sum (λ c. g c x) (b ∷ bs)) (g b) (λ x. sum (λ c. g c x) bs) (λ x. refl) l)

  -- Sums by a key: each member has a key below m, so the sums over the members of each key are together the sum over all.
  pub keys_sum : (key f : A → ℕ) (m : ℕ) (d : A) (l : List A) → ((i : ℕ) → i < length l → key (get_or l i d) < m)
      → sum (λ k. sum (λ x. cond (eqb (key x) k) (f x) 0) l) (count 0 m) ≡ sum f l
  keys_sum key f m d l below =
      sum_exchange (λ k x. cond (eqb (key x) k) (f x) 0) (count 0 m) l
      ∙ sum_alike (λ x. sum (λ k. cond (eqb (key x) k) (f x) 0) (count 0 m)) f d l
      (λ i h. sum_self (λ k. f (get_or l i d)) (key (get_or l i d)) m 0 (omega arith) (omega (arith, below i h)))
