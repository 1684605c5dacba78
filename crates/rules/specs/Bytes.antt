-- Bytes, records and walks, as document 01 uses them throughout: fields are little-endian and unsigned, positions count
-- from 0, and a walk judges a list record by record from the first.
use Rattle.std.specs.Prelude.{ℕ, zero, suc, ◌+◌, ◌-◌, ◌*◌, ◌/◌, ◌%◌, Bool, true, false, cond, ◌&&◌, ◌||◌, List, [], ◌∷◌, reverse, length, take, drop, eqb, leb}
use Rattle.std.proofs.Math.Option.{Option, none, some}

-- The number that a field's bytes give.
unfoldable pub little_endian : List ℕ → ℕ
little_endian [] = 0
little_endian (b ∷ bs) = b + 256 * little_endian bs

-- A number below 65,536 as a field of two bytes.
unfoldable pub two_bytes : ℕ → List ℕ
two_bytes x = x % 256 ∷ x / 256 % 256 ∷ []

-- The first n records of w bytes each.
unfoldable pub cut : ℕ → ℕ → List ℕ → List (List ℕ)
cut w zero bytes = []
cut w (suc n) bytes = take w bytes ∷ cut w n (drop w bytes)

-- All whole records of w bytes.
unfoldable pub records : ℕ → List ℕ → List (List ℕ)
records w bytes = cut w (length bytes / w) bytes

-- The bytes are whole records of w bytes, at most m of them.
unfoldable pub whole_records : ℕ → ℕ → List ℕ → Bool
whole_records w m bytes = eqb (length bytes % w) 0 && leb (length bytes / w) m

-- The n numbers from `from` on.
unfoldable pub count : ℕ → ℕ → List ℕ
count from zero = []
count from (suc n) = from ∷ count (suc from) n

module _ {A : Type 0} where
  unfoldable pub all : (A → Bool) → List A → Bool
  all p [] = true
  all p (x ∷ xs) = p x && all p xs

  unfoldable pub any : (A → Bool) → List A → Bool
  any p [] = false
  any p (x ∷ xs) = p x || any p xs

  -- The first that passes a test.
  unfoldable pub find : (A → Bool) → List A → Option A
  find p [] = none
  find p (x ∷ xs) = cond (p x) (some x) (find p xs)

  unfoldable pub sum : (A → ℕ) → List A → ℕ
  sum f [] = 0
  sum f (x ∷ xs) = f x + sum f xs

-- The highest number from `low` to before `end` that passes a test: the first that a walk backwards finds.
unfoldable pub highest : (ℕ → Bool) → ℕ → ℕ → Option ℕ
highest p low end = find p (reverse (count low (end - low)))

-- A refusal's number and position. Number 0 accepts.
pub record Verdict : Type 0 where
  pub number : ℕ
  pub position : ℕ

unfoldable pub accepted : Verdict
accepted = record { number = 0; position = 0 }

-- Refusal `number`, at a position, where its condition holds.
unfoldable pub refused_if : Bool → ℕ → ℕ → Verdict
refused_if bad number position = cond bad (record { number = number; position = position }) accepted

-- Conditions judged one after the other: the first that refuses decides.
unfoldable pub first_refused : List Verdict → Verdict
first_refused [] = accepted
first_refused (x ∷ xs) = cond (eqb x.number 0) (first_refused xs) x

-- How a walk ends: the first refusal with its position, and the state before the refused record.
pub record Walked (S : Type 0) : Type 0 where
  pub verdict : Verdict
  pub state : S

module _ {R S : Type 0} (judge : S → R → ℕ) (next : S → R → S) where
  -- The walk over a list from position i. `judge` gives a record's refusal, 0 for none, and `next` the state after it.
  unfoldable pub walk : ℕ → S → List R → Walked S
  walk i s [] = record { verdict = accepted; state = s }
  walk i s (r ∷ rs) =
      let rest = walk (suc i) (next s r) rs in
      cond (eqb (judge s r) 0) rest (record { verdict = record { number = judge s r; position = i }; state = s })
