-- The shape of a tree (a full binary tree in preorder), over any count of steps, test for ends and sizes. Step i is a node.
-- An end is a leaf. An opening step has the parts i + 1, the child that it opens, and its continuation, the step after the
-- child's end. `size i` counts the steps from i to the end of i's task, with all that they spawn; those are the steps from i
-- to i + size i - 1. All that later proofs know of trees is this record and what follows from it.
use Rattle.std.specs.Prelude.{ℕ, zero, suc, ◌+◌, ◌≤◌, ◌<◌, ◌≡◌, refl, Bool, true, false, ◌⊎◌}
use Rattle.std.proofs.Math.Logic.{inl, inr, ⊎_elim}
use Rattle.std.proofs.Math.Decide.{dec_lt, dec_le}
use native.Mathlib.Omega.{arith}

-- Where the continuation of an opening step stands.
unfoldable pub after : (ℕ → ℕ) → ℕ → ℕ
after size i = suc i + size (suc i)

-- Step j is among the steps from i to the end of i's task, with all that they spawn.
abbrev pub Inside : (ℕ → ℕ) → ℕ → ℕ → Type 0
Inside size i j = (i ≤ j) × (j < i + size i)

-- What is so at step i.
pub record At (n : ℕ) (end : ℕ → Bool) (size : ℕ → ℕ) (i : ℕ) : Type 0 where
  pub some : 1 ≤ size i
  pub fits : i + size i ≤ n
  pub leaf : end i ≡ true → size i ≡ 1
  pub room : end i ≡ false → after size i < n
  pub parts : end i ≡ false → size i ≡ suc (size (suc i) + size (after size i))

pub record Shape (n : ℕ) (end : ℕ → Bool) (size : ℕ → ℕ) : Type 0 where
  pub at : (i : ℕ) → i < n → At n end size i
  pub whole : size 0 ≡ n

module _ {n : ℕ} {end : ℕ → Bool} {size : ℕ → ℕ} (sh : Shape n end size) where
  -- Both parts of an opening step are steps, and smaller.
  pub child-inside : (i : ℕ) → i < n → end i ≡ false → suc i < n
  unfolding after
  child-inside i h e = omega (arith, (sh.at i h).room e)

  pub child_smaller : (i : ℕ) → i < n → end i ≡ false → size (suc i) < size i
  child_smaller i h e = omega (arith, (sh.at i h).parts e)

  pub after_smaller : (i : ℕ) → i < n → end i ≡ false → size (after size i) < size i
  after_smaller i h e = omega (arith, (sh.at i h).parts e)

  -- The continuation goes on to the end of the same task.
  pub after_end : (i : ℕ) → i < n → end i ≡ false → after size i + size (after size i) ≡ i + size i
  unfolding after
  after_end i h e = omega (arith, (sh.at i h).parts e)

  -- Induction over the tree: ends, and opening steps from their two parts.
  module _ {ℓ} (P : ℕ → Type ℓ) (leaf : (i : ℕ) → i < n → end i ≡ true → P i)
      (node : (i : ℕ) → i < n → end i ≡ false → P (suc i) → P (after size i) → P i) where
    by_kind : (m i : ℕ) → i < n → size i ≤ suc m → ((j : ℕ) → j < n → size j ≤ m → P j) → (b : Bool) → end i ≡ b → P i
    by_kind m i h s smaller true e = leaf i h e
    by_kind m i h s smaller false e =
        node i h e (smaller (suc i) (child-inside i h e) (omega (arith, child_smaller i h e)))
        (smaller (after size i) ((sh.at i h).room e) (omega (arith, after_smaller i h e)))

    by_size : (m i : ℕ) → i < n → size i ≤ m → P i
    by_size zero i h s = absurd (omega (arith, (sh.at i h).some))
    by_size (suc m) i h s = by_kind m i h s (λ j. by_size m j) (end i) refl

    pub tree-ind : (i : ℕ) → i < n → P i
    tree-ind i h = by_size (size i) i h (omega arith)

  -- For an end it is the step itself. For an opening step it is the step itself, or is inside its child, or inside its
  -- continuation.
  pub inside_end : (i j : ℕ) → i < n → end i ≡ true → Inside size i j → j ≡ i
  inside_end i j h e w = omega (arith, (sh.at i h).leaf e)

  pub inside_parts : (i j : ℕ) → i < n → end i ≡ false → Inside size i j → (j ≡ i) ⊎ (Inside size (suc i) j ⊎ Inside size (after size i) j)
  unfolding after
  inside_parts i j h e w =
      elim (dec_le j i) [
        | yes s ↦ inl (omega arith)
        | no s ↦ elim (dec_lt j (suc i + size (suc i))) [
          | yes l ↦ inr (inl (omega arith, l))
          | no l ↦ inr (inr (omega arith, omega (arith, (sh.at i h).parts e)))
        ]
      ]

  -- Nesting: where j is inside i, all that is inside j is.
  Nested : ℕ → Type 0
  Nested i = (j : ℕ) → Inside size i j → j + size j ≤ i + size i

  nested_end : (i : ℕ) → i < n → end i ≡ true → Nested i
  unfolding Nested
  nested_end i h e j w =
      let same = inside_end i j h e w in
      rw same (omega arith)

  nested_parts : (i : ℕ) → i < n → end i ≡ false → Nested (suc i) → Nested (after size i) → Nested i
  unfolding Nested after
  nested_parts i h e child rest j w =
      ⊎_elim (λ same. rw same (omega arith))
      (⊎_elim (λ l. omega (arith, child j l, (sh.at i h).parts e)) (λ r. omega (arith, rest j r, (sh.at i h).parts e)))
      (inside_parts i j h e w)

  pub nested : (i j : ℕ) → i < n → Inside size i j → j + size j ≤ i + size i
  unfolding Nested
  nested i j h w = tree-ind Nested nested_end nested_parts i h j w

  -- Every step is inside step 0.
  pub inside-first : (j : ℕ) → j < n → Inside size 0 j
  inside-first j h = (omega arith, omega (arith, sh.whole))

  -- A size is odd: one more than twice the opening steps inside.
  Odd : ℕ → Type 0
  Odd i = (m : ℕ) × (size i ≡ suc (m + m))

  odd_parts : (i : ℕ) → i < n → end i ≡ false → Odd (suc i) → Odd (after size i) → Odd i
  unfolding Odd
  odd_parts i h e a b = (suc (a.0 + b.0), omega (arith, (sh.at i h).parts e, a.1, b.1))

  pub odd : (i : ℕ) → i < n → (m : ℕ) × (size i ≡ suc (m + m))
  unfolding Odd
  odd = tree-ind Odd (λ i h e. (0, (sh.at i h).leaf e)) odd_parts
