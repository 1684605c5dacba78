-- From the walk that accepts a tree to the tree's shape: lists of kinds that end the open tasks exactly at their end, and
-- what is left of them once some tasks have ended.
use Rattle.std.specs.Prelude.{ℕ, zero, suc, pred, ◌+◌, ◌-◌, ◌≤◌, ◌<◌, ◌≡◌, refl, Bool, true, false, cond, List, [], ◌∷◌, length, drop}
use Rattle.std.proofs.Common.{zero-add, arith}
use Rattle.rules.specs.Tree.{is_end, kind_at, open_after, after_ends}

-- The kinds, each one of the three, end d open tasks exactly at their end, and no more than 64 are ever open.
abbrev pub Balanced : ℕ → List ℕ → Type 0
Balanced d [] = d ≡ 0
Balanced d (k ∷ ks) = (1 ≤ d) × (d ≤ 64) × ((1 ≤ k) × (k ≤ 3)) × Balanced (open_after k d) ks

-- More tasks open underneath.
under : (x : Bool) (a b : ℕ) → cond x (pred (suc a + b)) (suc (suc a + b)) ≡ cond x (pred (suc a)) (suc (suc a)) + b
under true a b =
    let e : pred (suc a + b) ≡ pred (suc a) + b = omega arith in
    e
under false a b =
    let e : suc (suc a + b) ≡ suc (suc a) + b = omega arith in
    e

open_under : (k a b : ℕ) → open_after k (suc a + b) ≡ open_after k (suc a) + b
unfolding open_after
open_under k a b = under (is_end k) a b

-- ---- what is left once some tasks have ended

-- Ending a + b tasks is ending a and then b.
pub after_sum : (ks : List ℕ) (a b : ℕ) → after_ends ks (a + b) ≡ after_ends (after_ends ks a) b
unfolding after_ends
after_sum [] a b = refl
after_sum (k ∷ ks) zero b = rw zero-add refl
after_sum (k ∷ ks) (suc a) b =
    let s : suc a + b ≡ suc (a + b) = omega arith in
    let next : open_after k (suc (a + b)) ≡ open_after k (suc a) + b = rw s at (open_under k a b) in
    rw (s, next) (after_sum ks (open_after k (suc a)) b)

-- It is an end part of the list.
pub after-short : (ks : List ℕ) (d : ℕ) → length (after_ends ks d) ≤ length ks
unfolding after_ends
after-short [] d = omega arith
after-short (k ∷ ks) zero = omega arith
after-short (k ∷ ks) (suc d) = omega (arith, after-short ks (open_after k (suc d)))

pub after-drop : (ks : List ℕ) (d : ℕ) → drop (length ks - length (after_ends ks d)) ks ≡ after_ends ks d
unfolding after_ends
after-drop [] d = refl
after-drop (k ∷ ks) zero =
    let none : suc (length ks) - suc (length ks) ≡ 0 = omega arith in
    rw none refl
after-drop (k ∷ ks) (suc d) =
    let left = open_after k (suc d) in
    let one : suc (length ks) - length (after_ends ks left) ≡ suc (length ks - length (after_ends ks left)) =
    omega (arith, after-short ks left) in
    rw one (after-drop ks left)

-- ---- balanced lists

pub balanced_after : (ks : List ℕ) (a d : ℕ) → Balanced (a + d) ks → Balanced d (after_ends ks a)
unfolding after_ends
balanced_after [] a d b = omega arith
balanced_after (k ∷ ks) zero d b = rw zero-add at b
balanced_after (k ∷ ks) (suc a) d b = balanced_after ks (open_after k (suc a)) d (rw (open_under k a d) at b.3)

pub balanced_drop : (ks : List ℕ) (i d : ℕ) → Balanced d ks → i ≤ length ks → (e : ℕ) × Balanced e (drop i ks)
balanced_drop ks zero d b h = (d, b)
balanced_drop [] (suc i) d b h = absurd (omega arith)
balanced_drop (k ∷ ks) (suc i) d b h = balanced_drop ks i (open_after k d) b.3 (omega arith)

pub balanced_kind : (ks : List ℕ) (i d : ℕ) → Balanced d ks → i < length ks → (1 ≤ kind_at ks i) × (kind_at ks i ≤ 3)
unfolding kind_at
balanced_kind [] i d b h = absurd (omega arith)
balanced_kind (k ∷ ks) zero d b h = b.2
balanced_kind (k ∷ ks) (suc i) d b h = balanced_kind ks i (open_after k d) b.3 (omega arith)

-- Nothing is left to end, and there is nothing left.
pub balanced_none : (ks : List ℕ) → Balanced 0 ks → length ks ≡ 0
balanced_none [] b = refl
balanced_none (k ∷ ks) b = absurd (omega (arith, b.0))

pub balanced_some : (ks : List ℕ) (d : ℕ) → Balanced (suc d) ks → 1 ≤ length ks
balanced_some [] d b = absurd (omega arith)
balanced_some (k ∷ ks) d b = omega arith

-- ---- counts

-- How many records open a task.
unfoldable pub spawned : List ℕ → ℕ
spawned [] = 0
spawned (k ∷ ks) = cond (is_end k) 0 1 + spawned ks

count-step : (x : Bool) (d m s : ℕ) → 1 ≤ d → m ≡ cond x (pred d) (suc d) + (s + s) → suc m ≡ d + (cond x 0 1 + s + (cond x 0 1 + s))
count-step true d m s h e =
    let f : m ≡ pred d + (s + s) = e in
    let g : suc m ≡ d + (0 + s + (0 + s)) = omega arith in
    g
count-step false d m s h e =
    let f : m ≡ suc d + (s + s) = e in
    let g : suc m ≡ d + (1 + s + (1 + s)) = omega arith in
    g

-- Each opened task has its end too.
pub balanced_count : (ks : List ℕ) (d : ℕ) → Balanced d ks → length ks ≡ d + (spawned ks + spawned ks)
unfolding spawned open_after
balanced_count [] d b = omega arith
balanced_count (k ∷ ks) d b = count-step (is_end k) d (length ks) (spawned ks) b.0 (balanced_count ks (open_after k d) b.3)
