-- What an opening step lasts, and the walk that finds the chain, over the tree's kinds `ks` and weights `ws`. The walk carries the
-- continuations of the finish children that it is in, innermost first: these are pending.
use Rattle.std.specs.Prelude.{ℕ, zero, suc, ◌+◌, ◌-◌, ◌≤◌, ◌<◌, max, ◌≡◌, Bool, true, false, cond, List, [], ◌∷◌, ◌⊎◌, length, get_or, leb}
use Rattle.rules.specs.Bytes.{sum}
use Rattle.rules.specs.Tree.{kind_at, is_finish, cont}
use Rattle.rules_dag.specs.Spans.{lasts}
use Rattle.tree_scan.specs.Laws.Shape.{Inside}
use Rattle.tree_scan.specs.Laws.Frames.{end_at, size_at}
use Rattle.dag_order.specs.Terms.{Ahead}

-- What an opening step lasts, from its weight and what its child and its continuation last.
unfoldable pub joined : Bool → ℕ → ℕ → ℕ → ℕ
joined finish own child rest = own + cond finish (child + rest) (max child rest)

-- ---- the walk

-- The first of the pending steps, and the others.
unfoldable pub nearest : List ℕ → ℕ
nearest [] = 0
nearest (q ∷ qs) = q

unfoldable pub outer : List ℕ → List ℕ
outer [] = []
outer (q ∷ qs) = qs

-- Where an opening step goes on: with its child, but where that is an async child and lasts less than the continuation.
unfoldable pub open_next : List ℕ → List ℕ → ℕ → ℕ
open_next ks ws c =
    cond (is_finish (kind_at ks c)) (suc c) (cond (leb (lasts ks ws (cont ks c)) (lasts ks ws (suc c))) (suc c) (cont ks c))

-- Where the walk goes on from step c, with pending steps: from an end to the nearest of them.
unfoldable pub onward : List ℕ → List ℕ → ℕ → List ℕ → ℕ
onward ks ws c qs = cond (end_at ks c) (nearest qs) (open_next ks ws c)

-- The steps that are pending then.
unfoldable pub pending : List ℕ → ℕ → List ℕ → List ℕ
pending ks c qs = cond (end_at ks c) (outer qs) (cond (is_finish (kind_at ks c)) (cont ks c ∷ qs) qs)

-- The walk, of at most m steps, from step c on while some weight is left.
unfoldable pub path : List ℕ → List ℕ → ℕ → ℕ → ℕ → List ℕ → List ℕ
path ks ws zero c left qs = []
path ks ws (suc m) c left qs =
    c ∷ cond (leb left (get_or ws c 0)) [] (path ks ws m (onward ks ws c qs) (left - get_or ws c 0) (pending ks c qs))

-- From the root on.
unfoldable pub walked : List ℕ → List ℕ → List ℕ
walked ks ws = path ks ws (length ks) 0 (lasts ks ws 0) []

-- These steps are pending at step c: all that is inside c precedes the nearest of them, what else that precedes outside of c is behind
-- it, and the others are pending there. Where none is pending, nothing outside is preceded.
abbrev pub Pending : List ℕ → ℕ → List ℕ → Type 0
Pending ks c [] = (i j : ℕ) → Inside (size_at ks) c i → Ahead ks i j → j < length ks → (Inside (size_at ks) c j → ⊥) → ⊥
Pending ks c (q ∷ qs) =
    (q < length ks)
    × ((i j : ℕ) → Inside (size_at ks) c i → Ahead ks i j → j < length ks → (Inside (size_at ks) c j → ⊥) → (j ≡ q) ⊎ Ahead ks q j)
    × ((i : ℕ) → Inside (size_at ks) c i → Ahead ks i q)
    × Pending ks q qs

-- What a step lasts, and what the pending ones do.
unfoldable pub remains : List ℕ → List ℕ → ℕ → List ℕ → ℕ
remains ks ws c qs = lasts ks ws c + sum (lasts ks ws) qs

-- The list goes on from step x, each of its steps behind the one before.
abbrev pub Linked : List ℕ → ℕ → List ℕ → Type 0
Linked ks x [] = x < length ks
Linked ks x (y ∷ rest) = Ahead ks x y × Linked ks y rest

-- ---- from an end

-- Step x follows a child that step c is inside.
pub record Follows (ks : List ℕ) (c x : ℕ) : Type 0 where
  pub opener : ℕ
  pub within : opener < length ks
  pub opens : end_at ks opener ≡ false
  pub next : x ≡ cont ks opener
  pub inside : Inside (size_at ks) (suc opener) c

-- Step p opened a finish child that step c is inside.
pub record Holds (ks : List ℕ) (c p : ℕ) : Type 0 where
  pub within : p < length ks
  pub finish : is_finish (kind_at ks p) ≡ true
  pub inside : Inside (size_at ks) (suc p) c

-- Some step did.
abbrev pub Held : List ℕ → ℕ → Type 0
Held ks c = (p : ℕ) × Holds ks c p

-- No finish child that step c is inside ends before step x.
abbrev pub NoneBefore : List ℕ → ℕ → ℕ → Type 0
NoneBefore ks c x = (p : ℕ) → Holds ks c p → x ≤ cont ks p

-- A climb from step c, over the ends of the tasks that it is in, is at step x and has passed no finish child's end.
pub record Climbing (ks : List ℕ) (c x : ℕ) : Type 0 where
  pub room : x < length ks
  pub follows : Follows ks c x
  pub none : NoneBefore ks c x

-- Step x follows the nearest finish child that step c is inside.
pub record AfterFinish (ks : List ℕ) (c x : ℕ) : Type 0 where
  pub follows : Follows ks c x
  pub finish : is_finish (kind_at ks follows.opener) ≡ true
  pub none : NoneBefore ks c x

-- Where the walk goes on from step c, without the pending steps.
pub record NextStep (ks ws : List ℕ) (c next : ℕ) : Type 0 where
  pub ends : end_at ks c ≡ true → AfterFinish ks c next
  pub opens : end_at ks c ≡ false → next ≡ open_next ks ws c
