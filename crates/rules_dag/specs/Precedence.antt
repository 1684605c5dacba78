-- Document 02, #105: "What precedes is the spawning step, the earlier steps of the task, and a whole finish child with all its
-- descendants for whatever follows it in the task that opened it." `ks` are the tree's kinds.
use Rattle.std.specs.Prelude.{ℕ, zero, suc, ◌≡◌, Bool, true, cond, ◌&&◌, ◌||◌, not, List, [], ◌∷◌, ◌++◌, length, eqb, leb, ltb}
use Rattle.rules.specs.Bytes.{count, any}
use Rattle.rules.specs.Tree.{kind_at, is_end, is_finish, task, cont}

-- ---- directly

-- "The spawning step": step i opened the task of step j.
unfoldable pub spawns : List ℕ → ℕ → ℕ → Bool
spawns ks i j = not (is_end (kind_at ks i)) && eqb (task ks j) (suc i)

-- "The earlier steps of the task": step i is earlier than j, in the same task.
unfoldable pub earlier : List ℕ → ℕ → ℕ → Bool
earlier ks i j = ltb i j && eqb (task ks i) (task ks j)

-- "A whole finish child with all its descendants": step p opened it, and i is one of its steps or of theirs, which are those up to p's
-- continuation.
unfoldable pub in_finish : List ℕ → ℕ → ℕ → Bool
in_finish ks p i = is_finish (kind_at ks p) && (leb (suc p) i && ltb i (cont ks p))

-- "Whatever follows it in the task that opened it": step j follows the child of step p.
unfoldable pub follows_child : List ℕ → ℕ → ℕ → Bool
follows_child ks p j = eqb (task ks p) (task ks j) && leb (cont ks p) j

-- Step i precedes step j by one link.
unfoldable pub directly : List ℕ → ℕ → ℕ → Bool
directly ks i j =
    spawns ks i j || (earlier ks i j || any (λ p. in_finish ks p i && follows_child ks p j) (count 0 (length ks)))

-- ---- "over any number of links"

-- One link, or some and one more.
pub data Precedes (ks : List ℕ) : ℕ → ℕ → Type 0 where
  link : {i j : ℕ} → directly ks i j ≡ true → Precedes ks i j
  more : {i k j : ℕ} → Precedes ks i k → directly ks k j ≡ true → Precedes ks i j

-- As a test that computes. Those of a list that pass another test,
unfoldable pub select : (ℕ → Bool) → List ℕ → List ℕ
select f [] = []
select f (x ∷ xs) = cond (f x) (x ∷ select f xs) (select f xs)

-- the steps that precede one of these steps by one link,
unfoldable pub linked_to : List ℕ → List ℕ → List ℕ
linked_to ks js = select (λ i. any (directly ks i) js) (count 0 (length ks))

-- those that precede one of them by one to m links,
unfoldable pub preceding : ℕ → List ℕ → List ℕ → List ℕ
preceding zero ks js = []
preceding (suc m) ks js = let back = linked_to ks js in back ++ preceding m ks back

-- and whether step i precedes step j. No more links than there are steps lead from one to the other.
unfoldable pub must_precede : List ℕ → ℕ → ℕ → Bool
must_precede ks i j = any (eqb i) (preceding (length ks) ks (j ∷ []))
