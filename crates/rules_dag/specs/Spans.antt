-- Document 02, #105, "Work and span": how much there is to do, how long it lasts at least, and the chain of steps that says why.
-- `ks` are the tree's kinds and `ws` its weights.
use Rattle.std.specs.Prelude.{ℕ, zero, suc, ◌+◌, ◌-◌, ◌*◌, max, Bool, true, false, cond, ◌&&◌, length, get_or, eqb, leb, ltb}
use mathlib.Core.List.{List, [], ◌∷◌, ◌++◌, map, flatten, zip_with}
use Rattle.std.proofs.Math.Option.{none, some}
use Rattle.rules.specs.Bytes.{two_bytes, count, find, sum, Verdict, accepted, refused_if, first_refused}
use Rattle.rules.specs.Tree.{kinds, weights, kind_at, is_end, is_finish, cont, tree_verdict}
use Rattle.rules.specs.Traces.{largest}
use Rattle.rules.specs.Calls.{written}
use Rattle.rules_dag.specs.Precedence.{directly, must_precede}

-- ---- work and span

-- "The work, the sum of all weights."
unfoldable pub work : List ℕ → ℕ
work ws = sum (λ w. w) ws

-- "Each step starts when every step that must precede it has ended": at the latest of their ends, at 0 where nothing precedes it.
-- `ends` has when the steps before j end; no other precedes it.
unfoldable pub start_of : List ℕ → List ℕ → ℕ → ℕ
start_of ks ends j = largest (map (λ i. cond (directly ks i j) (get_or ends i 0) 0) (count 0 j))

-- It "lasts its weight": when each of the first m steps ends.
unfoldable pub ends_of : List ℕ → List ℕ → ℕ → List ℕ
ends_of ks ws zero = []
ends_of ks ws (suc j) = let ends = ends_of ks ws j in ends ++ ((start_of ks ends j + get_or ws j 0) ∷ [])

-- "The span is the latest end."
unfoldable pub span : List ℕ → List ℕ → ℕ
span ks ws = largest (ends_of ks ws (length ks))

-- ---- tasks

-- "The end of a task and the end of all that it spawned are defined through each other." How long it is from the start of a task, by
-- its first step, to the end of the task and of all that it spawned; and from the start of a step to the end of the rest of its task
-- and of all that this spawned. The rest of a task waits for a finish child, and goes on beside an async child. At most m records
-- remain.
unfoldable mutual
  pub task_lasts : ℕ → List ℕ → List ℕ → ℕ → ℕ
  task_lasts zero ks ws first = 0
  task_lasts (suc m) ks ws first = rest_lasts m ks ws first

  pub rest_lasts : ℕ → List ℕ → List ℕ → ℕ → ℕ
  rest_lasts zero ks ws i = 0
  rest_lasts (suc m) ks ws i =
      elim (is_end (kind_at ks i)) [
        | true ↦ get_or ws i 0
        | false ↦
            let child = task_lasts m ks ws (suc i) in
            let rest = rest_lasts m ks ws (cont ks i) in
            get_or ws i 0 + cond (is_finish (kind_at ks i)) (child + rest) (max child rest)
      ]

-- From the start of step i. A record is read for a step and for a task, so twice as many as there are records are enough.
unfoldable pub lasts : List ℕ → List ℕ → ℕ → ℕ
lasts ks ws i = rest_lasts (2 * length ks) ks ws i

-- ---- the chain

-- What the heaviest chain from each of the last m steps on weighs: the step's own weight, and the most of those that begin with a
-- later step which it must precede.
unfoldable pub froms_of : List ℕ → List ℕ → ℕ → List ℕ
froms_of ks ws zero = []
froms_of ks ws (suc m) =
    let later = froms_of ks ws m in
    let i = length ks - suc m in
    (get_or ws i 0 + largest (zip_with (λ j from. cond (must_precede ks i j) from 0) (count (suc i) m) later)) ∷ later

-- A chain "whose weights add up to" what is left, the first in order, of steps that are allowed next: "the earliest differing step is
-- the lower", so it goes on with the lowest step from which a chain weighs what is left; "a chain that is the start of another goes
-- before it", so it ends where nothing is left. `froms` has what the heaviest chain from each step on weighs.
unfoldable pub chain_from : ℕ → List ℕ → List ℕ → List ℕ → (ℕ → Bool) → ℕ → List ℕ
chain_from zero ks ws froms next left = []
chain_from (suc m) ks ws froms next left =
    elim (find (λ j. next j && eqb (get_or froms j 0) left) (count 0 (length ks))) [
      | none ↦ []
      | some c ↦ c
          ∷ elim (leb left (get_or ws c 0)) [
            | true ↦ []
            | false ↦ chain_from m ks ws froms (must_precede ks c) (left - get_or ws c 0)
          ]
    ]

-- "One chain of one or more steps, each required before the next over any number of links, whose weights add up to the span": it may
-- begin with any step.
unfoldable pub chain : List ℕ → List ℕ → List ℕ
chain ks ws = chain_from (length ks) ks ws (froms_of ks ws (length ks)) (λ j. true) (span ks ws)

-- "Also list" it: two bytes for each step.
unfoldable pub chain_bytes : List ℕ → List ℕ
chain_bytes steps = flatten (map two_bytes steps)

-- ---- the call

-- What the call answers, with the lent buffer as it leaves it.
pub record Spanned : Type 0 where
  pub verdict : Verdict
  pub work : ℕ
  pub span : ℕ
  pub chain_length : ℕ
  pub chain : List ℕ

-- "The chain needs 2 bytes for each of n steps in the lent buffer."
abbrev pub short_chain : List ℕ → List ℕ → Bool
short_chain tree lent = ltb (length lent) (2 * length (kinds tree))

--     2 to 5  by the tree.
--     7  where the lent buffer is short.
unfoldable pub span_verdict : List ℕ → List ℕ → Verdict
span_verdict tree lent = first_refused (tree_verdict tree ∷ refused_if (short_chain tree lent) 7 0 ∷ [])

-- "Give the work .. and the span. Also list, and answer the length of, one chain": it stands at the front of the lent buffer and,
-- beyond it, the buffer's old bytes.
unfoldable pub span_of : List ℕ → List ℕ → Spanned
span_of tree lent =
    let steps = chain (kinds tree) (weights tree) in
    record {
      verdict = accepted;
      work = work (weights tree);
      span = span (kinds tree) (weights tree);
      chain_length = length steps;
      chain = written (chain_bytes steps) lent;
    }

-- "All other results 0", and no buffer changed.
unfoldable pub span_refused : Verdict → List ℕ → Spanned
span_refused refusal lent = record { verdict = refusal; work = 0; span = 0; chain_length = 0; chain = lent }

unfoldable pub span_call : List ℕ → List ℕ → Spanned
span_call tree lent =
    let refusal = span_verdict tree lent in
    elim (eqb refusal.number 0) [ true ↦ span_of tree lent | false ↦ span_refused refusal lent ]
