-- Document 02, #105: cases of what precedes what, of ends, work, span and chain, each table one theorem, closed by computation.
use Rattle.std.specs.Prelude.{ℕ, ◌≡◌, refl, length, replicate}
use mathlib.Core.List.{List, [], ◌∷◌, map, flatten, zip_with}
use Rattle.rules.specs.Bytes.{count, find, Verdict, accepted}
use Rattle.rules.specs.Cases.{answer_with, bytes, of_kinds, S, one_end}
use Rattle.rules.specs.NearMisses.{bad}
use Rattle.rules_dag.specs.Precedence.{spawns, earlier, in_finish, follows_child, directly, select, linked_to, preceding}
use Rattle.rules_dag.specs.Precedence.{must_precede}
use Rattle.rules_dag.specs.Spans.{work, start_of, ends_of, span, task_lasts, rest_lasts, lasts, froms_of, chain_from, chain}
use Rattle.rules_dag.specs.Spans.{chain_bytes, Spanned, span_verdict, span_of, span_refused, span_call}

-- What a call answers. Whoever unfolds it unfolds all the rules.
unfoldable pub answered : List ℕ → List ℕ → Spanned
unfolding answer_with spawns earlier in_finish follows_child directly select linked_to preceding must_precede find work start_of ends_of span
    task_lasts rest_lasts lasts froms_of chain_from chain chain_bytes span_verdict span_of span_refused span_call
answered tree lent = span_call tree lent

-- ---- what precedes what

-- For each step the steps that precede it, directly and over any number of links.
record OrderRow : Type 0 where
  kinds : List ℕ
  directly : List (List ℕ)
  precede : List (List ℕ)

unfoldable order_row : List ℕ → List (List ℕ) → List (List ℕ) → OrderRow
order_row ks one any = record { kinds = ks; directly = one; precede = any }

unfoldable orders : List OrderRow
orders =
    order_row (3 ∷ []) ([] ∷ []) ([] ∷ [])
    -- S: nothing waits for step 1; 6 follows a finish child with the steps 3 to 5, 4 of them in a task of its own; the step that
    -- spawned a task precedes its later steps too
    ∷ order_row (1 ∷ 3 ∷ 2 ∷ 1 ∷ 3 ∷ 3 ∷ 3 ∷ [])
    ([] ∷ (0 ∷ []) ∷ (0 ∷ []) ∷ (2 ∷ []) ∷ (3 ∷ []) ∷ (2 ∷ 3 ∷ []) ∷ (0 ∷ 2 ∷ 3 ∷ 4 ∷ 5 ∷ []) ∷ [])
    ([] ∷ (0 ∷ []) ∷ (0 ∷ []) ∷ (0 ∷ 2 ∷ []) ∷ (0 ∷ 2 ∷ 3 ∷ []) ∷ (0 ∷ 2 ∷ 3 ∷ []) ∷ (0 ∷ 2 ∷ 3 ∷ 4 ∷ 5 ∷ []) ∷ [])
    -- an async child in a finish child, and a finish child in an async one
    ∷ order_row (2 ∷ 1 ∷ 3 ∷ 3 ∷ 3 ∷ [])
    ([] ∷ (0 ∷ []) ∷ (1 ∷ []) ∷ (0 ∷ 1 ∷ []) ∷ (0 ∷ 1 ∷ 2 ∷ 3 ∷ []) ∷ [])
    ([] ∷ (0 ∷ []) ∷ (0 ∷ 1 ∷ []) ∷ (0 ∷ 1 ∷ []) ∷ (0 ∷ 1 ∷ 2 ∷ 3 ∷ []) ∷ [])
    ∷ order_row (1 ∷ 2 ∷ 3 ∷ 3 ∷ 3 ∷ [])
    ([] ∷ (0 ∷ []) ∷ (1 ∷ []) ∷ (0 ∷ 1 ∷ 2 ∷ []) ∷ (0 ∷ []) ∷ [])
    ([] ∷ (0 ∷ []) ∷ (0 ∷ 1 ∷ []) ∷ (0 ∷ 1 ∷ 2 ∷ []) ∷ (0 ∷ []) ∷ [])
    -- a finish, an async and a finish child one behind the other: the first precedes all that follows, the second nothing
    ∷ order_row (2 ∷ 3 ∷ 1 ∷ 3 ∷ 2 ∷ 3 ∷ 3 ∷ [])
    ([] ∷ (0 ∷ []) ∷ (0 ∷ 1 ∷ []) ∷ (2 ∷ []) ∷ (0 ∷ 1 ∷ 2 ∷ []) ∷ (4 ∷ []) ∷ (0 ∷ 1 ∷ 2 ∷ 4 ∷ 5 ∷ []) ∷ [])
    ([] ∷ (0 ∷ []) ∷ (0 ∷ 1 ∷ []) ∷ (0 ∷ 1 ∷ 2 ∷ []) ∷ (0 ∷ 1 ∷ 2 ∷ []) ∷ (0 ∷ 1 ∷ 2 ∷ 4 ∷ []) ∷ (0 ∷ 1 ∷ 2 ∷ 4 ∷ 5 ∷ []) ∷ [])
    ∷ []

directly_as_stated :
    map (λ r. map (λ j. select (λ i. directly r.kinds i j) (count 0 (length r.kinds))) (count 0 (length r.kinds))) orders
    ≡ map (λ r. r.directly) orders
unfolding answered orders order_row
directly_as_stated = refl

precede_as_stated :
    map (λ r. map (λ j. select (λ i. must_precede r.kinds i j) (count 0 (length r.kinds))) (count 0 (length r.kinds))) orders
    ≡ map (λ r. r.precede) orders
unfolding answered orders order_row
precede_as_stated = refl

-- ---- ends, and how long the rest of each task lasts

record TimeRow : Type 0 where
  kinds : List ℕ
  weights : List ℕ
  ends : List ℕ
  lasts : List ℕ

unfoldable time_row : List ℕ → List ℕ → List ℕ → List ℕ → TimeRow
time_row ks ws ends lasting = record { kinds = ks; weights = ws; ends = ends; lasts = lasting }

unfoldable times : List TimeRow
times =
    time_row (1 ∷ 3 ∷ 2 ∷ 1 ∷ 3 ∷ 3 ∷ 3 ∷ []) (replicate 7 1) (1 ∷ 2 ∷ 2 ∷ 3 ∷ 4 ∷ 4 ∷ 5 ∷ []) (5 ∷ 1 ∷ 4 ∷ 2 ∷ 1 ∷ 1 ∷ 1 ∷ [])
    ∷ time_row (2 ∷ 1 ∷ 3 ∷ 3 ∷ 3 ∷ []) (1 ∷ 1 ∷ 5 ∷ 2 ∷ 1 ∷ []) (1 ∷ 2 ∷ 7 ∷ 4 ∷ 8 ∷ []) (8 ∷ 6 ∷ 5 ∷ 2 ∷ 1 ∷ [])
    ∷ time_row (1 ∷ 2 ∷ 3 ∷ 3 ∷ 3 ∷ []) (1 ∷ 1 ∷ 1 ∷ 1 ∷ 3 ∷ []) (1 ∷ 2 ∷ 3 ∷ 4 ∷ 4 ∷ []) (4 ∷ 3 ∷ 1 ∷ 1 ∷ 3 ∷ [])
    ∷ []

ends_as_stated : map (λ r. ends_of r.kinds r.weights (length r.kinds)) times ≡ map (λ r. r.ends) times
unfolding answered times time_row
ends_as_stated = refl

lasts_as_stated : map (λ r. map (lasts r.kinds r.weights) (count 0 (length r.kinds))) times ≡ map (λ r. r.lasts) times
unfolding answered times time_row
lasts_as_stated = refl

-- ---- work, span and chain

record ChainRow : Type 0 where
  kinds : List ℕ
  weights : List ℕ
  work : ℕ
  span : ℕ
  chain : List ℕ

unfoldable chain_row : List ℕ → List ℕ → ℕ → ℕ → List ℕ → ChainRow
chain_row ks ws all longest steps = record { kinds = ks; weights = ws; work = all; span = longest; chain = steps }

unfoldable chains : List ChainRow
chains =
    chain_row (3 ∷ []) (7 ∷ []) 7 7 (0 ∷ [])
    -- S: equal ends go to the child, 4 and not 5; with no weight at all the chain has one step
    ∷ chain_row (1 ∷ 3 ∷ 2 ∷ 1 ∷ 3 ∷ 3 ∷ 3 ∷ []) (replicate 7 1) 7 5 (0 ∷ 2 ∷ 3 ∷ 4 ∷ 6 ∷ [])
    ∷ chain_row (1 ∷ 3 ∷ 2 ∷ 1 ∷ 3 ∷ 3 ∷ 3 ∷ []) (replicate 7 0) 0 0 (0 ∷ [])
    -- an async child is not waited for; the child where both weigh the same, the continuation where it weighs more
    ∷ chain_row (1 ∷ 3 ∷ 3 ∷ []) (1 ∷ 2 ∷ 2 ∷ []) 5 3 (0 ∷ 1 ∷ [])
    ∷ chain_row (1 ∷ 3 ∷ 3 ∷ []) (1 ∷ 2 ∷ 3 ∷ []) 6 4 (0 ∷ 2 ∷ [])
    -- a step without weight is in the chain where it leads on: 0 1 2 goes before 0 2
    ∷ chain_row (2 ∷ 3 ∷ 3 ∷ []) (1 ∷ 0 ∷ 2 ∷ []) 3 3 (0 ∷ 1 ∷ 2 ∷ [])
    -- and not where nothing is left, 0 goes before 0 1, nor where it leads nowhere
    ∷ chain_row (2 ∷ 3 ∷ 3 ∷ []) (5 ∷ 0 ∷ 0 ∷ []) 5 5 (0 ∷ [])
    ∷ chain_row (1 ∷ 3 ∷ 3 ∷ []) (1 ∷ 0 ∷ 4 ∷ []) 5 5 (0 ∷ 2 ∷ [])
    ∷ chain_row (1 ∷ 1 ∷ 3 ∷ 3 ∷ 3 ∷ []) (0 ∷ 0 ∷ 0 ∷ 2 ∷ 0 ∷ []) 2 2 (0 ∷ 1 ∷ 3 ∷ [])
    -- a descendant of a finish child is waited for; a finish child in an async one holds nobody up but that
    ∷ chain_row (2 ∷ 1 ∷ 3 ∷ 3 ∷ 3 ∷ []) (1 ∷ 1 ∷ 5 ∷ 2 ∷ 1 ∷ []) 10 8 (0 ∷ 1 ∷ 2 ∷ 4 ∷ [])
    ∷ chain_row (1 ∷ 2 ∷ 3 ∷ 3 ∷ 3 ∷ []) (1 ∷ 1 ∷ 1 ∷ 1 ∷ 3 ∷ []) 7 4 (0 ∷ 1 ∷ 2 ∷ 3 ∷ [])
    -- end 4 goes on after the outer finish child; 7 and 8 weigh the same
    ∷ chain_row (2 ∷ 1 ∷ 2 ∷ 3 ∷ 3 ∷ 3 ∷ 1 ∷ 3 ∷ 3 ∷ []) (1 ∷ 1 ∷ 1 ∷ 9 ∷ 1 ∷ 2 ∷ 1 ∷ 3 ∷ 3 ∷ []) 22 17
    (0 ∷ 1 ∷ 2 ∷ 3 ∷ 4 ∷ 6 ∷ 7 ∷ [])
    -- step 6, without weight, in the middle
    ∷ chain_row (2 ∷ 2 ∷ 3 ∷ 1 ∷ 3 ∷ 3 ∷ 1 ∷ 3 ∷ 2 ∷ 3 ∷ 3 ∷ []) (4 ∷ 3 ∷ 2 ∷ 1 ∷ 6 ∷ 1 ∷ 0 ∷ 8 ∷ 2 ∷ 2 ∷ 1 ∷ []) 30 24
    (0 ∷ 1 ∷ 2 ∷ 3 ∷ 4 ∷ 6 ∷ 7 ∷ [])
    -- the greatest weights
    ∷ chain_row (1 ∷ 3 ∷ 3 ∷ []) (replicate 3 0xffff_ffff) 12884901885 8589934590 (0 ∷ 1 ∷ [])
    ∷ []

-- Work, span and chain of a row.
unfoldable shown : ℕ → ℕ → List ℕ → List ℕ
shown all longest steps = all ∷ longest ∷ steps

chains_as_stated :
    map (λ r. shown (work r.weights) (span r.kinds r.weights) (chain r.kinds r.weights)) chains
    ≡ map (λ r. shown r.work r.span r.chain) chains
unfolding answered chains chain_row shown
chains_as_stated = refl

-- ---- whole calls, with every lent byte

-- A tree file of these kinds and weights.
unfoldable weighed : List ℕ → List ℕ → List ℕ
weighed ks ws = flatten (zip_with (λ k w. k ∷ 0 ∷ 0 ∷ 0 ∷ w ∷ 0 ∷ 0 ∷ 0 ∷ []) ks ws)

record CallRow : Type 0 where
  tree : List ℕ
  lent : List ℕ
  says : Spanned

unfoldable fine : List ℕ → List ℕ → ℕ → ℕ → ℕ → List ℕ → CallRow
fine tree lent all longest steps left =
    record {
      tree = tree;
      lent = lent;
      says = record { verdict = accepted; work = all; span = longest; chain_length = steps; chain = left };
    }

-- "All other results 0", and no byte changed.
unfoldable refused : List ℕ → List ℕ → Verdict → CallRow
refused tree lent v =
    record { tree = tree; lent = lent; says = record { verdict = v; work = 0; span = 0; chain_length = 0; chain = lent } }

unfoldable calls : List CallRow
calls =
    -- as much room as asked, and more: the bytes beyond the chain keep what they held
    fine S (replicate 14 9) 7 5 5 (bytes 14 0x0000_0200_0300_0400_0600_0909_0909)
    ∷ fine S (replicate 17 9) 7 5 5 (bytes 17 0x0000_0200_0300_0400_0600_0909_0909_0909_09)
    ∷ fine one_end (replicate 2 9) 1 1 1 (bytes 2 0x0000)
    ∷ fine (weighed (2 ∷ 3 ∷ 3 ∷ []) (5 ∷ 0 ∷ 0 ∷ [])) (replicate 6 9) 5 5 1 (bytes 6 0x0000_0909_0909)
    -- a byte less than two for each step is 7, also where the chain would have room
    ∷ refused S (replicate 13 9) (bad 7 0)
    ∷ refused S (replicate 10 9) (bad 7 0)
    ∷ refused S [] (bad 7 0)
    ∷ refused one_end (9 ∷ []) (bad 7 0)
    -- the tree's refusals come first
    ∷ refused [] [] (bad 2 0)
    ∷ refused (replicate 7 3) [] (bad 2 0)
    ∷ refused (of_kinds (1 ∷ 4 ∷ 3 ∷ [])) (replicate 5 9) (bad 3 1)
    ∷ refused (of_kinds (replicate 64 1)) [] (bad 4 63)
    ∷ refused (of_kinds (3 ∷ 3 ∷ [])) (replicate 3 9) (bad 5 1)
    ∷ refused (of_kinds (1 ∷ 3 ∷ [])) (replicate 3 9) (bad 5 2)
    ∷ []

calls_as_stated : map (λ r. answered r.tree r.lent) calls ≡ map (λ r. r.says) calls
unfolding answered calls fine refused weighed bytes of_kinds S one_end bad accepted flatten
calls_as_stated = refl
