-- Document 02, #105: what is claimed of an accepted call, of its answers and of the bytes that it leaves in the lent buffer. `span_call` is
-- what the contract of `dag_span::span` promises, so these are the bytes and the answers of the entry.
use Rattle.std.specs.Prelude.{ℕ, ◌+◌, ◌*◌, ◌≤◌, ◌<◌, ◌≡◌, Bool, true, false, ◌&&◌, ◌||◌, List, [], ◌∷◌, map, ◌⊎◌, length, take, get_or, eqb, ltb}
use Rattle.rules.specs.Bytes.{little_endian, records, sum}
use Rattle.rules.specs.Tree.{kinds, weights, task_end}
use Rattle.rules_dag.specs.Precedence.{Precedes}
use Rattle.rules_dag.specs.Spans.{start_of, ends_of, lasts, span_call}

-- "One chain of one or more steps, each required before the next over any number of links."
abbrev pub Chain : List ℕ → List ℕ → Type 0
Chain ks [] = ⊥
Chain ks (x ∷ []) = x < length ks
Chain ks (x ∷ y ∷ rest) = Precedes ks x y × Chain ks (y ∷ rest)

-- What its steps weigh together.
unfoldable pub weigh : List ℕ → List ℕ → ℕ
weigh ws steps = sum (λ i. get_or ws i 0) steps

-- "Among equal chains, the earliest differing step is the lower, and a chain that is the start of another goes before it."
unfoldable pub goes_before : List ℕ → List ℕ → Bool
goes_before [] [] = false
goes_before [] (y ∷ ys) = true
goes_before (x ∷ xs) [] = false
goes_before (x ∷ xs) (y ∷ ys) = ltb x y || (eqb x y && goes_before xs ys)

-- Step j is among the steps from i to the end of i's task, with all that they spawn.
abbrev pub FromStep : List ℕ → ℕ → ℕ → Type 0
FromStep ks i j = (i ≤ j) × (j < task_end ks i)

-- A tree, and the lent buffer before the call.
module _ (tree lent : List ℕ) where
  -- The count of steps, their kinds and weights.
  abbrev n : ℕ
  n = length (kinds tree)

  abbrev ks : List ℕ
  ks = kinds tree

  abbrev ws : List ℕ
  ws = weights tree

  -- When step j starts, and when it ends.
  unfoldable pub starts : ℕ → ℕ
  starts j = start_of ks (ends_of ks ws n) j

  unfoldable pub ends : ℕ → ℕ
  ends j = get_or (ends_of ks ws n) j 0

  -- The chain listed: two bytes for each step, at the front of the lent buffer as the call leaves it.
  unfoldable pub listed : List ℕ
  listed = map little_endian (records 2 (take (2 * (span_call tree lent).chain_length) (span_call tree lent).chain))

  pub record WorkAndSpan : Type 0 where
    -- "Each step starts when every step that must precede it has ended": not before,
    pub not_before : (i j : ℕ) → j < n → Precedes ks i j → ends i ≤ starts j
    -- and not later: at once, or with the end of one of them.
    pub at_once : (j : ℕ) → j < n → (starts j ≡ 0) ⊎ ((i : ℕ) × Precedes ks i j × (ends i ≡ starts j))
    -- It "lasts its weight".
    pub lasting : (j : ℕ) → j < n → ends j ≡ starts j + get_or ws j 0
    -- "The span is the latest end."
    pub latest : (j : ℕ) → j < n → ends j ≤ (span_call tree lent).span
    pub latest_ends : (j : ℕ) × (j < n) × (ends j ≡ (span_call tree lent).span)
    -- "The end of a task and the end of all that it spawned are defined through each other": so defined, how long the rest of a task
    -- lasts with all that it spawned is from the start of the step to the latest of these ends; for a task it is from its first step on.
    pub rest_ends : (i j : ℕ) → i < n → FromStep ks i j → ends j ≤ starts i + lasts ks ws i
    pub rest_ends_then : (i : ℕ) → i < n → (j : ℕ) × FromStep ks i j × (ends j ≡ starts i + lasts ks ws i)
    -- "Also list, and answer the length of,
    pub counted : length listed ≡ (span_call tree lent).chain_length
    -- one chain of one or more steps, each required before the next over any number of links,
    pub linked : Chain ks listed
    -- whose weights add up to the span."
    pub weighs : weigh ws listed ≡ (span_call tree lent).span
    -- "No chain weighs more."
    pub no_heavier : (steps : List ℕ) → Chain ks steps → weigh ws steps ≤ (span_call tree lent).span
    -- "Among equal chains" it is the first.
    pub first : (steps : List ℕ) → Chain ks steps → weigh ws steps ≡ (span_call tree lent).span
        → (steps ≡ listed) ⊎ (goes_before listed steps ≡ true)
    -- "Span is at most work, and work at most n × span."
    pub span_at_most : (span_call tree lent).span ≤ (span_call tree lent).work
    pub work_at_most : (span_call tree lent).work ≤ n * (span_call tree lent).span
