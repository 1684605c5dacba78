-- Document 02, #102, "A schedule maker": a list of events from a tree, a policy, a count of workers and a seed. `w` is the count,
-- `p` the policy, `ks` the tree's kinds, and `u` the worker whose turn it is.
use Rattle.std.specs.Prelude.{ℕ, zero, suc, ◌+◌, ◌-◌, ◌*◌, ◌/◌, ◌%◌, Bool, true, false, cond, ◌&&◌, not, length, eqb, ltb}
use mathlib.Core.List.{List, [], ◌∷◌, ◌++◌, flatten}
use Rattle.std.proofs.Math.Option.{none, some}
use Rattle.rules.specs.Bytes.{count, Verdict, accepted, refused_if, first_refused}
use Rattle.rules.specs.Tree.{kinds}
use Rattle.rules.specs.Scheduling.{Run, start, worker_at, waits, next_run}
use Rattle.rules.specs.Calls.{start_verdict, finished, written}

-- ---- the seed

-- "Adds 2,654,435,769 to the seed modulo 2 to the power 32."
unfoldable pub draw : ℕ → ℕ
draw seed = (seed + 2654435769) % 4294967296

-- "The top four bits name a victim."
unfoldable pub named : ℕ → ℕ
named seed = seed / 268435456

-- ---- turns

-- A list in the making: the run that it leads to, the seed, and the events so far.
pub record Making : Type 0 where
  pub run : Run
  pub seed : ℕ
  pub events : List (List ℕ)

-- Before the first turn.
unfoldable pub begun : ℕ → ℕ → Making
begun w seed = record { run = start w; seed = seed; events = [] }

-- The list with one event more, and the run after it.
unfoldable pub write : ℕ → List ℕ → Making → List ℕ → Making
write p ks m e = record { run = next_run p ks m.run e; seed = m.seed; events = m.events ++ (e ∷ []) }

-- After a draw.
unfoldable pub drawn : Making → Making
drawn m = record { run = m.run; seed = draw m.seed; events = m.events }

-- "Another worker with a non-empty deque", for worker u; "a draw at or above the worker count names nobody".
unfoldable pub robbable : Run → ℕ → ℕ → Bool
robbable s u victim =
    ltb victim (length s.workers) && not (eqb victim u) && not (eqb (length (worker_at s victim).hand.deque) 0)

-- "If that is another worker with a non-empty deque, write the steal. Otherwise .. the turn passes."
unfoldable pub steal_turn : ℕ → List ℕ → Making → ℕ → ℕ → Making
steal_turn p ks m u victim = cond (robbable m.run u victim) (write p ks m (u ∷ victim ∷ [])) m

-- Worker u's turn. "A worker whose step may run gets a run event. An idle one" draws. "For a worker that waits, the turn passes."
unfoldable pub turn : ℕ → List ℕ → Making → ℕ → Making
turn p ks m u =
    elim (worker_at m.run u).hand.held [
      | some i ↦ cond (waits ks m.run.log i) m (write p ks m (u ∷ u ∷ []))
      | none ↦ steal_turn p ks (drawn m) u (named (drawn m).seed)
    ]

-- ---- rounds

-- The turns of these workers in order.
unfoldable pub round : ℕ → List ℕ → List ℕ → Making → Making
round p ks [] m = m
round p ks (u ∷ us) m = round p ks us (turn p ks m u)

-- "Go through the workers in rising order again and again until every step has run", for at most `fuel` rounds. It is enough to ask
-- between rounds: once every step has run all workers are idle and all deques empty, and no turn writes an event.
unfoldable pub rounds : ℕ → ℕ → List ℕ → ℕ → Making → Making
rounds w p ks zero m = m
rounds w p ks (suc fuel) m = elim (finished ks m.run) [ true ↦ m | false ↦ rounds w p ks fuel (round p ks (count 0 w) m) ]

-- The list made. Each round runs a step, so there are no more rounds than steps; more of them would change nothing.
unfoldable pub made : ℕ → ℕ → List ℕ → ℕ → Making
made w p ks seed = rounds w p ks (length ks) (begun w seed)

-- ---- the call

-- "No more than n + (n - 1) / 2 events."
unfoldable pub most_made : ℕ → ℕ
most_made n = n + (n - 1) / 2

-- What the call answers, with the lent list as it leaves it.
pub record Scheduled : Type 0 where
  pub verdict : Verdict
  pub event_count : ℕ
  pub events : List ℕ

--     1, 16, 2 to 5  as for the start of a run.
--     7  "The lent list needs 2 bytes for each of these or gets 7."
unfoldable pub schedule_verdict : ℕ → ℕ → List ℕ → List ℕ → Verdict
schedule_verdict w p tree events =
    first_refused (start_verdict w p tree ∷ refused_if (ltb (length events) (2 * most_made (length (kinds tree)))) 7 0 ∷ [])

-- The events at the front of the lent list and, beyond them, its old bytes.
unfoldable pub schedule_of : Making → List ℕ → Scheduled
schedule_of m events =
    record { verdict = accepted; event_count = length m.events; events = written (flatten m.events) events }

-- "All other results 0", and no buffer changed.
unfoldable pub schedule_refused : Verdict → List ℕ → Scheduled
schedule_refused refusal events = record { verdict = refusal; event_count = 0; events = events }

-- "Write an event list and answer how many events it has."
unfoldable pub schedule_call : ℕ → ℕ → List ℕ → ℕ → List ℕ → Scheduled
schedule_call w p tree seed events =
    let answer = schedule_of (made w p (kinds tree) seed) events in
    let refusal = schedule_verdict w p tree events in
    cond (eqb refusal.number 0) answer (schedule_refused refusal events)
