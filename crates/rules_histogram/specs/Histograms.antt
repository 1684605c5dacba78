-- Document 02, #106, "Phase loads over many traces": the histogram, and what the call answers and writes, from its arguments alone.
-- `w` is the run's count of workers and `p` the policy's byte.
use Rattle.std.specs.Prelude.{ℕ, suc, ◌+◌, ◌%◌, true, false, List, [], ◌∷◌, map, get_or, set, replicate, eqb, leb}
use Rattle.rules.specs.Bytes.{records, Verdict, refused_if, first_refused}
use Rattle.rules.specs.Tree.{kinds, weights}
use Rattle.rules.specs.Scheduling.{Phase}
use Rattle.rules.specs.Traces.{replay_walk, phase_load}
use Rattle.rules.specs.Calls.{Replayed, replay_verdict, replay_of, replay_refused}
use Rattle.rules_histogram.specs.Limits.{bucket_count, place}

-- How many traces a histogram takes.
abbrev pub most_traces : ℕ
most_traces = 65535

-- How many traces have been added, and how many phases are in each bucket, by its place.
pub record Histogram : Type 0 where
  pub traces : ℕ
  pub counts : List ℕ

-- The start.
unfoldable pub empty : Histogram
empty = record { traces = 0; counts = replicate bucket_count 0 }

-- What the call answers: what replay does, with the lent run list as it leaves it, and the next histogram.
pub record Added : Type 0 where
  pub replayed : Replayed
  pub histogram : Histogram

-- 17  "A trace when 65,535 have been added, .. after every refusal of the replay itself."
unfoldable pub add_verdict : ℕ → ℕ → List ℕ → List ℕ → List ℕ → Histogram → Verdict
add_verdict w p tree trace list h =
    first_refused (replay_verdict w p tree trace list ∷ refused_if (leb most_traces h.traces) 17 0 ∷ [])

-- "Refused, hands back the histogram it got."
unfoldable pub add_refused : Verdict → List ℕ → Histogram → Added
add_refused refusal list h = record { replayed = replay_refused refusal list; histogram = h }

-- One more than a count of four bytes. The greatest is followed by 0, on "a histogram that no start and additions lead to"; on all
-- others it is `suc`, which is a theorem.
unfoldable pub wrapping : ℕ → ℕ
wrapping count = (count + 1) % 4294967296

-- `more` counts one more: `suc` by document 02, `wrapping` by the call, whose counts have four bytes.
module _ (more : ℕ → ℕ) where
  -- One more load, in its bucket.
  unfoldable pub add_load : List ℕ → ℕ → List ℕ
  add_load counts load = set counts (place load) (more (get_or counts (place load) 0))

  unfoldable pub add_loads : List ℕ → List ℕ → List ℕ
  add_loads counts [] = counts
  add_loads counts (load ∷ loads) = add_loads (add_load counts load) loads

  -- "Does what replay does, run list included, and adds all its phases", each by the weight of the steps that it covers.
  unfoldable pub add_of : ℕ → List ℕ → List Phase → List ℕ → Histogram → Added
  add_of p tree phs list h =
      let loads = map (phase_load (kinds tree) (weights tree)) phs in
      record {
        replayed = replay_of p tree phs list;
        histogram = record { traces = suc h.traces; counts = add_loads h.counts loads };
      }

  unfoldable pub add_call : ℕ → ℕ → List ℕ → List ℕ → List ℕ → Histogram → Added
  add_call w p tree trace list h =
      let refusal = add_verdict w p tree trace list h in
      elim (eqb refusal.number 0) [
        | true ↦ add_of p tree (replay_walk w p (kinds tree) (records 4 trace)).state list h
        | false ↦ add_refused refusal list h
      ]
