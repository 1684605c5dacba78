-- Document 02, #106: what is claimed of a call that adds a trace to a histogram, and of any list of such calls. `add_call wrapping`
-- is what the contract of `Histogram::add` promises, so these are its answers and histograms. `add_call suc` counts without end,
-- as document 02 does.
use Rattle.std.specs.Prelude.{ℕ, suc, ◌≤◌, ◌<◌, ◌≡◌, Bool, cond, List, [], ◌∷◌, ◌++◌, map, length, get_or, eqb}
use Rattle.rules.specs.Bytes.{sum}
use Rattle.rules.specs.Tree.{kinds, weights}
use Rattle.rules.specs.Scheduling.{Phase}
use Rattle.rules.specs.Traces.{phase_load}
use Rattle.rules.specs.Calls.{Replayed, replay_refused, replay_call}
use Rattle.rules_histogram.specs.Limits.{bucket_count, place}
use Rattle.rules_histogram.specs.Histograms.{most_traces, Histogram, empty, Added, wrapping, add_loads, add_call}
use Rattle.replay_invariant.specs.Splits.{phases_of}

-- ---- calls

-- What a call is given beside the histogram. `list` is the lent run list.
pub record Call : Type 0 where
  pub workers : ℕ
  pub policy : ℕ
  pub tree : List ℕ
  pub trace : List ℕ
  pub list : List ℕ

-- What replay answers to the same.
unfoldable pub alone : Call → Replayed
alone c = replay_call c.workers c.policy c.tree c.trace c.list

-- The phases of its trace, and their loads.
abbrev pub phases : Call → List Phase
phases c = phases_of c.workers c.policy c.tree c.trace

unfoldable pub loads_of : Call → List ℕ
loads_of c = map (phase_load (kinds c.tree) (weights c.tree)) (phases c)

-- Whether an answer is no refusal.
unfoldable pub accepts : Replayed → Bool
accepts answer = eqb answer.verdict.number 0

-- `more` counts one more.
module _ (more : ℕ → ℕ) where
  -- What a call answers, given a histogram, and the next one.
  unfoldable pub called : Call → Histogram → Added
  called c h = add_call more c.workers c.policy c.tree c.trace c.list h

  -- The histogram after a list of calls: the first is given one, each later call what the one before handed back, refused or not.
  unfoldable pub after_calls : Histogram → List Call → Histogram
  after_calls h [] = h
  after_calls h (c ∷ cs) = after_calls (called c h).histogram cs

  -- What they answer, in order.
  unfoldable pub answers : Histogram → List Call → List Replayed
  answers h [] = []
  answers h (c ∷ cs) = (called c h).replayed ∷ answers (called c h).histogram cs

  -- The loads of the phases of all traces that they add.
  unfoldable pub loads_added : Histogram → List Call → List ℕ
  loads_added h [] = []
  loads_added h (c ∷ cs) = cond (accepts (called c h).replayed) (loads_of c) [] ++ loads_added (called c h).histogram cs

-- ---- one call

-- Given any histogram, also one "that no start and additions lead to".
module _ (more : ℕ → ℕ) (c : Call) (h : Histogram) where
  abbrev result : Added
  result = called more c h

  pub record Addition : Type 0 where
    -- "Does what replay does, run list included", while fewer than 65,535 have been added.
    pub replays : h.traces < most_traces → result.replayed ≡ alone c
    -- What replay refuses is refused alike, however many have been added: 17 is judged "after every refusal of the replay itself".
    pub refuses : ((alone c).verdict.number ≡ 0 → ⊥) → result.replayed ≡ alone c
    -- "17, a trace when 65,535 have been added", at position 0,
    pub full : most_traces ≤ h.traces → (alone c).verdict.number ≡ 0
        → result.replayed.verdict ≡ record { number = 17; position = 0 }
    -- and only then.
    pub only_full : result.replayed.verdict.number ≡ 17 → (most_traces ≤ h.traces) × ((alone c).verdict.number ≡ 0)
    -- "Adds all its phases": one trace more, and the load of each of the phases answered,
    pub adds : result.replayed.verdict.number ≡ 0
        → result.histogram ≡ record { traces = suc h.traces; counts = add_loads more h.counts (loads_of c) }
    pub all : result.replayed.verdict.number ≡ 0 → length (loads_of c) ≡ result.replayed.phase_count
    -- "or, refused, hands back the histogram it got",
    pub keeps : (result.replayed.verdict.number ≡ 0 → ⊥) → result.histogram ≡ h
    -- with all other answers 0, the phases too, and the run list as it was.
    pub nothing : (result.replayed.verdict.number ≡ 0 → ⊥)
        → result.replayed ≡ replay_refused result.replayed.verdict c.list

-- ---- any list of calls

-- "Since the start": the first call is given the empty histogram.
module _ (calls : List Call) where
  abbrev reached : Histogram
  reached = after_calls wrapping empty calls

  abbrev answered : List Replayed
  answered = answers wrapping empty calls

  pub record Totals : Type 0 where
    -- "A bucket for load 0 and 176 limits."
    pub buckets : length reached.counts ≡ bucket_count
    -- "The counts add up to the phases of all traces added since the start." A refused call answers 0 phases.
    pub adds_up : sum (λ count. count) reached.counts ≡ sum (λ answer. answer.phase_count) answered
    -- Each is the number of those phases whose load goes to its bucket.
    pub each : (b : ℕ) → get_or reached.counts b 0 ≡ sum (λ load. cond (eqb (place load) b) 1 0) (loads_added wrapping empty calls)
    -- "Refused ones do not count": the traces added are those of the calls accepted,
    pub counted : reached.traces ≡ sum (λ answer. cond (accepts answer) 1 0) answered
    -- and never more than 65,535.
    pub most : reached.traces ≤ most_traces
    -- No count of four bytes ever wraps: any next call does what it would do counting without end,
    pub exact : (c : Call) → called wrapping c reached ≡ called suc c reached
    -- and so did all calls up to here.
    pub same_histogram : reached ≡ after_calls suc empty calls
    pub same_answers : answered ≡ answers suc empty calls
