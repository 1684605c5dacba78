-- One pass over the run list of an accepted trace finds the load of each phase: the list has the phases one behind the other, each
-- with at least its first step, and a phase's steps there are those that it covers, each once.
use Rattle.std.specs.Prelude.{◌≡◌, ℕ, suc, ◌+◌, ◌<◌, List, [], ◌∷◌, ◌++◌, map, length, ◌≢◌, slice_index}
use Rattle.std.proofs.Math.Path.{refl, sym, ap}
use Rattle.std.proofs.Common.{◌∙◌, zero-add}
use mathlib.Core.List.{map-id}
use native.Mathlib.Omega.{arith}
use borrow.Author.Tests.{eq-eqb, ne_eqb}
use Rattle.rules.specs.Bytes.{records, sum}
use Rattle.rules.specs.Tree.{kinds, weights}
use Rattle.rules.specs.Scheduling.{Phase, phase_at, Entry}
use Rattle.rules.specs.Traces.{entry_bytes, running_order, run_list, replay_walk, phase_load}
use Rattle.rules.specs.Calls.{written, replay_verdict}
use Rattle.tree.specs.Laws.Counts.{map-count}
use Rattle.run_invariant.proofs.Laws.Counts.{sum_ones}
use Rattle.replay_invariant.specs.Splits.{phases_of}
use Rattle.replay_invariant.proofs.Laws.Order.{order_sum}
use Rattle.replay_invariant.proofs.Laws.Consequences.{entries, list_from, list_is, order_first, replay_frame, replay_split, splits}
use Rattle.replay_invariant.proofs.Laws.Entries.{run_of, phase-by, step_by}
use Rattle.histogram_phases.specs.Terms.{entry_read, entries_read, loads_from, phase_loads}

-- ---- the pass over a phase's records

module _ (ws : List ℕ) where
  -- A record of the phase at hand, and one of another.
  pub loads_same : (phase load : ℕ) (e : Entry) (es : List Entry) → e.phase ≡ phase
      → loads_from ws phase load (e ∷ es) ≡ loads_from ws phase (load + slice_index ws e.step) es
  unfolding loads_from
  loads_same phase load e es same = rw (loads_from, eq-eqb e.phase phase same) refl

  pub loads_other : (phase load : ℕ) (e : Entry) (es : List Entry) → (e.phase ≢ phase)
      → loads_from ws phase load (e ∷ es) ≡ load ∷ loads_from ws e.phase (slice_index ws e.step) es
  unfolding loads_from
  loads_other phase load e es other = rw (loads_from, ne_eqb e.phase phase other) refl

  -- What some steps weigh.
  weigh : List ℕ → ℕ
  weigh l = sum (λ i. slice_index ws i) l

  -- All records of the phase at hand.
  loads_own : (k : ℕ) (l : List ℕ) (load : ℕ) (rest : List Entry)
      → loads_from ws k load (entries k l ++ rest) ≡ loads_from ws k (load + weigh l) rest
  unfolding loads_from entries sum weigh
  loads_own k [] load rest =
      let none : load + 0 ≡ load = omega arith in
      rw none refl
  loads_own k (x ∷ l) load rest =
      let same : load + slice_index ws x + weigh l ≡ load + (slice_index ws x + weigh l) = omega arith in
      loads_same k load (record { phase = k; step = x }) (entries k l ++ rest) refl
      ∙ (loads_own k l (load + slice_index ws x) rest ∙ ap (λ (n : ℕ). loads_from ws k n rest) same)

  -- All records of the next phase, at least one.
  loads-next : (k x : ℕ) (l : List ℕ) (load : ℕ) (rest : List Entry)
      → loads_from ws k load (entries (suc k) (x ∷ l) ++ rest) ≡ load ∷ loads_from ws (suc k) (weigh (x ∷ l)) rest
  unfolding loads_from entries sum weigh
  loads-next k x l load rest =
      loads_other k load (record { phase = suc k; step = x }) (entries (suc k) l ++ rest) (omega arith)
      ∙ ap (λ (r : List ℕ). load ∷ r) (loads_own (suc k) l (slice_index ws x) rest)

-- ---- the pass over all

-- A phase has a first step, and its steps weigh its load.
abbrev Weighed : ℕ → List ℕ → List ℕ → Phase → Type 0
Weighed p ks ws ph =
    ((rest : List ℕ) × (running_order p ks ph ≡ ph.first ∷ rest)) × (weigh ws (running_order p ks ph) ≡ phase_load ks ws ph)

module _ (p : ℕ) (ks ws : List ℕ) where
  loads-later : (phs : List Phase) (k load : ℕ) → ((i : ℕ) → i < length phs → Weighed p ks ws (phase_at phs i))
      → loads_from ws k load (list_from p ks (suc k) phs) ≡ load ∷ map (phase_load ks ws) phs
  unfolding list_from loads_from phase_at
  loads-later [] k load each = refl
  loads-later (ph ∷ phs) k load each =
      let order = (each 0 (omega arith)).0.1 in
      let weighs = sym (ap (weigh ws) order) ∙ (each 0 (omega arith)).1 in
      let rest = list_from p ks (suc (suc k)) phs in
      rw order
      (loads-next ws k ph.first (each 0 (omega arith)).0.0 load rest
      ∙ ap (λ (r : List ℕ). load ∷ r)
      (ap (λ (n : ℕ). loads_from ws (suc k) n rest) weighs
      ∙ loads-later phs (suc k) (phase_load ks ws ph) (λ i h. each (suc i) (omega arith))))

  loads_all : (phs : List Phase) → 0 < length phs → ((i : ℕ) → i < length phs → Weighed p ks ws (phase_at phs i))
      → phase_loads ws (run_list p ks phs) ≡ map (phase_load ks ws) phs
  unfolding phase_loads list_from phase_at
  loads_all [] some each = absurd (omega arith)
  loads_all (ph ∷ phs) some each =
      let rest = list_from p ks 1 phs in
      rw (list_is p ks (ph ∷ phs))
      (loads_own ws 0 (running_order p ks ph) 0 rest
      ∙ rw (zero-add, (each 0 (omega arith)).1)
      (loads-later phs 0 (phase_load ks ws ph) (λ i h. each (suc i) (omega arith))))

-- ---- an accepted replay

module _ (w p : ℕ) (tree trace list : List ℕ) (e : (replay_verdict w p tree trace list).number ≡ 0) where
  abbrev run : List Entry
  run = run_of w p tree trace

  -- The run list, read from where it is written.
  run_read : entries_read (written (entry_bytes run) list) (length run) ≡ run
  unfolding entry_read entries_read
  run_read =
      map-count (λ x. x) (entry_read (written (entry_bytes run) list)) (record { phase = 0; step = 0 }) 0 run
      (λ i h. rw (zero-add, phase-by w p tree trace list e i h, step_by w p tree trace list e i h) refl)
      ∙ map-id run

  weighed : (i : ℕ) → i < length (phases_of w p tree trace)
      → Weighed p (kinds tree) (weights tree) (phase_at (phases_of w p tree trace) i)
  unfolding phase_load weigh
  weighed i h =
      let frame = replay_frame w p tree trace list e in
      let split = replay_split w p tree trace list e in
      let phs = phases_of w p tree trace in (
        order_first p (kinds tree) frame.some frame.shape phs split i h,
        order_sum p (kinds tree) frame.shape (phase_at phs i) (split.cuts i h) (λ j. slice_index (weights tree) j),
      )

  phases-some : 0 < length (phases_of w p tree trace)
  phases-some =
      omega (arith, (replay_split w p tree trace list e).begun (λ j. 1), sum_ones (phases_of w p tree trace))

  -- What the pass finds in the run list, once that is written, are the loads of the trace's phases.
  pub listed-loads : let phs = (replay_walk w p (kinds tree) (records 4 trace)).state in
      phase_loads (weights tree) (entries_read (written (entry_bytes (run_list p (kinds tree) phs)) list) (length (kinds tree)))
      ≡ map (phase_load (kinds tree) (weights tree)) phs
  unfolding phases_of
  listed-loads =
      rw (← (splits w p tree trace list e).many, run_read)
      (loads_all p (kinds tree) (weights tree) (phases_of w p tree trace) phases-some weighed)
