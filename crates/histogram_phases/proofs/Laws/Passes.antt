-- The loop that adds the phases of a run list to the counts, turn by turn.
use Rattle.std.specs.Prelude.{◌≡◌, ℕ, ◌+◌, ◌-◌, ◌*◌, ◌<◌, ◌≤◌, List, ◌∷◌, map, ◌≢◌, slice_index}
use Rattle.std.proofs.Math.Path.{refl}
use Rattle.std.proofs.Math.Numerals.{add-one}
use native.Mathlib.Omega.{arith}
use Rattle.rules.specs.Bytes.{count}
use Rattle.rules.specs.Scheduling.{Entry}
use Rattle.tree.specs.Laws.Counts.{count_low, count_none}
use Rattle.buffers.specs.Terms.{number_at}
use Rattle.rules_histogram.specs.Histograms.{wrapping, add_load, add_loads}
use Rattle.histogram_phases.specs.Terms.{entry_read, entries_read, loads_from, phase_loads}
use Rattle.histogram_phases.proofs.Laws.Loads.{loads_same, loads_other}

-- The weights of a tree, a run list and n, how many of its records count.
module _ (ws list : List ℕ) (n : ℕ) where
  -- The records from i on.
  abbrev from : ℕ → List Entry
  from i = map (entry_read list) (count i (n - i))

  -- From the counts `before` on, i records are added up: `load` is that of the phase at hand, and the phases before it are in `counts`.
  -- So what is still to be added to `counts` leads where all does from `before`.
  pub record Adding (before : List ℕ) (i phase load : ℕ) (counts : List ℕ) : Type 0 where
    pub light : load ≤ 4294967295 * i
    pub leads : add_loads wrapping counts (loads_from ws phase load (from i))
        ≡ add_loads wrapping before (phase_loads ws (entries_read list n))

  pub adding_start : (before : List ℕ) → Adding before 0 0 0 before
  unfolding phase_loads entries_read
  adding_start before =
      let all : n - 0 ≡ n = omega arith in
      record { light = omega arith; leads = rw all refl }

  module _ {before : List ℕ} {i phase load : ℕ} {counts : List ℕ} (so : Adding before i phase load counts) where
    -- What record i is.
    module _ (h : i < n) {next step weight : ℕ} (is-next : next ≡ number_at list (4 * i))
        (is-step : step ≡ number_at list (4 * i + 2)) (weighs : weight ≡ slice_index ws step) (small : weight < 4294967296) where
      abbrev entry : Entry
      entry = record { phase = next; step = step }

      takes : from i ≡ entry ∷ from (i + 1)
      unfolding entry_read
      takes = rw (count_low i n h, add-one, is-next, is-step) refl

      -- It is of the phase at hand,
      pub adding-own : next ≡ phase → Adding before (i + 1) phase (load + weight) counts
      adding-own same =
          let own = loads_same ws phase load entry (from (i + 1)) same in
          record {
            light = omega (arith, so.light);
            leads = rw (weighs, ← own, ← takes) so.leads;
          }

      -- or it ends that phase.
      pub adding-next : (next ≢ phase) → {after : List ℕ} → after ≡ add_load wrapping counts load
          → Adding before (i + 1) next weight after
      unfolding add_loads
      adding-next other added =
          let ends = loads_other ws phase load entry (from (i + 1)) other in
          record {
            light = omega arith;
            leads = rw (added, weighs) (rw (takes, ends) at so.leads);
          }

    -- At the end the last phase is added.
    pub adding-done : n ≤ i → add_load wrapping counts load ≡ add_loads wrapping before (phase_loads ws (entries_read list n))
    unfolding loads_from add_loads
    adding-done h = rw (count_none i n h) at so.leads
