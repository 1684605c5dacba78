-- The run list of an accepted replay: the lines of its bytes are the rules'.
use Rattle.std.specs.Prelude.{ℕ, suc, ◌+◌, ◌*◌, ◌/◌, ◌≤◌, ◌<◌, ◌≡◌, refl, length}
use Rattle.std.proofs.Common.{ap, zero-add, arith}
use mathlib.Core.List.{List, [], ◌∷◌, flatten}
use Rattle.rules.specs.Tree.{kinds}
use Rattle.rules.specs.Scheduling.{Phase, phase_at, Entry}
use Rattle.rules.specs.Traces.{entry_bytes}
use Rattle.rules.specs.Calls.{written, replay_verdict}
use Rattle.rules.specs.Program.{phase_lines, line}
use Rattle.buffers.specs.Terms.{number_at}
use Rattle.buffers.specs.Laws.Records.{entry_at}
use Rattle.tree.specs.Laws.Counts.{map-count}
use Rattle.replay_invariant.specs.Splits.{phases_of, Splits}
use Rattle.replay_invariant.proofs.Laws.Consequences.{splits}
use Rattle.replay_invariant.proofs.Laws.Entries.{run_of, entry_phase, phase-by, step_by}
use Rattle.phases_text.specs.Line.Terms.{worker_by, line_of, lines_of, Phased}
use Rattle.phases_text.specs.Laws.Verdicts.{accepted-walk}
use Rattle.phases_text.specs.Laws.Workers.{phases-many, phase-worker}

-- ---- lines by entries

lines_same : (trace list : List ℕ) (phs : List Phase) (es : List Entry)
    → ((i : ℕ) → i < length es → number_at list (4 * i) ≡ (entry_at es i).phase)
    → ((i : ℕ) → i < length es → number_at list (4 * i + 2) ≡ (entry_at es i).step)
    → ((i : ℕ) → i < length es → (phase_at phs (entry_at es i).phase).worker ≡ worker_by trace (entry_at es i).phase)
    → lines_of trace list (length es) ≡ phase_lines phs es
unfolding line_of lines_of phase_lines
lines_same trace list phs es phase step worker =
    ap flatten
    (map-count (λ e. line (e.phase ∷ (phase_at phs e.phase).worker ∷ e.step ∷ []))
    (line_of trace list) (record { phase = 0; step = 0 }) 0 es
    (λ i h. rw (zero-add, phase i h, step i h, worker i h) refl))

-- ---- the run list of an accepted replay

module _ (w p : ℕ) (tree trace list : List ℕ) (e : (replay_verdict w p tree trace list).number ≡ 0) where
  abbrev phases : List Phase
  phases = phases_of w p tree trace

  abbrev run : List Entry
  run = run_of w p tree trace

  split : Splits w p tree trace
  split = splits w p tree trace list e

  many : length phases ≡ suc (length trace / 4)
  unfolding phases_of
  many = phases-many w p (kinds tree) trace (accepted-walk w p tree trace list e)

  -- What the entries name.
  phase_within : (i : ℕ) → i < length run → (entry_at run i).phase ≤ length trace / 4
  phase_within i h = omega (arith, many, entry_phase w p tree trace split i h)

  worker_by_lem : (i : ℕ) → i < length run → (phase_at phases (entry_at run i).phase).worker ≡ worker_by trace (entry_at run i).phase
  unfolding phases_of
  worker_by_lem i h =
      phase-worker w p (kinds tree) trace (accepted-walk w p tree trace list e) (entry_at run i).phase (phase_within i h)

  pub listed_lines : lines_of trace (written (entry_bytes run) list) (length (kinds tree)) ≡ phase_lines phases run
  listed_lines =
      rw (← split.many) (lines_same trace (written (entry_bytes run) list) phases run (phase-by w p tree trace list e)
      (step_by w p tree trace list e) worker_by_lem)

  pub listed-phases : Phased trace (written (entry_bytes run) list) (length (kinds tree))
  listed-phases k h =
      let at : k < length run = omega (arith, split.many) in
      rw (phase-by w p tree trace list e k at) (omega (arith, phase_within k at))
