-- The entries of an accepted trace's run list: the phases and steps that they name, and that they are read again from their bytes.
use Rattle.std.specs.Prelude.{ℕ, zero, suc, ◌+◌, ◌*◌, ◌≤◌, ◌<◌, ◌≡◌, refl, Bool, true, false, cond, not, List, [], ◌∷◌, length, drop, eqb, ltb, leb}
use Rattle.std.proofs.Math.Decide.{dec_lt}
use native.Mathlib.Omega.{arith}
use Rattle.std.proofs.Math.ListN.{length-append}
use Rattle.std.proofs.Common.{eq-eqb, ltb-true}
use Rattle.rules.specs.Bytes.{any, sum}
use Rattle.rules.specs.Tree.{kinds, task_end}
use Rattle.rules.specs.Scheduling.{Phase, phase_at, Entry}
use Rattle.rules.specs.Traces.{entry_bytes, run_list, from_step, covers}
use Rattle.rules.specs.Calls.{written, replay_verdict}
use Rattle.buffers.specs.Terms.{number_at}
use Rattle.buffers.specs.Laws.Records.{entry_at, length-entries, number_phase, number_step}
use Rattle.run_invariant.specs.Invariant.{log_of, self}
use Rattle.run_invariant.proofs.Laws.Counts.{and_both}
use Rattle.replay_invariant.specs.Splits.{phases_of, Splits}
use Rattle.replay_invariant.proofs.Laws.Consequences.{list_none, phases_most, replay_frame, replay_split, splits}

-- The run list of a trace.
abbrev pub run_of : ℕ → ℕ → List ℕ → List ℕ → List Entry
run_of w p tree trace = run_list p (kinds tree) (phases_of w p tree trace)

-- ---- what they name

-- An entry's step is one of those of its phase.
own_entry : (es : List Entry) (i : ℕ) → i < length es → 1 ≤ sum (self (entry_at es i).step) (log_of (entry_at es i).phase es)
unfolding log_of sum self
own_entry [] i h = absurd (omega arith)
own_entry (e ∷ es) zero h = rw (eq-eqb e.phase e.phase refl, eq-eqb e.step e.step refl) (omega arith)
own_entry (e ∷ es) (suc i) h = by (eqb e.phase (entry_at es i).phase) (own_entry es i (omega arith))
  where
    by : (b : Bool) → 1 ≤ sum (self (entry_at es i).step) (log_of (entry_at es i).phase es)
        → 1 ≤ sum (self (entry_at es i).step) (cond b (e.step ∷ log_of (entry_at es i).phase es) (log_of (entry_at es i).phase es))
    by true l = omega arith
    by false l = l

-- A phase covers steps of the tree only.
covers_within : (ks : List ℕ) (ph : Phase) (j : ℕ) → covers ks ph j ≡ true → j < length ks
unfolding covers from_step task_end
covers_within ks ph j c =
    let from = (and_both (from_step ks ph.first j) (not (any (λ s. from_step ks s j) ph.stolen)) c).0 in
    let below = ltb-true j (task_end ks ph.first) (and_both (leb ph.first j) (ltb j (task_end ks ph.first)) from).1 in
    omega (arith, below)

module _ (w p : ℕ) (tree trace : List ℕ) (splits : Splits w p tree trace) (i : ℕ) (h : i < length (run_of w p tree trace)) where
  abbrev entry : Entry
  entry = entry_at (run_of w p tree trace) i

  own : 1 ≤ sum (self entry.step) (log_of entry.phase (run_of w p tree trace))
  own = own_entry (run_of w p tree trace) i h

  pub entry_phase : entry.phase < length (phases_of w p tree trace)
  unfolding sum
  entry_phase =
      elim (dec_lt entry.phase (length (phases_of w p tree trace))) [
        | yes l ↦ l
        | no n ↦
            let none = list_none p (kinds tree) (phases_of w p tree trace) entry.phase (omega arith) in
            absurd (omega (arith, rw none at own))
      ]

  pub entry-step : entry.step < length (kinds tree)
  entry-step =
      let ph = phase_at (phases_of w p tree trace) entry.phase in
      let some = rw (splits.parts entry.phase entry_phase, splits.exactly entry.phase entry_phase entry.step) at own in
      by ph (covers (kinds tree) ph entry.step) refl some
    where
      by : (ph : Phase) (b : Bool) → covers (kinds tree) ph entry.step ≡ b → 1 ≤ cond b 1 0 → entry.step < length (kinds tree)
      by ph true c l = covers_within (kinds tree) ph entry.step c
      by ph false c l = absurd (omega arith)

-- ---- read again

-- The run list of an accepted replay, written to a buffer.
module _ (w p : ℕ) (tree trace list : List ℕ) (e : (replay_verdict w p tree trace list).number ≡ 0) where
  abbrev run : List Entry
  run = run_of w p tree trace

  module _ (i : ℕ) (h : i < length run) where
    pub phase-by : number_at (written (entry_bytes run) list) (4 * i) ≡ (entry_at run i).phase
    unfolding written
    phase-by =
        let frame = replay_frame w p tree trace list e in
        let split = replay_split w p tree trace list e in
        let most = phases_most p (kinds tree) frame.some frame.shape (phases_of w p tree trace) split in
        number_phase (drop (length (entry_bytes run)) list) run i h
        (omega (arith, most, frame.most, entry_phase w p tree trace (splits w p tree trace list e) i h))

    pub step_by : number_at (written (entry_bytes run) list) (4 * i + 2) ≡ (entry_at run i).step
    unfolding written
    step_by =
        number_step (drop (length (entry_bytes run)) list) run i h
        (omega (arith, (replay_frame w p tree trace list e).most, entry-step w p tree trace (splits w p tree trace list e) i h))

  -- All of it is there.
  pub listed_room : 4 * length (kinds tree) ≤ length (written (entry_bytes run) list)
  unfolding written
  listed_room =
      omega (
        arith,
        (splits w p tree trace list e).many,
        length-entries run,
        length-append (entry_bytes run) (drop (length (entry_bytes run)) list),
      )
