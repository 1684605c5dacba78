-- The workers of the phases of an accepted trace: worker 0 of phase 0, of a later one the thief of the record that began it.
use Prim.Native.Nat.{ℕ, zero, suc, ◌+◌, ◌*◌, ◌/◌, ◌≤◌, ◌<◌}
use Rattle.std.specs.Prelude.{◌≡◌}
use Rattle.std.proofs.Math.Path.{refl, sym, ap}
use Rattle.std.proofs.Common.{◌∙◌}
use mathlib.Core.List.{List, [], ◌∷◌, ◌++◌, map, append-nil, append_assoc}
use Rattle.std.proofs.Math.Decide.{ℕ_discrete}
use native.Mathlib.Omega.{arith}
use Rattle.std.proofs.Math.ListN.{length, get_or, get_or-map}
use Rattle.std.proofs.lemmas.List.{length-map}
use borrow.Author.Tests.{eq-eqb, ne_eqb}
use Rattle.rules.specs.Bytes.{records, walk}
use Rattle.rules.specs.Scheduling.{Phase, first_phases, phase_at}
use Rattle.rules.specs.Traces.{judge_trace_record, next_phases, stolen_step, record_number, replay_walk}
use Rattle.tree.specs.Laws.Records.{length-records, field_at}
use Rattle.run_invariant.proofs.Laws.Moves.{begin-map}
use Rattle.replay_invariant.proofs.Laws.Always.{judged-read, read_next}
use Rattle.phases_text.specs.Line.Terms.{worker_by}

-- The worker that a record gives a phase to.
thief : List ℕ → ℕ
thief r = get_or r 0 0

workers : List Phase → List ℕ
workers phs = map (λ ph. ph.worker) phs

module _ (w p : ℕ) (ks : List ℕ) where
  next_workers : (phs : List Phase) (r : List ℕ) → judge_trace_record w p ks phs r ≡ 0
      → workers (next_phases p ks phs r) ≡ workers phs ++ (thief r ∷ [])
  unfolding workers thief
  next_workers phs r j =
      let x = judged-read w p ks phs r j in
      let s = stolen_step p ks (phase_at phs x.from) (record_number r) in
      rw (read_next w p ks phs r x) (begin-map phs (get_or r 0 0) x.from s (λ ph. ph.worker) refl)

  walk_workers : (i : ℕ) (phs : List Phase) (rs : List (List ℕ))
      → (walk (judge_trace_record w p ks) (next_phases p ks) i phs rs).verdict.number ≡ 0
      → workers (walk (judge_trace_record w p ks) (next_phases p ks) i phs rs).state ≡ workers phs ++ map thief rs
  unfolding walk
  walk_workers i phs [] e = sym (append-nil (workers phs))
  walk_workers i phs (r ∷ rs) e =
      elim (ℕ_discrete (judge_trace_record w p ks phs r) 0) [
        | yes z ↦
            let fine = eq-eqb (judge_trace_record w p ks phs r) 0 z in
            rw fine
            (walk_workers (suc i) (next_phases p ks phs r) rs (rw fine at e)
            ∙ rw (next_workers phs r z) (append_assoc (workers phs) (thief r ∷ []) (map thief rs)))
        | no n ↦ absurd (n (rw (ne_eqb (judge_trace_record w p ks phs r) 0 n) at e))
      ]

  module _ (trace : List ℕ) (accepts : (replay_walk w p ks (records 4 trace)).verdict.number ≡ 0) where
    all-workers : workers (replay_walk w p ks (records 4 trace)).state ≡ 0 ∷ map thief (records 4 trace)
    unfolding replay_walk first_phases workers
    all-workers = walk_workers 0 first_phases (records 4 trace) accepts

    -- There is one phase more than the trace has records.
    pub phases-many : length (replay_walk w p ks (records 4 trace)).state ≡ suc (length trace / 4)
    unfolding workers
    phases-many =
        let phs = (replay_walk w p ks (records 4 trace)).state in
        sym (length-map phs (λ (ph : Phase). ph.worker))
        ∙ (ap length all-workers ∙ ap suc (length-map (records 4 trace) thief ∙ length-records 4 trace))

    later : (k : ℕ) → k < length trace / 4 → get_or (map thief (records 4 trace)) k 0 ≡ get_or trace (4 * k) 0
    unfolding thief
    later k h =
        let at : 4 * k + 0 ≡ 4 * k = omega arith in
        get_or-map thief (records 4 trace) k [] ∙ (rw at at (field_at 4 trace k 0 h (omega arith)))

    by : (k : ℕ) → k ≤ length trace / 4 → get_or (0 ∷ map thief (records 4 trace)) k 0 ≡ worker_by trace k
    unfolding worker_by
    by zero h = refl
    by (suc k) h = later k h

    pub phase-worker : (k : ℕ) → k ≤ length trace / 4
        → (phase_at (replay_walk w p ks (records 4 trace)).state k).worker ≡ worker_by trace k
    unfolding phase_at workers
    phase-worker k h =
        let phs = (replay_walk w p ks (records 4 trace)).state in
        sym (get_or-map (λ (ph : Phase). ph.worker) phs k (record { worker = 0; first = 0; stolen = [] }))
        ∙ (ap (λ (l : List ℕ). get_or l k 0) all-workers ∙ by k h)
