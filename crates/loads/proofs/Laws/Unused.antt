-- A worker that a run of w workers does not have has no phase, live or replayed, and no load.
use Rattle.std.specs.Prelude.{ℕ, zero, suc, ◌≤◌, ◌<◌, ◌≡◌, false, length, eqb}
use Rattle.std.proofs.Math.Path.{refl}
use Rattle.std.proofs.Common.{sym, ◌∙◌, arith}
use mathlib.Core.List.{List, [], ◌∷◌, map}
use Rattle.std.proofs.Math.Option.{Option, none, some}
use Rattle.std.proofs.Math.Decide.{ℕ_discrete, dec_lt}
use Rattle.std.proofs.Math.ListN.{get_or, get_or-eq_default}
use borrow.Author.Tests.{eq-eqb, ne_eqb, eqb-false, le-leb}
use Rattle.rules.specs.Bytes.{any, sum}
use Rattle.rules.specs.Scheduling.{most_workers, Phase, first_phases, phase_at, begin, Run, start, is_run, steal, judge_event}
use Rattle.rules.specs.Scheduling.{next_run}
use Rattle.rules.specs.Traces.{latest_phase, judge_trace_record, next_phases, replay_walk, worker_load, loads}
use Rattle.rules.specs.Calls.{record_walk}
use Rattle.tree.specs.Laws.Verdicts.{or_none}
use Rattle.tree.specs.Laws.Walks.{walk_keeps}
use Rattle.run_invariant.proofs.Laws.Counts.{any_one}
use Rattle.run_invariant.proofs.Laws.Moves.{begin-map, ran, run_is, run_held, event_runs, first_within}
use Rattle.run_invariant.proofs.Laws.Crew.{event_many, start-many}
use Rattle.loads.proofs.Laws.Loads.{loads-length, loads-at}
use Rattle.loads.proofs.Laws.Classes.{Manned}

-- No phase is worker u's.
abbrev pub Unused : ℕ → List Phase → Type 0
Unused u phs = any (eqb u) (map (λ ph. ph.worker) phs) ≡ false

-- ---- loads

module _ (ks ws : List ℕ) (u : ℕ) where
  unused_load : (phs : List Phase) → Unused u phs → worker_load ks ws phs u ≡ 0
  unfolding worker_load any sum
  unused_load [] free = refl
  unused_load (ph ∷ phs) free =
      let both = or_none (eqb u ph.worker) (any (eqb u) (map (λ x. x.worker) phs)) free in
      let other = ne_eqb ph.worker u (λ e. eqb-false u ph.worker both.0 (sym e)) in
      rw other (omega (arith, unused_load phs both.1))

  pub unused_loads : (phs : List Phase) → Unused u phs → get_or (loads most_workers ks ws phs) u 0 ≡ 0
  unused_loads phs free =
      elim (dec_lt u 16) [
        | yes few ↦ loads-at most_workers ks ws phs u few ∙ unused_load phs free
        | no n ↦ get_or-eq_default (loads most_workers ks ws phs) 0 (omega (arith, loads-length most_workers ks ws phs))
      ]

-- ---- phases

unused_at : (u : ℕ) (phs : List Phase) → Unused u phs → (k : ℕ) → k < length phs → u ≡ (phase_at phs k).worker → ⊥
unfolding any phase_at
unused_at u [] free k h = absurd (omega arith)
unused_at u (ph ∷ phs) free zero h = eqb-false u ph.worker (or_none (eqb u ph.worker) _ free).0
unused_at u (ph ∷ phs) free (suc k) h = unused_at u phs (or_none (eqb u ph.worker) _ free).1 k (omega arith)

-- Where no worker above sixteen has a phase, each phase is a worker's of the sixteen.
pub unused_manned : (phs : List Phase) → ((u : ℕ) → most_workers ≤ u → Unused u phs) → Manned phs
unused_manned phs free k h =
    elim (dec_lt (phase_at phs k).worker 16) [
      | yes few ↦ few
      | no n ↦ absurd (unused_at (phase_at phs k).worker phs (free (phase_at phs k).worker (omega arith)) k h refl)
    ]

module _ (u : ℕ) where
  unused_begin : (phs : List Phase) (t k s : ℕ) → Unused u phs → (u ≡ t → ⊥) → Unused u (begin phs t k s)
  unused_begin phs t k s free n =
      rw (begin-map phs t k s (λ (ph : Phase). ph.worker) refl, any_one (eqb u) (map (λ ph. ph.worker) phs) t, free) (ne_eqb u t n)

  module _ (w p : ℕ) (ks : List ℕ) (some-worker : 1 ≤ w) (beyond : w ≤ u) where
    unused-first : Unused u first_phases
    unfolding first_phases any
    unused-first = rw (ne_eqb u 0 (omega arith)) refl

    -- ---- a trace

    read_keeps : (phs : List Phase) (r : List ℕ) → Unused u phs → judge_trace_record w p ks phs r ≡ 0 → Unused u (next_phases p ks phs r)
    unfolding judge_trace_record next_phases
    read_keeps phs r free fine = by (latest_phase (get_or r 1 0) 0 phs) refl
      where
        apart : u ≡ get_or r 0 0 → ⊥
        apart e = omega (arith, rw (le-leb w (get_or r 0 0) (omega arith)) at fine)

        by : (o : Option ℕ) → latest_phase (get_or r 1 0) 0 phs ≡ o → Unused u (next_phases p ks phs r)
        by none e = rw (e, next_phases) free
        by (some k) e = rw (e, next_phases) (unused_begin phs (get_or r 0 0) k _ free apart)

    pub replayed-unused : (rs : List (List ℕ)) → Unused u (replay_walk w p ks rs).state
    unfolding replay_walk
    replayed-unused rs =
        walk_keeps (judge_trace_record w p ks) (next_phases p ks) (Unused u) read_keeps rs 0 first_phases unused-first

    -- ---- events

    -- The run has w workers, and no phase is worker u's.
    record Kept (r : Run) : Type 0 where
      many : length r.workers ≡ w
      free : Unused u r.phases

    event-free : (r : Run) (e : List ℕ) → Kept r → judge_event ks r e ≡ 0 → Unused u (next_run p ks r e).phases
    unfolding next_run is_run steal ran
    event-free r e kept fine =
        elim (ℕ_discrete (get_or e 0 0) (get_or e 1 0)) [
          | yes same ↦
              let held = run_held ks r (get_or e 0 0) (event_runs ks r e fine same) in
              rw (eq-eqb (get_or e 0 0) (get_or e 1 0) same, run_is p ks r (get_or e 0 0) held.0 held.1) kept.free
          | no n ↦
              let here = first_within ks r e fine in
              rw (ne_eqb (get_or e 0 0) (get_or e 1 0) n)
              (unused_begin r.phases (get_or e 0 0) _ _ kept.free (λ s. omega (arith, kept.many)))
        ]

    event_keeps : (r : Run) (e : List ℕ) → Kept r → judge_event ks r e ≡ 0 → Kept (next_run p ks r e)
    event_keeps r e kept fine = record { many = event_many w p ks r e kept.many fine; free = event-free r e kept fine }

    pub recorded-unused : (es : List (List ℕ)) → Unused u (record_walk w p ks es).state.phases
    unfolding record_walk start
    recorded-unused es =
        (walk_keeps (judge_event ks) (next_run p ks) Kept event_keeps es 0 (start w)
        (record { many = start-many w p ks; free = unused-first })).free
