-- A turn by its cases, and as one event that is tried: it is written where the rules accept it. So what holds of a list in the making
-- holds after each turn.
use Prim.Native.Nat.{ℕ, ◌*◌, ◌≤◌, ◌<◌}
use Rattle.std.specs.Prelude.{◌≡◌, Bool, get_or}
use Rattle.std.proofs.Math.Path.{refl}
use Rattle.std.proofs.Common.{sym, ◌∙◌}
use Rattle.std.proofs.Math.Bool.{true, false, cond, not}
use mathlib.Core.List.{List, [], ◌∷◌, ◌++◌, flatten}
use Rattle.std.proofs.Math.Option.{Option, none, some}
use Rattle.std.proofs.Math.Decide.{ℕ_discrete, dec_lt}
use native.Mathlib.Omega.{arith}
use Rattle.std.proofs.Math.ListN.{length, length-append}
use Rattle.std.proofs.Math.Dec.{eqb}
use borrow.Author.Tests.{lt-ltb, le-ltb, le-leb, lt-leb, eq-eqb, ne_eqb, eqb-true, eqb-false}
use Rattle.rules.specs.Bytes.{records, all, walk}
use Rattle.rules.specs.Scheduling.{Run, start, worker_at, waits, is_run, judge_run, holds_step, judge_steal, judge_event, next_run}
use Rattle.rules.specs.Calls.{event_call, record_walk}
use Rattle.rules_schedule.specs.Schedules.{draw, named, Making, begun, write, drawn, robbable, steal_turn, turn, most_made}
use Rattle.buffers.specs.Laws.Records.{wide_one, flatten-length, flatten-records}
use Rattle.tree.specs.Laws.Walks.{walk_more}
use Rattle.tree_scan.specs.Laws.Shape.{Shape}
use Rattle.tree_scan.specs.Laws.Frames.{end_at, size_at}
use Rattle.run_invariant.proofs.Laws.Events.{event_next, event_same, adds_one}
use Rattle.run_invariant.proofs.Laws.Crew.{event_many, start-many}
use Rattle.run_invariant.proofs.Laws.Always.{start_invariant, event_keeps}
use Rattle.run_invariant.proofs.Laws.Consequences.{runs_most, steals_most}
use Rattle.schedule_invariant.specs.Terms.{Going}

-- ---- a turn by its cases

module _ (p : ℕ) (ks : List ℕ) (m : Making) (u : ℕ) where
  -- A worker whose step may run gets a run event,
  pub turn_runs : (i : ℕ) → (worker_at m.run u).hand.held ≡ some i → waits ks m.run.log i ≡ false
      → turn p ks m u ≡ write p ks m (u ∷ u ∷ [])
  unfolding turn
  turn_runs i held free = rw (turn, held, free) refl

  -- one that waits passes,
  pub turn-waits : (i : ℕ) → (worker_at m.run u).hand.held ≡ some i → waits ks m.run.log i ≡ true → turn p ks m u ≡ m
  unfolding turn
  turn-waits i held late = rw (turn, held, late) refl

  -- an idle one draws, and steals or passes.
  pub turn_steals : (worker_at m.run u).hand.held ≡ none → robbable m.run u (named (draw m.seed)) ≡ true
      → turn p ks m u ≡ write p ks (drawn m) (u ∷ named (draw m.seed) ∷ [])
  unfolding turn steal_turn drawn
  turn_steals idle rich = rw (turn, idle, rich) refl

  pub turn-passes : (worker_at m.run u).hand.held ≡ none → robbable m.run u (named (draw m.seed)) ≡ false
      → turn p ks m u ≡ drawn m
  unfolding turn steal_turn drawn
  turn-passes idle poor = rw (turn, idle, poor) refl

-- ---- an event that is tried

-- Event e is written where the rules accept it; the seed is as given.
unfoldable pub tried : ℕ → List ℕ → Making → List ℕ → ℕ → Making
tried p ks m e seed =
    record {
      run = (event_call p ks m.run e).state;
      seed = seed;
      events = cond (eqb (judge_event ks m.run e) 0) (m.events ++ (e ∷ [])) m.events;
    }

module _ (p : ℕ) (ks : List ℕ) (m : Making) (e : List ℕ) (seed : ℕ) where
  tried-written : judge_event ks m.run e ≡ 0
      → tried p ks m e seed ≡ record { run = next_run p ks m.run e; seed = seed; events = m.events ++ (e ∷ []) }
  unfolding tried
  tried-written fine = rw (event_next p ks m.run e fine, eq-eqb (judge_event ks m.run e) 0 fine) refl

  tried-passed : (judge_event ks m.run e ≡ 0 → ⊥)
      → tried p ks m e seed ≡ record { run = m.run; seed = seed; events = m.events }
  unfolding tried
  tried-passed bad = rw (event_same p ks m.run e bad, ne_eqb (judge_event ks m.run e) 0 bad) refl

-- What the rules say of the events that a turn tries.
module _ (ks : List ℕ) (s : Run) (u : ℕ) (within : u < length s.workers) where
  own_judged : judge_event ks s (u ∷ u ∷ []) ≡ judge_run ks s u
  unfolding judge_event is_run
  own_judged = rw (lt-leb (length s.workers) u within, eq-eqb u u refl) refl

  pub held-judged : (i : ℕ) → (worker_at s u).hand.held ≡ some i → judge_event ks s (u ∷ u ∷ []) ≡ cond (waits ks s.log i) 10 0
  unfolding judge_run
  held-judged i held = own_judged ∙ rw (judge_run, held) refl

  -- An idle worker's steal is accepted from another worker with a non-empty deque: a worker at or above the count gets 8, itself 9,
  -- an empty deque 12.
  idle_judged : (v : ℕ) → (worker_at s u).hand.held ≡ none → eqb (judge_event ks s (u ∷ v ∷ [])) 0 ≡ robbable s u v
  unfolding robbable judge_event is_run judge_run judge_steal holds_step
  idle_judged v idle =
      let n = length s.workers in
      elim (dec_lt v n) [
        | no high ↦ rw (lt-leb n u within, le-leb n v (omega arith), le-ltb v n (omega arith)) refl
        | yes h ↦ elim (ℕ_discrete v u) [
          | yes same ↦ rw (same, lt-leb n u within, lt-ltb u n within, eq-eqb u u refl, judge_run, idle) refl
          | no other ↦
              rw (lt-leb n u within, lt-leb n v h, lt-ltb v n h, ne_eqb v u other, ne_eqb u v (omega arith), holds_step, idle)
              (by (eqb (length (worker_at s v).hand.deque) 0))
        ]
      ]
    where
      by : (b : Bool) → eqb (cond b 12 0) 0 ≡ not b
      by true = refl
      by false = refl

-- A turn tries one event.
module _ (p : ℕ) (ks : List ℕ) (m : Making) (u : ℕ) (within : u < length m.run.workers) where
  -- A worker that holds a step tries to run it,
  turn_tries_run : (i : ℕ) → (worker_at m.run u).hand.held ≡ some i
      → turn p ks m u ≡ tried p ks m (u ∷ u ∷ []) m.seed
  unfolding write
  turn_tries_run i held = by (waits ks m.run.log i) refl
    where
      judged : judge_event ks m.run (u ∷ u ∷ []) ≡ cond (waits ks m.run.log i) 10 0
      judged = held-judged ks m.run u within i held

      by : (b : Bool) → waits ks m.run.log i ≡ b → turn p ks m u ≡ tried p ks m (u ∷ u ∷ []) m.seed
      by true late =
          turn-waits p ks m u i held late ∙ sym (tried-passed p ks m (u ∷ u ∷ []) m.seed (λ z. omega (arith, rw late at judged)))
      by false free =
          turn_runs p ks m u i held free ∙ sym (tried-written p ks m (u ∷ u ∷ []) m.seed (rw free at judged))

  -- an idle one to steal from the worker drawn.
  pub turn_tries_steal : (worker_at m.run u).hand.held ≡ none
      → turn p ks m u ≡ tried p ks m (u ∷ named (draw m.seed) ∷ []) (draw m.seed)
  unfolding write drawn
  turn_tries_steal idle = by (robbable m.run u victim) refl
    where
      victim : ℕ
      victim = named (draw m.seed)

      judged : eqb (judge_event ks m.run (u ∷ victim ∷ [])) 0 ≡ robbable m.run u victim
      judged = idle_judged ks m.run u within victim idle

      by : (b : Bool) → robbable m.run u victim ≡ b
          → turn p ks m u ≡ tried p ks m (u ∷ victim ∷ []) (draw m.seed)
      by true rich =
          turn_steals p ks m u idle rich
          ∙ sym (tried-written p ks m (u ∷ victim ∷ []) (draw m.seed) (eqb-true _ 0 (judged ∙ rich)))
      by false poor =
          turn-passes p ks m u idle poor
          ∙ sym (tried-passed p ks m (u ∷ victim ∷ []) (draw m.seed) (eqb-false _ 0 (judged ∙ poor)))

  -- Either way its own event, of two bytes.
  abbrev Tries : Type 0
  Tries = (e : List ℕ) × (seed : ℕ) × (get_or e 0 0 ≡ u) × (length e ≡ 2) × (turn p ks m u ≡ tried p ks m e seed)

  pub turn_tries : Tries
  turn_tries = by (worker_at m.run u).hand.held refl
    where
      by : (o : Option ℕ) → (worker_at m.run u).hand.held ≡ o → Tries
      by (some i) held = (u ∷ u ∷ [], m.seed, refl, refl, turn_tries_run i held)
      by none idle = (u ∷ named (draw m.seed) ∷ [], draw m.seed, refl, refl, turn_tries_steal idle)

-- ---- what holds of a list in the making

module _ (w p : ℕ) (ks : List ℕ) (some-step : 1 ≤ length ks) (sh : Shape (length ks) (end_at ks) (size_at ks)) where
  pub going_start : (seed : ℕ) → 1 ≤ w → Going w p ks (begun w seed)
  unfolding begun record_walk walk start all
  going_start seed some-worker =
      record {
        invariant = start_invariant p ks some-step sh w some-worker;
        walked = refl;
        counted = refl;
        pairs = refl;
        workers = start-many w p ks;
      }

  -- Trying any event of two bytes keeps it.
  going_tried : (m : Making) → Going w p ks m → (e : List ℕ) (seed : ℕ) → length e ≡ 2 → Going w p ks (tried p ks m e seed)
  unfolding record_walk
  going_tried m is e seed two =
      elim (ℕ_discrete (judge_event ks m.run e) 0) [
        | yes fine ↦ rw (tried-written p ks m e seed fine) (record {
          invariant = rw (event_next p ks m.run e fine) at (event_keeps p ks some-step sh m.run is.invariant e);
          walked = walk_more (judge_event ks) (next_run p ks) m.events 0 (start w) m.run e is.walked fine;
          counted = omega (arith, length-append m.events (e ∷ []), is.counted, adds_one p ks m.run e fine);
          pairs = wide_one 2 m.events e is.pairs two;
          workers = event_many w p ks m.run e is.workers fine;
        })
        | no bad ↦ rw (tried-passed p ks m e seed bad) (record {
          invariant = is.invariant;
          walked = is.walked;
          counted = is.counted;
          pairs = is.pairs;
          workers = is.workers;
        })
      ]

  pub going_turn : (m : Making) (u : ℕ) → Going w p ks m → u < w → Going w p ks (turn p ks m u)
  going_turn m u is within =
      let t = turn_tries p ks m u (omega (arith, is.workers)) in
      rw t.4 (going_tried m is t.0 t.1 t.3)

  -- There are at most n runs and (n - 1) / 2 steals.
  pub going_short : (m : Making) → Going w p ks m → length m.events ≤ most_made (length ks)
  unfolding most_made
  going_short m is =
      omega (
        arith,
        is.counted,
        runs_most p ks some-step sh m.run is.invariant,
        steals_most p ks some-step sh m.run is.invariant,
      )

-- Two bytes for each event, and the events again by cutting them.
module _ (w p : ℕ) (ks : List ℕ) (m : Making) (is : Going w p ks m) where
  pub going_bytes : length (flatten m.events) ≡ 2 * length m.events
  going_bytes = flatten-length 2 m.events is.pairs

  pub going_records : records 2 (flatten m.events) ≡ m.events
  going_records = flatten-records 2 (omega arith) m.events is.pairs
