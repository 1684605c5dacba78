-- The loop over the events in the terms of the code: what a call on the arrays ensures, and what is stored then.
use Rattle.std.specs.Prelude.{ℕ, ◌+◌, ◌*◌, ◌/◌, ◌%◌, ◌≤◌, ◌<◌, ◌≡◌, List, length, get_or, set, replicate, Ok, Err}
use Rattle.std.proofs.Common.{sym, ap, subst, ◌∙◌, arith}
use Rattle.rules.specs.Bytes.{accepted, Walked}
use Rattle.rules.specs.Tree.{most_steps, kinds, weights}
use Rattle.rules.specs.Scheduling.{most_workers, Run}
use Rattle.rules.specs.Calls.{most_trace_records, start_verdict}
use Rattle.refusals.specs.declared.Refusal.{Refusal}
use Rattle.refusals.specs.Numbers.{number_of}
use Rattle.tree_tables.specs.Terms.{Ends, Sums, weight_before}
use Rattle.trace.specs.declared.number.TraceNumber.{TraceNumber}
use Rattle.run_spec.specs.Outcomes.{Outcome, Ran, Stole, Refused}
use Rattle.trace.specs.Contract.{number_value}
use Rattle.run_spec.specs.Moves.{Fields, Move, move_of, fresh, event_move}
use Rattle.buffers.specs.Terms.{record_put}
use Rattle.tree.specs.declared.Phase.{Phase}
use Rattle.tree.specs.declared.Step.{Step}
use Rattle.loads.specs.Terms.{weight_between, Movable, load_moved}
use Rattle.loads.proofs.Laws.Loads.{part_between}
use Rattle.tree_tables.proofs.Laws.Fronts.{start-frame}
use Rattle.record_walk.specs.declared.Ended.{Ended}
use Rattle.record_walk.specs.Terms.{Reached, Walks}
use Rattle.record_walk.specs.Laws.Recording.{Recording, recording_start, recording-done, event-refused, ran-room}
use Rattle.record_walk.specs.Laws.Recording.{ran-next, stole-room, stole-weight, stole-next}

-- What holds of a state holds of an equal one, and the count of steals is the state's.
at-state : {w p : ℕ} {tree events : List ℕ} {k : ℕ} {s : Fields} {log trace ls : List ℕ} {logs steals : ℕ} (after : Fields) → s ≡ after
    → Recording w p tree events k s log trace ls logs steals → Recording w p tree events k after log trace ls logs after.steals
at-state {w} {p} {tree} {events} {k} {s} {log} {trace} {ls} {logs} after e so =
    subst (λ (x : Fields). Recording w p tree events k x log trace ls logs x.steals) e
    (rw (so.steal_count ∙ sym so.shows.steals) at so)

-- The loop begins with all weight in worker 0's load.
pub turn-start : (w p : ℕ) (tree events : List ℕ) → (start_verdict w p tree).number ≡ 0
    → (sums : List ℕ) → Sums (weights tree) sums (length (kinds tree)) → (n : ℕ) → n ≡ length (kinds tree)
    → (log trace : List ℕ) → length log ≡ 4 * most_steps → length trace ≡ 4 * most_trace_records
    → (s : Fields) → s ≡ fresh (record { policy = p; workers = w }) → (ls : List ℕ) → ls ≡ set (replicate most_workers 0) 0 (get_or sums n 0)
    → Recording w p tree events 0 s log trace ls 0 s.steals
turn-start w p tree events accepts sums right n m log trace h l s e ls f =
    rw (f, m, right (length (kinds tree)) (omega arith))
    (at-state s (sym e) (recording_start w p tree events accepts log trace h l))

-- All events are done.
pub turn-done : {w p : ℕ} {tree events : List ℕ} {k : ℕ} {s : Fields} {log trace ls : List ℕ} {logs : ℕ}
    → (start_verdict w p tree).number ≡ 0 → Recording w p tree events k s log trace ls logs s.steals
    → length events / 2 ≤ k
    → Walks w p tree events (Ok (record { logs = logs; steals = s.steals; loads = ls })) log trace
unfolding accepted
turn-done {w} {p} {tree} {events} {k} {s} {log} {trace} {ls} {logs} accepts so l =
    let done = recording-done w p tree events accepts so l in
    let ended : Ended = record { logs = logs; steals = s.steals; loads = ls } in
    let reached : Reached p tree so.run ended log trace =
    record {
      invariant = so.invariant;
      logs = so.log_count;
      steals = so.steal_count;
      loaded = so.loaded;
      whole = so.whole;
      logged = so.logged;
      traced = so.traced;
    }
    in
    record {
      verdict = sym (ap (λ (x : Walked Run). x.verdict) done);
      reached = subst (λ (x : Run). Reached p tree x ended log trace) (sym (ap (λ (x : Walked Run). x.state) done)) reached;
    }

-- Event k, of bytes a and b, with outcome o and the state after it.
pub record Turn (w p : ℕ) (tree events : List ℕ) (k : ℕ) (s : Fields) (log trace ls : List ℕ) (logs a b : ℕ) (o : Outcome) (after : Fields)
    : Type 0 where
  pub accepts : (start_verdict w p tree).number ≡ 0
  pub so : Recording w p tree events k s log trace ls logs s.steals
  pub more : k < length events / 2
  pub first : a ≡ get_or events (2 * k) 0
  pub second : b ≡ get_or events (2 * k + 1) 0
  pub moved : move_of o after ≡ event_move s tree a b

-- The tables from which a stolen part's weight is read.
pub record Weighed (tree ends sums : List ℕ) : Type 0 where
  pub sized : length ends ≡ length (kinds tree)
  pub right : Ends (kinds tree) ends (length ends)
  pub longer : length (kinds tree) < length sums
  pub added : Sums (weights tree) sums (length (kinds tree))
  pub light : weight_before (weights tree) (length (kinds tree)) < 18446744073709551616

module _ {w p : ℕ} {tree events : List ℕ} {k : ℕ} {s : Fields} {log trace ls : List ℕ} {logs a b : ℕ} {o : Outcome} {after : Fields}
    (turn : Turn w p tree events k s log trace ls logs a b o after) where
  outcome : (event_move s tree a b).outcome ≡ o
  outcome = sym (ap (λ (x : Move). x.outcome) turn.moved)

  state : (event_move s tree a b).after ≡ after
  state = sym (ap (λ (x : Move). x.after) turn.moved)

  -- The event is refused.
  pub turn-refused : (x : Refusal) → o ≡ Refused (number_of x) → (mine yours : List ℕ)
      → Walks w p tree events (Err (record { refusal = x; position = k })) mine yours
  turn-refused x e mine yours =
      let by = event-refused w p tree events turn.accepts turn.so turn.more turn.first turn.second (number_of x) (outcome ∙ e) in
      record { verdict = by.0; reached = tt }

  -- The event has run a step.
  module _ {phase : Phase} {step : Step} (ran : o ≡ Ran phase step) where
    pub ran-fits : (4 * logs + 4 ≤ length log) × (logs < most_steps)
    ran-fits =
        let most = (start-frame w p tree turn.accepts).most in
        let told = outcome ∙ ran in
        let room =
        ran-room w p tree events turn.accepts turn.so turn.more turn.first turn.second phase.0 step.0 told
        in
        (omega (arith, room, turn.so.log_room, most), omega (arith, room, most))

    pub ran-turn : (longer : List ℕ) → longer ≡ record_put log logs (phase.0 % 256) (phase.0 / 256 % 256) step.0
        → Recording w p tree events (k + 1) after longer trace ls (logs + 1) after.steals
    ran-turn longer e =
        rw e
        (at-state after state
        (ran-next w p tree events turn.accepts turn.so turn.more turn.first turn.second phase.0 step.0
        (outcome ∙ ran)))

  -- The event has stolen a step, which the thief holds now.
  module _ {number : TraceNumber} (stole : o ≡ Stole number) (step : ℕ) (held : step ≡ get_or after.held a 0) where
    told : (event_move s tree a b).outcome ≡ Stole number
    told = outcome ∙ stole

    taken : step ≡ get_or (event_move s tree a b).after.held a 0
    taken = held ∙ ap (λ (x : Fields). get_or x.held a 0) (sym state)

    room : (a < most_workers) × (b < most_workers) × (a ≡ b → ⊥) × (2 * s.steals + 2 < length (kinds tree)) × (step < length (kinds tree))
    room = stole-room w p tree events turn.accepts turn.so turn.more turn.first turn.second number told step taken

    pub stole-fits : (4 * s.steals + 4 ≤ length trace) × (a < most_workers) × (b < most_workers) × (a ≡ b → ⊥)
    stole-fits =
        (omega (arith, room, turn.so.trace_room, (start-frame w p tree turn.accepts).most), room.0, room.1, room.2)

    module _ {ends sums : List ℕ} (weighed : Weighed tree ends sums) where
      filled : Ends (kinds tree) ends (length (kinds tree))
      filled = rw weighed.sized at weighed.right

      pub stole-movable : Movable ends sums ls a b step
      stole-movable =
          stole-weight w p tree events turn.accepts turn.so turn.more turn.first turn.second number told step taken
          ends sums (omega (arith, weighed.sized)) filled weighed.longer weighed.added weighed.light

      pub stole-turn : (further : List ℕ) → further ≡ record_put trace s.steals a b (number_value number)
          → (moved : List ℕ) → moved ≡ load_moved ls a b (weight_between ends sums step)
          → Recording w p tree events (k + 1) after log further moved logs after.steals
      stole-turn further e moved f =
          let frame = start-frame w p tree turn.accepts in
          rw (e, f, part_between (kinds tree) (weights tree) frame.shape ends sums filled weighed.added step room.4)
          (at-state after state
          (stole-next w p tree events turn.accepts turn.so turn.more turn.first turn.second number told step taken))
