-- A worker's turn on the maker's arrays: a worker that holds a step runs it, or waits and passes; an idle one draws a victim and steals,
-- or passes. What is stored shows the list after the turn.
use Rattle.std.specs.Prelude.{◌≡◌, ℕ, pred, ◌+◌, ◌-◌, ◌*◌, ◌<◌, ◌≤◌, Bool, true, false, not, ◌&&◌, List, [], ◌∷◌, ◌++◌, length, ◌==◌, ◌≢◌, nat_lt, slice_index, slice_index_or, slice_set}
use Rattle.std.proofs.Math.Path.{refl, sym}
use Rattle.std.proofs.Common.{ap, ◌∙◌, length-append}
use Rattle.std.proofs.Math.Bool.{and-false}
use Rattle.std.proofs.Math.Option.{Option, none, some}
use Rattle.std.proofs.Math.Decide.{ℕ_discrete, dec_lt}
use native.Mathlib.Omega.{arith}
use Rattle.std.proofs.Math.ListN.{get_or-eq_default}
use borrow.Author.Tests.{eq-eqb, ne_eqb, ltb-true, not-true, lt-ltb}
use Rattle.rules.specs.Tree.{kinds, most_steps}
use Rattle.rules.specs.Scheduling.{most_workers, worker_at, has_run, waits, is_run, judge_event, next_run, Worker, idle_worker, holds_step}
use Rattle.rules.specs.Scheduling.{steal}
use Rattle.rules.specs.Calls.{event_call}
use Rattle.rules_schedule.specs.Schedules.{Making, write, turn, draw, named, drawn, robbable}
use Rattle.buffers.specs.Terms.{event_put}
use Rattle.policy.specs.declared.Setup.{Setup}
use Rattle.tree.specs.declared.Phase.{Phase}
use Rattle.tree.specs.declared.Step.{Step}
use Rattle.trace.specs.declared.number.TraceNumber.{TraceNumber}
use Rattle.run_spec.specs.Outcomes.{Outcome, Ran, Stole, Refused}
use Rattle.run_spec.specs.Deques.{unrun_mark, marked}
use Rattle.run_spec.specs.Running.{no_step}
use Rattle.run_spec.specs.Moves.{Fields, Move, move_of, run_move, event_move, steal_move}
use Rattle.run_invariant.proofs.Laws.Counts.{and_both}
use Rattle.run_invariant.proofs.Laws.Moves.{ran, run_is}
use Rattle.run_invariant.proofs.Laws.Consequences.{deque_most}
use Rattle.run_invariant.proofs.Laws.Events.{event_next}
use Rattle.run_refinement.specs.Tie.{Shows, held_step, told}
use Rattle.run_refinement.specs.WaitingTest.{OfChild}
use Rattle.run_refinement.proofs.Laws.AnyState.{keeps_run}
use Rattle.run_refinement.proofs.Laws.Events.{event_tells, event_shows}
use Rattle.run_refinement.proofs.Laws.Moves.{held_none, held-some}
use Rattle.schedule_invariant.proofs.Laws.Turns.{turn_runs, turn-waits, held-judged, turn_steals, turn-passes, turn_tries_steal, tried}
use Rattle.schedule_invariant.proofs.Laws.Turns.{going_turn}
use Rattle.tree_scan.specs.Laws.Frames.{Frame}
use Rattle.schedule_invariant.specs.Terms.{Going}
use Rattle.schedule_turn.specs.Terms.{size_after, Awaits, unrun_still, Arrays, Stands}
use Rattle.schedule_turn.proofs.Laws.Sizes.{sized_run, sized_steal}
use Rattle.schedule_turn.proofs.Laws.Awaits.{unrun_waits, awaited_run, awaited-noted, awaited-steal, waits_end}
use Rattle.schedule_turn.proofs.Laws.Listing.{frame, known, fits, put}

module _ {setup : Setup} {tree lent : List ℕ} {m : Making} {a : Arrays} (s : Stands setup tree lent m a) (u : ℕ)
    (within : u < setup.workers) where
  abbrev p : ℕ
  p = setup.policy

  abbrev ks : List ℕ
  ks = kinds tree

  pub few : u < most_workers
  few = omega (arith, s.shows.most)

  has : u < length m.run.workers
  has = omega (arith, s.going.workers)

  tree-frame : Frame tree
  tree-frame = frame s

  going_next : Going setup.workers p ks (turn p ks m u)
  going_next = going_turn setup.workers p ks tree-frame.some tree-frame.shape m u s.going within

  -- ---- a worker that holds a step

  module _ (holding : slice_index_or a.fields.held u 0 ≡ no_step → ⊥) where
    held : (i : ℕ) × ((worker_at m.run u).hand.held ≡ some i)
    held = by (worker_at m.run u).hand.held refl
      where
        by : (o : Option ℕ) → (worker_at m.run u).hand.held ≡ o → (i : ℕ) × ((worker_at m.run u).hand.held ≡ some i)
        by none e = absurd (holding (held_none (known s) u few e))
        by (some i) e = (i, e)

    held-is : (slice_index a.fields.held u ≡ held.0) × (held.0 < length ks)
    held-is = held-some (known s) u held.0 (rw s.shows.workers at has) held.1

    pub held-most : slice_index_or a.fields.held u 0 ≤ most_steps
    held-most = omega (arith, held-is, tree-frame.most)

    -- The event of its turn, and the rules' word on it.
    abbrev own : List ℕ
    own = u ∷ u ∷ []

    abbrev judged : ℕ
    judged = judge_event ks m.run own

    run-told : (run_move a.fields tree u).outcome ≡ told p ks m.run own
    unfolding event_move
    run-told =
        rw (eq-eqb u u refl) at
        (event_tells p tree tree-frame a.fields m.run s.going.invariant s.shows own)

    told-accepted : judged ≡ 0
        → told p ks m.run own ≡ Ran (record { 0 = (worker_at m.run u).phase }) (record { 0 = held.0 })
    unfolding told is_run held_step
    told-accepted fine = rw (eq-eqb judged 0 fine, eq-eqb u u refl, held_step, held.1) refl

    told-refused : (judged ≢ 0) → told p ks m.run own ≡ Refused judged
    unfolding told
    told-refused bad = rw (ne_eqb judged 0 bad) refl

    -- The step that it was seen to wait for has not run.
    pub still-stands : unrun_still a.fields.place (slice_index a.awaited u) ≡ true → Stands setup tree lent (turn p ks m u) a
    unfolding unrun_still marked
    still-stands still =
        let j = slice_index_or a.awaited u 0 in
        let both = and_both (nat_lt j most_steps) (slice_index a.fields.place j == unrun_mark) still in
        let seen = s.awaits.each u few (ltb-true j most_steps both.0) in
        let unrun : has_run m.run.log j ≡ false = not-true (has_run m.run.log j) (sym (s.shows.unrun j seen.0) ∙ both.1) in
        let follows = seen.1 unrun in
        rw (turn-waits p ks m u follows.step follows.holds (unrun_waits ks m.run u j follows unrun)) s

    -- What is noted for it: a step of the finish child before its own, or none.
    module _ (r : ℕ) (noted : (r ≢ no_step) → OfChild ks (slice_index a.fields.held u) r) where
      abbrev seen : Arrays
      seen =
          record {
            fields = a.fields;
            sizes = a.sizes;
            awaited = slice_set a.awaited u r;
            events = a.events;
            seed = a.seed;
            runs = a.runs;
          }

      pub noted-stands : Stands setup tree lent m seen
      noted-stands =
          record {
            accepts = s.accepts;
            room = s.room;
            going = s.going;
            shows = s.shows;
            sized = s.sized;
            awaits =
                awaited-noted ks m.run a.awaited s.awaits u held.0 held.1 held-is.1 r (rw held-is.0 at noted);
            seeded = s.seeded;
            ran = s.ran;
            listed = s.listed;
          }

      -- A step that has not run: the worker waits, and passes.
      pub passed-stands : (r ≢ no_step) → marked a.fields.place unrun_mark r ≡ true → Stands setup tree lent (turn p ks m u) seen
      unfolding marked
      passed-stands some-step unrun =
          let of = rw held-is.0 at noted some-step in
          let not_yet = not-true (has_run m.run.log r) (sym (s.shows.unrun r (omega (arith, of.before, held-is.1))) ∙ unrun) in
          let here : Awaits ks m.run u r = record { step = held.0; holds = held.1; child = of } in
          rw (turn-waits p ks m u held.0 held.1 (unrun_waits ks m.run u r here not_yet)) noted-stands

    -- The call on the arrays has this outcome, and leaves these fields.
    module _ (o : Outcome) (g : Fields) (moved : move_of o g ≡ run_move a.fields tree u) where
      outcome : o ≡ told p ks m.run own
      outcome = ap (λ (x : Move). x.outcome) moved ∙ run-told

      after : (run_move a.fields tree u).after ≡ g
      after = sym (ap (λ (x : Move). x.after) moved)

      pub never-stole : (n : TraceNumber) → o ≢ Stole n
      never-stole n e =
          elim (ℕ_discrete judged 0) [
            | yes fine ↦
                let x = sym e ∙ outcome ∙ told-accepted fine in
                let z : ◌≡◌ {A = ℕ} 0 1 = cc in
                omega arith
            | no bad ↦
                let x = sym e ∙ outcome ∙ told-refused bad in
                let z : ◌≡◌ {A = ℕ} 0 1 = cc in
                omega arith
          ]

      -- It has run a step: the one that it held, which did not wait.
      module _ (phase : Phase) (step : Step) (e : o ≡ Ran phase step) where
        ran-fine : (judged ≡ 0) × (step.0 ≡ held.0)
        ran-fine =
            elim (ℕ_discrete judged 0) [
              | yes fine ↦
                  let x = sym e ∙ outcome ∙ told-accepted fine in
                  let y : step ≡ record { 0 = held.0 } = cc in
                  (fine, ap (λ (t : Step). t.0) y)
              | no bad ↦
                  let x = sym e ∙ outcome ∙ told-refused bad in
                  let z : ◌≡◌ {A = ℕ} 0 1 = cc in
                  absurd (omega arith)
            ]

        free : waits ks m.run.log held.0 ≡ false
        free = by (waits ks m.run.log held.0) refl
          where
            by : (b : Bool) → waits ks m.run.log held.0 ≡ b → waits ks m.run.log held.0 ≡ false
            by false t = t
            by true t =
                let ten = held-judged ks m.run u has held.0 held.1 in
                absurd (omega (arith, ran-fine.0, rw t at ten))

        ran-is : turn p ks m u
            ≡ record { run = ran p ks m.run u held.0; seed = m.seed; events = m.events ++ (own ∷ []) }
        unfolding write next_run is_run
        ran-is =
            turn_runs p ks m u held.0 held.1 free
            ∙ rw (eq-eqb u u refl, run_is p ks m.run u held.0 held.1) refl

        ran-more : (turn p ks m u).events ≡ m.events ++ (own ∷ [])
        ran-more = ap (λ (x : Making). x.events) ran-is

        pub ran-small : (step.0 < length ks) × (slice_index a.sizes u < 65535)
        ran-small = (
          omega (arith, ran-fine.1, held-is.1),
          omega (
            arith,
            tree-frame.most,
            s.sized.each u,
            deque_most p ks tree-frame.some tree-frame.shape m.run s.going.invariant u,
          ),
        )

        pub ran-fits : 2 * (a.runs + a.fields.steals) + 2 ≤ length a.events
        ran-fits = fits s (turn p ks m u) going_next u u ran-more

        ran-shows : Shows p ks g (ran p ks m.run u held.0)
        unfolding event_move next_run is_run
        ran-shows =
            let shown = event_shows p tree tree-frame a.fields m.run s.going.invariant s.shows own in
            let is : (event_call p ks m.run own).state ≡ ran p ks m.run u held.0 =
            event_next p ks m.run own ran-fine.0
            ∙ rw (eq-eqb u u refl) (run_is p ks m.run u held.0 held.1) in
            rw (eq-eqb u u refl, is, after) at shown

        pub ran-stands : (sizes events : List ℕ) → sizes ≡ slice_set a.sizes u (size_after ks step.0 (slice_index a.sizes u))
            → events ≡ event_put a.events (a.runs + a.fields.steals) u u
            → Stands setup tree lent (turn p ks m u)
            (record { fields = g; sizes = sizes; awaited = a.awaited; events = events; seed = a.seed; runs = a.runs + 1 })
        unfolding ran
        ran-stands sizes events size stored =
            let longer = put s (turn p ks m u) going_next u u ran-more in
            let going = going_next in
            record {
              accepts = s.accepts;
              room = s.room;
              going = going;
              shows = rw ran-is ran-shows;
              sized = rw (ran-is, size, ran-fine.1) (sized_run p ks m.run a.sizes s.sized u held.0 has few);
              awaits = rw ran-is (awaited_run p ks m.run a.awaited s.awaits u held.0 held.1 free);
              seeded = rw ran-is s.seeded;
              ran = rw (ran-is, length-append) (omega (arith, s.ran));
              listed = stored ∙ longer;
            }

      -- It has not: it waits.
      module _ (n : ℕ) (e : o ≡ Refused n) where
        late : waits ks m.run.log held.0 ≡ true
        late = by (waits ks m.run.log held.0) refl
          where
            by : (b : Bool) → waits ks m.run.log held.0 ≡ b → waits ks m.run.log held.0 ≡ true
            by true t = t
            by false t =
                let zero-judged : judged ≡ 0 = rw t at (held-judged ks m.run u has held.0 held.1) in
                let x = sym e ∙ outcome ∙ told-accepted zero-judged in
                let z : ◌≡◌ {A = ℕ} 0 1 = cc in
                absurd (omega arith)

        same : g ≡ a.fields
        same = sym after ∙ (keeps_run a.fields tree u).same n (ap (λ (x : Move). x.outcome) (sym moved) ∙ e)

        -- It holds a step behind the child's end, which is noted.
        pub late-held : 0 < slice_index g.held u
        late-held = omega (arith, ap (λ (f : Fields). slice_index f.held u) same, held-is.0, (waits_end ks m.run held.0 late).before)

        pub late-stands : (awaited : List ℕ) → awaited ≡ slice_set a.awaited u (slice_index g.held u - 1)
            → Stands setup tree lent (turn p ks m u)
            (record { fields = g; sizes = a.sizes; awaited = awaited; events = a.events; seed = a.seed; runs = a.runs })
        late-stands awaited seen =
            rw (turn-waits p ks m u held.0 held.1 late, seen, same)
            (noted-stands (slice_index a.fields.held u - 1) (λ n. rw held-is.0 (waits_end ks m.run held.0 late)))

  -- ---- an idle worker

  module _ (idling : slice_index_or a.fields.held u 0 ≡ no_step) where
    idle : (worker_at m.run u).hand.held ≡ none
    idle = by (worker_at m.run u).hand.held refl
      where
        by : (o : Option ℕ) → (worker_at m.run u).hand.held ≡ o → (worker_at m.run u).hand.held ≡ none
        by none e = e
        by (some i) e =
            absurd (omega (arith, held-some (known s) u i (rw s.shows.workers at has) e, tree-frame.most))

    holds-none : holds_step (worker_at m.run u) ≡ false
    unfolding holds_step
    holds-none = rw (holds_step, idle) refl

    -- The next seed names worker v.
    module _ (seed v : ℕ) (next : seed ≡ draw a.seed) (names : v ≡ named seed) where
      seed-is : seed ≡ draw m.seed
      seed-is = next ∙ ap draw s.seeded

      victim-is : named (draw m.seed) ≡ v
      victim-is = sym (names ∙ ap named seed-is)

      -- Its deque is empty, or there is no such worker: the turn passes.
      pub miss-stands : slice_index_or a.sizes v 0 ≡ 0 → Stands setup tree lent (turn p ks m u)
          (record { fields = a.fields; sizes = a.sizes; awaited = a.awaited; events = a.events; seed = seed; runs = a.runs })
      unfolding robbable drawn
      miss-stands bare =
          let poor : length (worker_at m.run v).hand.deque ≡ 0 = sym (s.sized.each v) ∙ bare in
          let spared : robbable m.run u v ≡ false =
          rw (eq-eqb (length (worker_at m.run v).hand.deque) 0 poor) (and-false (nat_lt v (length m.run.workers) && not (v == u))) in
          let going = going_next in
          let passes = turn-passes p ks m u idle (rw victim-is spared) in
          record {
            accepts = s.accepts;
            room = s.room;
            going = going;
            shows = rw passes s.shows;
            sized = rw passes s.sized;
            awaits = rw passes s.awaits;
            seeded = rw passes seed-is;
            ran = rw passes s.ran;
            listed = rw passes s.listed;
          }

      -- It is not: the worker is another one, and it is robbed.
      module _ (rich : slice_index_or a.sizes v 0 ≡ 0 → ⊥) where
        full : length (worker_at m.run v).hand.deque ≡ 0 → ⊥
        full e = rich (s.sized.each v ∙ e)

        there : v < length m.run.workers
        unfolding worker_at idle_worker
        there =
            elim (dec_lt v (length m.run.workers)) [
              | yes l ↦ l
              | no n ↦ absurd (full (ap (λ (x : Worker). length x.hand.deque)
                  (get_or-eq_default m.run.workers idle_worker {n = v} (omega arith))))
            ]

        other : u ≡ v → ⊥
        other e = full (ap (λ (xs : List ℕ). length xs) (rw e at ((s.going.invariant.workers u).idle holds-none)))

        stole-is : turn p ks m u
            ≡ record { run = steal m.run u v; seed = draw m.seed; events = m.events ++ ((u ∷ v ∷ []) ∷ []) }
        unfolding robbable write drawn next_run is_run
        stole-is =
            let deque = (worker_at m.run v).hand.deque in
            let robs : robbable m.run u v ≡ true =
            rw (lt-ltb v (length m.run.workers) there, ne_eqb v u (λ e. other (sym e)), ne_eqb (length deque) 0 full) refl in
            turn_steals p ks m u idle (rw victim-is robs) ∙ rw (victim-is, ne_eqb u v other) refl

        stole-more : (turn p ks m u).events ≡ m.events ++ ((u ∷ v ∷ []) ∷ [])
        stole-more = ap (λ (x : Making). x.events) stole-is

        pub hit-fits : 2 * (a.runs + a.fields.steals) + 2 ≤ length a.events
        hit-fits = fits s (turn p ks m u) going_next u v stole-more

        -- The call on the arrays leaves these fields.
        module _ (o : Outcome) (g : Fields) (moved : move_of o g ≡ steal_move a.fields tree u v) where
          stole-shows : Shows p ks g (turn p ks m u).run
          unfolding event_move tried
          stole-shows =
              let shown = event_shows p tree tree-frame a.fields m.run s.going.invariant s.shows (u ∷ v ∷ []) in
              rw (turn_tries_steal p ks m u has idle, victim-is)
              (rw (ne_eqb u v other, sym (ap (λ (x : Move). x.after) moved)) at shown)

          pub hit-stands : (sizes events : List ℕ) → sizes ≡ slice_set a.sizes v (slice_index a.sizes v - 1)
              → events ≡ event_put a.events (a.runs + a.fields.steals) u v
              → Stands setup tree lent (turn p ks m u)
              (record { fields = g; sizes = sizes; awaited = a.awaited; events = events; seed = seed; runs = a.runs })
          unfolding steal
          hit-stands sizes events size stored =
              let longer = put s (turn p ks m u) going_next u v stole-more in
              let going = going_next in
              let fewer : slice_index_or a.sizes v 0 - 1 ≡ pred (slice_index a.sizes v) = omega arith in
              let most : v < most_workers = omega (arith, there, s.shows.workers, s.shows.most) in
              record {
                accepts = s.accepts;
                room = s.room;
                going = going;
                shows = stole-shows;
                sized = rw (stole-is, size, fewer)
                    (sized_steal p ks m.run a.sizes s.sized s.going.invariant u v has there most other holds-none full);
                awaits = rw stole-is (awaited-steal p ks m.run a.awaited s.awaits u v other there holds-none);
                seeded = rw stole-is seed-is;
                ran = rw stole-is s.ran;
                listed = stored ∙ longer;
              }
