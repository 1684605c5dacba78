-- The live run by the calls of single events is the rules' run: the entries' calls and the rules' tell the same, event by event, and
-- of the rules' it is shown by the rules.
use Prim.Native.Nat.{ℕ, zero, suc, ◌+◌, ◌<◌}
use Rattle.std.specs.Prelude.{◌≡◌, Bool, length, take, get_or}
use Rattle.std.proofs.Math.Path.{refl, sym, ap}
use Rattle.std.proofs.Common.{◌∙◌}
use Rattle.std.proofs.Math.Bool.{true, false}
use mathlib.Core.List.{List, [], ◌∷◌, ◌++◌, map, append-nil, append_assoc}
use Rattle.std.proofs.Math.Option.{none, some}
use Rattle.std.proofs.Math.Decide.{ℕ_discrete}
use native.Mathlib.Omega.{arith}
use Rattle.std.proofs.Math.ListN.{length-append}
use borrow.Author.Tests.{eq-eqb, ne_eqb}
use Rattle.rules.specs.Bytes.{records, sum}
use Rattle.rules.specs.Tree.{kinds}
use Rattle.rules.specs.Scheduling.{Run, start, worker_at, is_run, oldest, steal, judge_event, next_run}
use Rattle.rules.specs.Calls.{start_verdict, event_call, after_events}
use Rattle.buffers.specs.Laws.Records.{wide_map, flatten-records}
use Rattle.tree_scan.specs.Laws.Frames.{Frame, accepted-frame}
use Rattle.run_invariant.specs.Invariant.{Invariant}
use Rattle.run_invariant.proofs.Laws.Moves.{ran, run_is, run_held, event_runs, first_within, enriched, steal-thief}
use Rattle.run_invariant.proofs.Laws.Always.{start_invariant, event_keeps}
use Rattle.policy.specs.declared.Setup.{Setup}
use Rattle.run_state.specs.declared.RunState.{RunState}
use Rattle.run_state.specs.Contract.{fields, start_answer, event_answer}
use Rattle.tree_scan.specs.Laws.Starts.{start-tree-accepts, start_workers}
use Rattle.run_refinement.specs.Tie.{Shows, told}
use Rattle.run_refinement.proofs.Laws.Events.{start-shows, event_tells, event_shows}
use Rattle.agreement.proofs.Laws.Folds.{AcceptedTo}
use Rattle.run_spec.specs.declared.Event.{Event}
use Rattle.agreement.specs.Agreement.{event_bytes, Called, steal_by, state_after, live_run, live_steals, runs_in, refusal_of}
use Rattle.agreement.specs.Agreement.{took_of, entry_call}

-- An event's bytes, as the rules take an event.
unfoldable pub pair : Event → List ℕ
pair e = e.first ∷ e.second ∷ []

-- The records of some events' bytes are the events.
pub event_records : (es : List Event) → records 2 (event_bytes es) ≡ map pair es
unfolding event_bytes pair
event_records es = flatten-records 2 (omega arith) (map pair es) (wide_map 2 pair (λ e. refl) es)

-- ---- one event by the rules

-- The rules' state after some events.
unfoldable after : ℕ → List ℕ → Run → List Event → Run
after p ks r es = after_events p ks r (map pair es)

module _ (p : ℕ) (ks : List ℕ) (r : Run) (e : Event) where
  abbrev number : ℕ
  number = judge_event ks r (pair e)

  told-number : refusal_of (told p ks r (pair e)) ≡ number
  unfolding told refusal_of
  told-number =
      elim (ℕ_discrete number 0) [
        | yes j ↦ by (is_run (pair e)) refl j
        | no n ↦ rw (ne_eqb number 0 n) refl
      ]
    where
      by : (b : Bool) → is_run (pair e) ≡ b → number ≡ 0 → refusal_of (told p ks r (pair e)) ≡ number
      by true run j = rw (j, run) refl
      by false run j = rw (j, run) refl

  module _ (n : number ≡ 0 → ⊥) where
    refused-told : (held : ℕ) → took_of (told p ks r (pair e)) held ≡ none
    unfolding told took_of
    refused-told held = rw (ne_eqb number 0 n) refl

    refused-next : (event_call p ks r (pair e)).state ≡ r
    unfolding event_call
    refused-next = rw (ne_eqb number 0 n) refl

    refused-after : (es : List Event) → after p ks r (e ∷ es) ≡ after p ks r es
    unfolding after after_events
    refused-after es = ap (λ (x : Run). after p ks x es) refused-next

  module _ (j : number ≡ 0) (same : e.first ≡ e.second) where
    run-told : (held : ℕ) → took_of (told p ks r (pair e)) held ≡ none
    unfolding told took_of is_run pair
    run-told held = rw (j, eq-eqb e.first e.second same) refl

    run-next : (length (event_call p ks r (pair e)).state.log ≡ suc (length r.log))
        × ((event_call p ks r (pair e)).state.steals ≡ r.steals)
    unfolding event_call next_run is_run pair ran
    run-next =
        let held = run_held ks r e.first (event_runs ks r (pair e) j same) in
        rw (j, eq-eqb e.first e.second same, run_is p ks r e.first held.0 held.1)
        (simp length-append (omega arith), refl)

  module _ (j : number ≡ 0) (n : e.first ≡ e.second → ⊥) where
    steal-told : (held : ℕ) → took_of (told p ks r (pair e)) held ≡ some held
    unfolding told took_of is_run pair
    steal-told held = rw (j, ne_eqb e.first e.second n) refl

    steal-next : (event_call p ks r (pair e)).state ≡ steal r e.first e.second
    unfolding event_call next_run is_run pair
    steal-next = rw (j, ne_eqb e.first e.second n) refl

    steal-after : (es : List Event) → after p ks r (e ∷ es) ≡ after p ks (steal r e.first e.second) es
    unfolding after after_events
    steal-after es = ap (λ (x : Run). after p ks x es) steal-next

-- ---- the rules' live run

-- An event's call by the rules.
unfoldable ruled_call : ℕ → List ℕ → Run → Event → Called Run
ruled_call p ks r e =
    record {
      number = judge_event ks r (pair e);
      took = took_of (told p ks r (pair e)) (oldest (worker_at r e.second).hand.deque);
      state = (event_call p ks r (pair e)).state;
    }

module _ (p : ℕ) (ks : List ℕ) where
  abbrev ruled_run : Run → List Event → List Event
  ruled_run = live_run (ruled_call p ks)

  module _ (r : Run) (e : Event) (es : List Event) where
    live_on : judge_event ks r (pair e) ≡ 0 → ruled_run r (e ∷ es) ≡ e ∷ ruled_run (event_call p ks r (pair e)).state es
    unfolding live_run ruled_call
    live_on j = rw j refl

    live-off : (judge_event ks r (pair e) ≡ 0 → ⊥) → ruled_run r (e ∷ es) ≡ ruled_run r es
    unfolding live_run ruled_call
    live-off n = rw (ne_eqb (judge_event ks r (pair e)) 0 n, refused-next p ks r e n) refl

  ruled-after : (es : List Event) (r : Run) → state_after (ruled_call p ks) r es ≡ after p ks r es
  unfolding state_after ruled_call after after_events
  ruled-after [] r = refl
  ruled-after (e ∷ es) r = ruled-after es (event_call p ks r (pair e)).state

  same_from : (es : List Event) (r : Run) → after p ks r (ruled_run r es) ≡ after p ks r es
  unfolding live_run after after_events
  same_from [] r = refl
  same_from (e ∷ es) r =
      elim (ℕ_discrete (judge_event ks r (pair e)) 0) [
        | yes j ↦ rw (live_on r e es j) (same_from es (event_call p ks r (pair e)).state)
        | no n ↦ rw (live-off r e es n, refused-after p ks r e n es) (same_from es r)
      ]

  -- The rules accept each of some events where it stands.
  abbrev Accepted : Run → List Event → Type 0
  Accepted r es = (i : ℕ) → i < length (map pair es)
      → judge_event ks (after_events p ks r (take i (map pair es))) (get_or (map pair es) i []) ≡ 0

  accepted-one : (r : Run) (e : Event) (es : List Event) → judge_event ks r (pair e) ≡ 0
      → Accepted (event_call p ks r (pair e)).state es → Accepted r (e ∷ es)
  unfolding after_events
  accepted-one r e es j rest zero l = j
  accepted-one r e es j rest (suc i) l = rest i (omega arith)

  accepted-from : (es : List Event) (r : Run) → Accepted r (ruled_run r es)
  unfolding live_run
  accepted-from [] r = λ i l. absurd (omega arith)
  accepted-from (e ∷ es) r =
      let next = (event_call p ks r (pair e)).state in
      elim (ℕ_discrete (judge_event ks r (pair e)) 0) [
        | yes j ↦ rw (live_on r e es j) (accepted-one r e (ruled_run next es) j (accepted-from es next))
        | no n ↦ rw (live-off r e es n) (accepted-from es r)
      ]

  runs_from : (es : List Event) (r : Run) → length r.log + runs_in (ruled_run r es) ≡ length (after p ks r es).log
  unfolding live_run after after_events runs_in sum steal
  runs_from [] r = omega arith
  runs_from (e ∷ es) r =
      elim (ℕ_discrete (judge_event ks r (pair e)) 0) [
        | yes j ↦ elim (ℕ_discrete e.first e.second) [
          | yes same ↦
              let rest = runs_from es (event_call p ks r (pair e)).state in
              rw (live_on r e es j, eq-eqb e.first e.second same) (omega (arith, (run-next p ks r e j same).0))
          | no n ↦
              let rest = runs_from es (steal r e.first e.second) in
              rw (live_on r e es j, steal-next p ks r e j n, ne_eqb e.first e.second n, steal-after p ks r e j n es) (omega arith)
        ]
        | no n ↦ rw (live-off r e es n, refused-after p ks r e n es) (runs_from es r)
      ]

  steals_from : (es : List Event) (r : Run) → r.steals ++ live_steals (ruled_call p ks) r es ≡ (after p ks r es).steals
  unfolding live_steals steal_by ruled_call after after_events steal
  steals_from [] r = append-nil r.steals
  steals_from (e ∷ es) r =
      elim (ℕ_discrete (judge_event ks r (pair e)) 0) [
        | yes j ↦ elim (ℕ_discrete e.first e.second) [
          | yes same ↦
              let rest = steals_from es (event_call p ks r (pair e)).state in
              rw (run-told p ks r e j same) (rw (run-next p ks r e j same).1 at rest)
          | no n ↦
              let rest = steals_from es (steal r e.first e.second) in
              rw (steal-told p ks r e j n, steal-next p ks r e j n, steal-after p ks r e j n es) (rw append_assoc at rest)
        ]
        | no n ↦ rw (refused-told p ks r e n, refused-next p ks r e n, refused-after p ks r e n es) (steals_from es r)
      ]

-- ---- two ways to call

-- States of two kinds are tied so that the calls tell the same and tie what they hand back: then the live runs are the same.
module _ {S T : Type 0} (one : S → Event → Called S) (two : T → Event → Called T) (Tied : S → T → Type 0)
    (numbers : (s : S) (t : T) → Tied s t → (e : Event) → (one s e).number ≡ (two t e).number)
    (takes : (s : S) (t : T) → Tied s t → (e : Event) → (one s e).took ≡ (two t e).took)
    (nexts : (s : S) (t : T) → Tied s t → (e : Event) → Tied (one s e).state (two t e).state) where
  run_alike : (es : List Event) (s : S) (t : T) → Tied s t → live_run one s es ≡ live_run two t es
  unfolding live_run
  run_alike [] s t tied = refl
  run_alike (e ∷ es) s t tied = rw (numbers s t tied e, run_alike es _ _ (nexts s t tied e)) refl

  steals_alike : (es : List Event) (s : S) (t : T) → Tied s t → live_steals one s es ≡ live_steals two t es
  unfolding live_steals
  steals_alike [] s t tied = refl
  steals_alike (e ∷ es) s t tied = rw (takes s t tied e, steals_alike es _ _ (nexts s t tied e)) refl

  state_tied : (es : List Event) (s : S) (t : T) → Tied s t → Tied (state_after one s es) (state_after two t es)
  unfolding state_after
  state_tied [] s t tied = tied
  state_tied (e ∷ es) s t tied = state_tied es _ _ (nexts s t tied e)

-- ---- the entries' calls and the rules'

-- The state shows the run, which has the invariant.
record Tied (p : ℕ) (ks : List ℕ) (s : RunState) (r : Run) : Type 0 where
  inv : Invariant p ks r
  shows : Shows p ks (fields s) r

module _ (p : ℕ) (tree : List ℕ) (frame : Frame tree) where
  abbrev ks : List ℕ
  ks = kinds tree

  module _ (s : RunState) (r : Run) (tied : Tied p ks s r) (e : Event) where
    call-told : (event_answer s tree e.first e.second).outcome ≡ told p ks r (pair e)
    unfolding pair event_answer
    call-told = event_tells p tree frame (fields s) r tied.inv tied.shows (pair e)

    call-judged : (entry_call tree s e).number ≡ (ruled_call p ks r e).number
    unfolding entry_call ruled_call
    call-judged = rw call-told (told-number p ks r e)

    call-tied : Tied p ks (entry_call tree s e).state (ruled_call p ks r e).state
    unfolding entry_call ruled_call pair event_answer
    call-tied =
        record {
          inv = event_keeps p ks frame.some frame.shape r tied.inv (pair e);
          shows = event_shows p tree frame (fields s) r tied.inv tied.shows (pair e);
        }

    -- The thief holds the step taken.
    steal-held : judge_event ks r (pair e) ≡ 0 → (e.first ≡ e.second → ⊥)
        → get_or (entry_call tree s e).state.held e.first 0 ≡ oldest (worker_at r e.second).hand.deque
    unfolding ruled_call pair enriched
    steal-held j n =
        let here = first_within ks r (pair e) j in
        let shows = rw (steal-next p ks r e j n) at call-tied.shows in
        (rw (steal-thief r e.first e.second here) at
        (shows.hands e.first (omega (arith, tied.shows.workers, tied.shows.most))).holding).0

    call-took : (entry_call tree s e).took ≡ (ruled_call p ks r e).took
    unfolding entry_call ruled_call
    call-took =
        rw call-told (elim (ℕ_discrete (judge_event ks r (pair e)) 0) [
          | yes j ↦ elim (ℕ_discrete e.first e.second) [
            | yes same ↦ run-told p ks r e j same _ ∙ sym (run-told p ks r e j same _)
            | no n ↦ ap (took_of (told p ks r (pair e))) (steal-held j n)
          ]
          | no n ↦ refused-told p ks r e n _ ∙ sym (refused-told p ks r e n _)
        ])

-- ---- from the start

module _ (w p : ℕ) (tree : List ℕ) (accepts : (start_verdict w p tree).number ≡ 0) where
  -- The rules' state after some events: of all of them, and of the accepted ones alone.
  unfoldable pub run_after : List Event → Run
  run_after es = after_events p (kinds tree) (start w) (map pair es)

  frame : Frame tree
  frame = accepted-frame tree (start-tree-accepts w p tree accepts)

  abbrev first : RunState
  first = (start_answer w p tree).state

  start_tied : Tied p (kinds tree) first (start w)
  unfolding start_answer
  start_tied =
      let few = start_workers w p tree accepts in
      let setup : Setup = record { policy = p; workers = w } in
      rw accepts (record {
        inv = start_invariant p (kinds tree) frame.some frame.shape w few.0;
        shows = start-shows setup (kinds tree) frame.some frame.most few.0 few.1;
      })

  runs_alike : (es : List Event) → live_run (entry_call tree) first es ≡ ruled_run p (kinds tree) (start w) es
  runs_alike es =
      run_alike (entry_call tree) (ruled_call p (kinds tree)) (Tied p (kinds tree)) (call-judged p tree frame) (call-took p tree frame)
      (call-tied p tree frame) es first (start w) start_tied

  -- An event's call refuses it with the rules' number.
  pub call_number : (before : List Event) (e : Event)
      → (entry_call tree (state_after (entry_call tree) first before) e).number ≡ judge_event (kinds tree) (run_after before) (pair e)
  unfolding run_after after ruled_call
  call_number before e =
      let tied =
      state_tied (entry_call tree) (ruled_call p (kinds tree)) (Tied p (kinds tree)) (call-judged p tree frame) (call-took p tree frame)
      (call-tied p tree frame) before first (start w) start_tied
      in
      call-judged p tree frame (state_after (entry_call tree) first before) (run_after before)
      (rw (ruled-after p (kinds tree) before (start w)) at tied) e

  -- Refused events change nothing.
  pub live_same : (es : List Event) → run_after (live_run (entry_call tree) first es) ≡ run_after es
  unfolding run_after after
  live_same es = rw (runs_alike es) (same_from p (kinds tree) es (start w))

  -- The rules accept each event of the live run where it stands.
  pub live_accepted : (es : List Event)
      → AcceptedTo w p (kinds tree) (map pair (live_run (entry_call tree) first es)) (length (map pair (live_run (entry_call tree) first es)))
  live_accepted es = rw (runs_alike es) (accepted-from p (kinds tree) es (start w))

  -- Its runs are the log's, its steals the rules'.
  pub live_runs : (es : List Event) → runs_in (live_run (entry_call tree) first es) ≡ length (run_after es).log
  unfolding run_after after start
  live_runs es = rw (runs_alike es) (omega (arith, runs_from p (kinds tree) es (start w)))

  pub live_steals_lem : (es : List Event) → live_steals (entry_call tree) first es ≡ (run_after es).steals
  unfolding run_after after start
  live_steals_lem es =
      steals_alike (entry_call tree) (ruled_call p (kinds tree)) (Tied p (kinds tree)) (call-judged p tree frame) (call-took p tree frame)
      (call-tied p tree frame) es first (start w) start_tied
      ∙ steals_from p (kinds tree) es (start w)
