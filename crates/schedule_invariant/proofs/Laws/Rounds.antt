-- Rounds: some worker may run when a round begins, and still may when its turn comes; so each round runs a step, and as many rounds as
-- there are steps left finish. No turn after that writes an event.
use Prim.Native.Nat.{ℕ, zero, suc, ◌+◌, ◌-◌, ◌≤◌, ◌<◌}
use Rattle.std.specs.Prelude.{◌≡◌, Bool, ◌&&◌, eqb, ltb}
use Rattle.std.proofs.Math.Path.{refl, ap}
use Rattle.std.proofs.Common.{◌∙◌, zero-add}
use Rattle.std.proofs.Math.Bool.{true, false, not, and-false}
use mathlib.Core.List.{List, [], ◌∷◌, ◌++◌}
use Rattle.std.proofs.Math.Decide.{ℕ_discrete}
use native.Mathlib.Omega.{arith}
use Rattle.std.proofs.Math.ListN.{length, length-append}
use borrow.Author.Tests.{eq-eqb}
use Rattle.rules.specs.Bytes.{count}
use Rattle.rules.specs.Scheduling.{worker_at, is_run, judge_run, next_run}
use Rattle.rules.specs.Calls.{finished}
use Rattle.rules_schedule.specs.Schedules.{draw, named, Making, write, drawn, robbable, turn, round, rounds}
use Rattle.tree.specs.Laws.Counts.{count_snoc, count-split}
use Rattle.tree_scan.specs.Laws.Shape.{Shape}
use Rattle.tree_scan.specs.Laws.Frames.{end_at, size_at}
use Rattle.run_invariant.specs.Invariant.{Invariant}
use Rattle.run_invariant.proofs.Laws.Moves.{idle_none_lem, ran, run_is, run_held, run_free}
use Rattle.run_invariant.proofs.Laws.Events.{event_grows, event_leaves}
use Rattle.run_invariant.proofs.Laws.Consequences.{runs_most, finished_idle, runs_finished}
use Rattle.run_progress.proofs.Laws.Progress.{progress}
use Rattle.schedule_invariant.specs.Schedule.{again}
use Rattle.schedule_invariant.specs.Terms.{Going}
use Rattle.schedule_invariant.proofs.Laws.Turns.{tried, turn_runs, turn-passes, turn_tries, going_turn}

-- ---- one turn

module _ (p : ℕ) (ks : List ℕ) (m : Making) (v : ℕ) (within : v < length m.run.workers) where
  turn_grows : length m.run.log ≤ length (turn p ks m v).run.log
  unfolding tried
  turn_grows =
      let t = turn_tries p ks m v within in
      rw t.4 (event_grows p ks m.run t.0)

  turn_leaves : (u : ℕ) → (u ≡ v → ⊥) → judge_run ks m.run u ≡ 0 → judge_run ks (turn p ks m v).run u ≡ 0
  unfolding tried
  turn_leaves u other free =
      let t = turn_tries p ks m v within in
      rw t.4 (event_leaves p ks m.run t.0 u (λ e. other (e ∙ t.2)) free)

  -- The turn of a worker that may run runs its step.
  own_turn : judge_run ks m.run v ≡ 0 → length (turn p ks m v).run.log ≡ suc (length m.run.log)
  unfolding write next_run is_run ran
  own_turn free =
      let held = run_held ks m.run v free in
      let Free-step = run_free ks m.run v free held.0 held.1 in
      rw (
        turn_runs p ks m v held.0 held.1 Free-step,
        eq-eqb v v refl,
        run_is p ks m.run v held.0 held.1,
        length-append,
      ) (omega arith)

-- ---- one round

module _ (p : ℕ) (ks : List ℕ) where
  round_append : (us vs : List ℕ) (m : Making) → round p ks (us ++ vs) m ≡ round p ks vs (round p ks us m)
  unfolding round
  round_append [] vs m = refl
  round_append (u ∷ us) vs m = round_append us vs (turn p ks m u)

  -- The last turn of the first k + 1.
  pub round-last : (k : ℕ) (m : Making) → round p ks (count 0 (suc k)) m ≡ turn p ks (round p ks (count 0 k) m) k
  unfolding round
  round-last k m = rw (count_snoc k 0, zero-add) (round_append (count 0 k) (k ∷ []) m)

module _ (w p : ℕ) (ks : List ℕ) (some-step : 1 ≤ length ks) (sh : Shape (length ks) (end_at ks) (size_at ks))
    (m : Making) (is : Going w p ks m) where
  -- After the first k turns.
  abbrev after_turns : ℕ → Making
  after_turns k = round p ks (count 0 k) m

  going_turns : (k : ℕ) → k ≤ w → Going w p ks (round p ks (count 0 k) m)
  unfolding round count
  going_turns zero h = is
  going_turns (suc k) h = rw (round-last p ks k m) (going_turn w p ks some-step sh (after_turns k) k (going_turns k (omega arith)) h)

  at_turn : (k : ℕ) → k < w → k < length (after_turns k).run.workers
  at_turn k h = omega (arith, (going_turns k (omega arith)).workers)

  turns_grow : (k : ℕ) → k ≤ w → length m.run.log ≤ length (after_turns k).run.log
  unfolding round count
  turns_grow zero h = omega arith
  turns_grow (suc k) h =
      rw (round-last p ks k m) (omega (arith, turns_grow k (omega arith), turn_grows p ks (after_turns k) k (at_turn k h)))

  -- A worker that may run when the round begins still may when its turn comes,
  turns-leave : (u : ℕ) → judge_run ks m.run u ≡ 0 → (k : ℕ) → k ≤ w → k ≤ u → judge_run ks (after_turns k).run u ≡ 0
  unfolding round count
  turns-leave u free zero h l = free
  turns-leave u free (suc k) h l =
      rw (round-last p ks k m)
      (turn_leaves p ks (after_turns k) k (at_turn k h) u (omega arith) (turns-leave u free k (omega arith) (omega arith)))

  -- and then runs.
  turns_run : (u : ℕ) → judge_run ks m.run u ≡ 0 → (k : ℕ) → k ≤ w → u < k
      → suc (length m.run.log) ≤ length (after_turns k).run.log
  turns_run u free zero h l = absurd (omega arith)
  turns_run u free (suc k) h l =
      rw (round-last p ks k m)
      (elim (ℕ_discrete u k) [
        | yes e ↦
            omega (
              arith,
              turns_grow k (omega arith),
              own_turn p ks (after_turns k) k (at_turn k h) (rw e at (turns-leave u free k (omega arith) (omega arith))),
            )
        | no n ↦ omega (arith, turns_run u free k (omega arith) (omega arith), turn_grows p ks (after_turns k) k (at_turn k h))
      ])

  going_round : Going w p ks (round p ks (count 0 w) m)
  going_round = going_turns w (omega arith)

  -- Each round runs a step, until every step has run.
  pub round_runs : finished ks m.run ≡ false → suc (length m.run.log) ≤ length (round p ks (count 0 w) m).run.log
  round_runs unfinished =
      let may = progress p ks sh some-step m.run is.invariant unfinished in
      turns_run may.worker may.free w (omega arith) (omega (arith, may.within, is.workers))

-- ---- the rounds

-- So much fuel comes to `many` rounds, and before each of them not every step has run.
pub record Stops (w p : ℕ) (ks : List ℕ) (fuel : ℕ) (m : Making) : Type 0 where
  pub many : ℕ
  pub within : many ≤ fuel
  pub same : rounds w p ks fuel m ≡ again w p ks many m
  pub before : (k : ℕ) → k < many → finished ks (again w p ks k m).run ≡ false

module _ (w p : ℕ) (ks : List ℕ) where
  pub rounds-done : (fuel : ℕ) (m : Making) → finished ks m.run ≡ true → rounds w p ks fuel m ≡ m
  unfolding rounds
  rounds-done zero m done = refl
  rounds-done (suc fuel) m done = rw (rounds, done) refl

  pub rounds-next : (fuel : ℕ) (m : Making) → finished ks m.run ≡ false
      → rounds w p ks (suc fuel) m ≡ rounds w p ks fuel (round p ks (count 0 w) m)
  unfolding rounds
  rounds-next fuel m unfinished = rw (rounds, unfinished) refl

  pub rounds-stop : (fuel : ℕ) (m : Making) → Stops w p ks fuel m
  unfolding rounds again
  rounds-stop zero m = record { many = 0; within = omega arith; same = refl; before = λ j h. absurd (omega arith) }
  rounds-stop (suc fuel) m = by (finished ks m.run) refl (rounds-stop fuel (round p ks (count 0 w) m))
    where
      by : (b : Bool) → finished ks m.run ≡ b → Stops w p ks fuel (round p ks (count 0 w) m) → Stops w p ks (suc fuel) m
      by true done later =
          record { many = 0; within = omega arith; same = rounds-done (suc fuel) m done; before = λ j h. absurd (omega arith) }
      by false unfinished later =
          record {
            many = suc later.many;
            within = omega (arith, later.within);
            same = rounds-next fuel m unfinished ∙ later.same;
            before = λ j.
                elim j as (λ i. i < suc later.many → finished ks (again w p ks i m).run ≡ false) [
                  | zero ↦ λ h. unfinished
                  | suc i ↦ λ h. later.before i (omega arith)
                ];
          }

module _ (w p : ℕ) (ks : List ℕ) (some-step : 1 ≤ length ks) (sh : Shape (length ks) (end_at ks) (size_at ks)) where
  abbrev Ended : Making → Type 0
  Ended m = (finished ks m.run ≡ true) × Going w p ks m

  -- As many rounds as there are steps left are enough.
  pub rounds_finish : (fuel : ℕ) (m : Making) → Going w p ks m → length ks ≤ length m.run.log + fuel → Ended (rounds w p ks fuel m)
  unfolding rounds
  rounds_finish zero m is enough =
      let most = runs_most p ks some-step sh m.run is.invariant in
      (runs_finished p ks some-step sh m.run is.invariant (omega arith), is)
  rounds_finish (suc fuel) m is enough =
      by (finished ks m.run) refl (rounds_finish fuel next (going_round w p ks some-step sh m is))
    where
      next : Making
      next = round p ks (count 0 w) m

      by : (b : Bool) → finished ks m.run ≡ b → (length ks ≤ length next.run.log + fuel → Ended (rounds w p ks fuel next))
          → Ended (rounds w p ks (suc fuel) m)
      by true done later = rw (rounds-done w p ks (suc fuel) m done) (done, is)
      by false unfinished later =
          rw (rounds-next w p ks fuel m unfinished) (later (omega (arith, round_runs w p ks some-step sh m is unfinished)))

-- ---- nothing follows

-- The same run and the same events; the seed may be another.
abbrev SameList : Making → Making → Type 0
SameList m next = (next.run ≡ m.run) × (next.events ≡ m.events)

module _ (p : ℕ) (ks : List ℕ) (some-step : 1 ≤ length ks) (sh : Shape (length ks) (end_at ks) (size_at ks)) where
  -- Once every step has run all workers are idle and all deques empty: no turn writes an event,
  idle_turn : (m : Making) → Invariant p ks m.run → finished ks m.run ≡ true → (u : ℕ) → SameList m (turn p ks m u)
  unfolding robbable drawn
  idle_turn m inv done u =
      let idle = finished_idle p ks some-step sh m.run inv done in
      let v = named (draw m.seed) in
      let bare : length (worker_at m.run v).hand.deque ≡ 0 = ap (λ (l : List ℕ). length l) ((inv.workers v).idle (idle v)) in
      let poor : robbable m.run u v ≡ false =
      rw (eq-eqb (length (worker_at m.run v).hand.deque) 0 bare) (and-false (ltb v (length m.run.workers) && not (eqb v u))) in
      rw (turn-passes p ks m u (idle_none_lem (worker_at m.run u) (idle u)) poor) (refl, refl)

  idle_round : (us : List ℕ) (m : Making) → Invariant p ks m.run → finished ks m.run ≡ true → SameList m (round p ks us m)
  unfolding round
  idle_round [] m inv done = (refl, refl)
  idle_round (u ∷ us) m inv done =
      let one = idle_turn m inv done u in
      let rest = idle_round us (turn p ks m u) (rw one.0 inv) (rw one.0 done) in
      (rest.0 ∙ one.0, rest.1 ∙ one.1)

  -- and so no round.
  pub idle_again : (w k : ℕ) (m : Making) → Invariant p ks m.run → finished ks m.run ≡ true → SameList m (again w p ks k m)
  unfolding again
  idle_again w zero m inv done = (refl, refl)
  idle_again w (suc k) m inv done =
      let one = idle_round (count 0 w) m inv done in
      let rest = idle_again w k (round p ks (count 0 w) m) (rw one.0 inv) (rw one.0 done) in
      (rest.0 ∙ one.0, rest.1 ∙ one.1)

pub again-more : (w p : ℕ) (ks : List ℕ) (j k : ℕ) (m : Making) → again w p ks (j + k) m ≡ again w p ks k (again w p ks j m)
unfolding again
again-more w p ks zero k m = rw zero-add refl
again-more w p ks (suc j) k m =
    let e : suc j + k ≡ suc (j + k) = omega arith in
    rw e (again-more w p ks j k (round p ks (count 0 w) m))

-- ---- within a round

module _ (w p : ℕ) (ks : List ℕ) (some-step : 1 ≤ length ks) (sh : Shape (length ks) (end_at ks) (size_at ks)) where
  going_again : (k : ℕ) (m : Making) → Going w p ks m → Going w p ks (again w p ks k m)
  unfolding again
  going_again zero m is = is
  going_again (suc k) m is = going_again k (round p ks (count 0 w) m) (going_round w p ks some-step sh m is)

  -- Once every step has run, the turns that are left of a round write nothing.
  pub rest_idle : (k j : ℕ) (m : Making) → Going w p ks m → j ≤ w
      → finished ks (round p ks (count 0 j) (again w p ks k m)).run ≡ true
      → (again w p ks (suc k) m).events ≡ (round p ks (count 0 j) (again w p ks k m)).events
  unfolding again
  rest_idle k j m is few done =
      let before = again w p ks k m in
      let part = round p ks (count 0 j) before in
      let one : suc k ≡ k + 1 = omega arith in
      let all : w ≡ j + (w - j) = omega arith in
      let turns : round p ks (count 0 w) before ≡ round p ks (count (0 + j) (w - j)) part =
      ap (λ (x : ℕ). round p ks (count 0 x) before) all
      ∙ ap (λ (us : List ℕ). round p ks us before) (count-split j (w - j) 0)
      ∙ round_append p ks (count 0 j) (count (0 + j) (w - j)) before in
      let going = going_turns w p ks some-step sh before (going_again k m is) j few in
      rw (one, again-more w p ks k 1 m, turns) (idle_round p ks some-step sh (count (0 + j) (w - j)) part going.invariant done).1
