-- Each call on a state that shows a run: the start, a run, a steal, an event, the idle workers.
use Rattle.std.specs.Prelude.{ℕ, zero, suc, ◌+◌, ◌≤◌, ◌<◌, ◌≡◌, Bool, true, false, cond, ◌||◌, not, List, [], ◌∷◌, length, eqb, leb}
use Rattle.std.proofs.Math.Path.{refl}
use Rattle.std.proofs.Common.{ap}
use Rattle.std.proofs.Math.Bool.{or-true}
use Rattle.std.proofs.Math.Option.{Option, none, some}
use Rattle.std.proofs.Math.Decide.{ℕ_discrete, dec_lt}
use native.Mathlib.Omega.{arith}
use Rattle.std.proofs.Math.ListN.{get_or}
use Rattle.std.proofs.lemmas.List.{length-replicate, get_or-replicate}
use borrow.Author.Tests.{le-leb, lt-leb, eq-eqb, ne_eqb}
use Rattle.rules.specs.Bytes.{any}
use Rattle.rules.specs.Scheduling.{most_workers, Worker, Run, idle_worker, worker_at, start, has_run, is_run, holds_step, oldest}
use Rattle.rules.specs.Scheduling.{judge_event, next_run, idle_set, idle_count, idle_lowest}
use Rattle.rules.specs.Tree.{kinds, ordinal}
use Rattle.rules.specs.Calls.{event_call}
use Rattle.tree_scan.specs.Laws.Frames.{Frame}
use Rattle.run_invariant.specs.Invariant.{Invariant}
use Rattle.policy.specs.declared.Setup.{Setup}
use Rattle.policy.specs.Contract.{worker_limit}
use Rattle.policy.proofs.Laws.Workers.{limit_is}
use Rattle.run_spec.specs.Outcomes.{Ran, Stole}
use Rattle.trace.specs.Contract.{number_by}
use Rattle.run_spec.specs.Moves.{Fields, fresh, refused, event_move}
use Rattle.run_spec.specs.Idle.{is_idle, idle_bits, idle_number, idle_first}
use Rattle.run_refinement.specs.Tie.{Shows, held_step, told}
use Rattle.run_refinement.proofs.Laws.Ready.{start_ready}
use Rattle.run_refinement.proofs.Laws.Tables.{shows-by, start-table}
use Rattle.run_refinement.proofs.Laws.Moves.{Known, below_most, held_none, held-some}
use Rattle.run_refinement.proofs.Laws.AnyState.{far_move}
use Rattle.run_refinement.proofs.Laws.Answers.{Agrees, refuses, accepts, run-agrees}
use Rattle.run_refinement.proofs.Laws.Answers.{steal-agrees}

-- ---- the start

fresh_unrun : (setup : Setup) (j : ℕ) → j < 4095 → get_or (fresh setup).place j 0 ≡ 17
unfolding fresh
fresh_unrun setup j h = get_or-replicate 4095 j 17 0 h

-- The first state shows the run's start.
pub start-shows : (setup : Setup) (ks : List ℕ) → 1 ≤ length ks → length ks ≤ 4095 → 1 ≤ setup.workers
    → setup.workers ≤ most_workers → Shows setup.policy ks (fresh setup) (start setup.workers)
unfolding fresh start has_run any
start-shows setup ks some-step most some-worker few = by setup.workers refl some-worker
  where
    unrun : (j : ℕ) → j < length ks → get_or (fresh setup).place j 0 ≡ 17
    unrun j l = fresh_unrun setup j (omega arith)

    by : (c : ℕ) → setup.workers ≡ c → 1 ≤ c → Shows setup.policy ks (fresh setup) (start c)
    by zero e some-worker = absurd (omega arith)
    by (suc n) e some-worker =
        shows-by setup.policy ks (fresh setup) (start (suc n))
        (rw e (start-table n setup.policy ks (fresh setup).place (length-replicate {A = ℕ} 4095 17) some-step unrun (omega arith)))
        refl (λ j l. ap (λ (x : ℕ). eqb x 17) (unrun j l)) refl (start_ready n setup.policy ks)

-- ---- the idle workers

-- What the state has for held steps from worker i on, and the run's workers from there, worker by worker.
abbrev Alike : List ℕ → ℕ → List Worker → Type 0
Alike held i [] = 0 ≤ 0
Alike held i (w ∷ ws) = (is_idle (get_or held i 0) ≡ not (holds_step w)) × Alike held (suc i) ws

alike : (ws : List Worker) (held : List ℕ) (i : ℕ)
    → ((u : ℕ) → u < length ws → is_idle (get_or held (i + u) 0) ≡ not (holds_step (get_or ws u idle_worker))) → Alike held i ws
alike [] held i each = omega arith
alike (w ∷ ws) held i each =
    let here : i + 0 ≡ i = omega arith in (
      rw here at (each 0 (omega arith)),
      alike ws held (suc i) (λ u l.
          let next : i + suc u ≡ suc i + u = omega arith in
          rw next at (each (suc u) (omega arith))),
    )

cond-not : (b : Bool) (x y : ℕ) → cond (not b) x y ≡ cond b y x
cond-not true x y = refl
cond-not false x y = refl

alike_set : (ws : List Worker) (held : List ℕ) (i : ℕ) → Alike held i ws → idle_bits held i (length ws) ≡ idle_set ws
unfolding idle_bits idle_set
alike_set [] held i a = refl
alike_set (w ∷ ws) held i a = rw (a.0, cond-not (holds_step w) 1 0, alike_set ws held (suc i) a.1) refl

alike_count : (ws : List Worker) (held : List ℕ) (i : ℕ) → Alike held i ws → idle_number held i (length ws) ≡ idle_count ws
unfolding idle_number idle_count
alike_count [] held i a = refl
alike_count (w ∷ ws) held i a = rw (a.0, cond-not (holds_step w) 1 0, alike_count ws held (suc i) a.1) refl

alike_lowest : (ws : List Worker) (held : List ℕ) (i : ℕ) → Alike held i ws → idle_first held i (length ws) ≡ idle_lowest i ws
unfolding idle_first idle_lowest
alike_lowest [] held i a = refl
alike_lowest (w ∷ ws) held i a =
    rw (a.0, cond-not (holds_step w) i (idle_first held (suc i) (length ws)), alike_lowest ws held (suc i) a.1) refl

-- ---- a state that shows a run

module _ (p : ℕ) (tree : List ℕ) (frame : Frame tree) (s : Fields) (r : Run) (inv : Invariant p (kinds tree) r)
    (shows : Shows p (kinds tree) s r) where
  known : Known p (kinds tree) s r
  known = record { some-step = frame.some; most = frame.most; shape = frame.shape; inv = inv; shows = shows }

  -- ---- events

  -- How many workers the state says that there are, and the run has.
  abbrev count : ℕ
  count = s.setup.workers

  limited : worker_limit count ≡ count
  limited = limit_is count shows.most

  abbrev EventAgrees : List ℕ → Type 0
  EventAgrees e =
      Agrees p (kinds tree) s (event_move s tree (get_or e 0 0) (get_or e 1 0)) (judge_event (kinds tree) r e)
      (cond (is_run e) (Ran (record { 0 = (worker_at r (get_or e 0 0)).phase }) (record { 0 = held_step (worker_at r (get_or e 0 0)) }))
      (Stole (number_by p (ordinal (kinds tree) (oldest (worker_at r (get_or e 1 0)).hand.deque))
      (oldest (worker_at r (get_or e 1 0)).hand.deque))))
      (next_run p (kinds tree) r e)

  far_agrees : (e : List ℕ) → leb count (get_or e 0 0) || leb count (get_or e 1 0) ≡ true → EventAgrees e
  unfolding judge_event
  far_agrees e far = rw (far_move s tree (get_or e 0 0) (get_or e 1 0) (rw limited far), shows.workers, far) (refuses (omega arith) refl)

  near_agrees : (e : List ℕ) → get_or e 0 0 < count → get_or e 1 0 < count → EventAgrees e
  unfolding event_move judge_event is_run next_run
  near_agrees e l m =
      let a = get_or e 0 0 in
      let b = get_or e 1 0 in
      rw (shows.workers, lt-leb count a l, lt-leb count b m) (elim (ℕ_discrete a b) [
        | yes same ↦ rw (eq-eqb a b same) (run-agrees tree known a l)
        | no n ↦ rw (ne_eqb a b n) (steal-agrees tree known a b l m n)
      ])

  event_agrees : (e : List ℕ) → EventAgrees e
  event_agrees e =
      let a = get_or e 0 0 in
      let b = get_or e 1 0 in
      elim (dec_lt a count) [
        | yes l ↦ elim (dec_lt b count) [
          | yes m ↦ near_agrees e l m
          | no n ↦ far_agrees e (rw (le-leb count b (omega arith)) (or-true (leb count a)))
        ]
        | no n ↦ far_agrees e (rw (le-leb count a (omega arith)) refl)
      ]

  -- The event's outcome is the rules' word, and the next state shows the rules' next.
  pub event_tells : (e : List ℕ) → (event_move s tree (get_or e 0 0) (get_or e 1 0)).outcome ≡ told p (kinds tree) r e
  unfolding told refused
  event_tells e = by (event_agrees e)
    where
      by : EventAgrees e → (event_move s tree (get_or e 0 0) (get_or e 1 0)).outcome ≡ told p (kinds tree) r e
      by (refuses n a) = rw (a, ne_eqb (judge_event (kinds tree) r e) 0 n) refl
      by (accepts z o next) = rw (z, o) refl

  pub event_shows : (e : List ℕ)
      → Shows p (kinds tree) (event_move s tree (get_or e 0 0) (get_or e 1 0)).after (event_call p (kinds tree) r e).state
  unfolding event_call refused
  event_shows e = by (event_agrees e)
    where
      by : EventAgrees e
          → Shows p (kinds tree) (event_move s tree (get_or e 0 0) (get_or e 1 0)).after (event_call p (kinds tree) r e).state
      by (refuses n a) = rw (a, ne_eqb (judge_event (kinds tree) r e) 0 n) shows
      by (accepts z o next) = rw z next

  -- ---- the idle workers

  idle_by : (u : ℕ) → u < count → (o : Option ℕ) → (worker_at r u).hand.held ≡ o
      → is_idle (get_or s.held u 0) ≡ not (holds_step (worker_at r u))
  unfolding is_idle holds_step
  idle_by u few none e = rw (held_none known u (below_most known few) e, e, holds_step) (le-leb 4095 65535 (omega arith))
  idle_by u few (some i) e =
      let held = held-some known u i few e in
      rw (held.0, e, holds_step) (lt-leb 4095 i (omega (arith, frame.most)))

  workers_alike : Alike s.held 0 r.workers
  unfolding worker_at
  workers_alike =
      alike r.workers s.held 0
      (λ u l.
      let here : 0 + u ≡ u = omega arith in
      rw here (idle_by u (omega (arith, shows.workers)) (worker_at r u).hand.held refl))

  pub idle_set-shown : idle_bits s.held 0 (worker_limit count) ≡ idle_set r.workers
  idle_set-shown = rw limited (rw shows.workers at (alike_set r.workers s.held 0 workers_alike))

  pub idle_count-shown : idle_number s.held 0 (worker_limit count) ≡ idle_count r.workers
  idle_count-shown = rw limited (rw shows.workers at (alike_count r.workers s.held 0 workers_alike))

  pub idle_lowest-shown : idle_first s.held 0 (worker_limit count) ≡ idle_lowest 0 r.workers
  idle_lowest-shown = rw limited (rw shows.workers at (alike_lowest r.workers s.held 0 workers_alike))
