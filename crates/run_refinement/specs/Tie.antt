-- How a state shows a run of the rules, by its fields, and what its calls answer then. `p` is the policy, `ks` the tree's kinds.
use Rattle.std.specs.Prelude.{ℕ, zero, suc, ◌≤◌, ◌<◌, ◌≡◌, true, false, cond, not, List, [], ◌∷◌, map, length, get_or, eqb}
use Rattle.std.proofs.Math.Option.{Option, none, some}
use Rattle.rules.specs.Bytes.{any}
use Rattle.rules.specs.Tree.{most_steps, kind_at, is_end, ordinal, task_end, cont}
use Rattle.rules.specs.Scheduling.{work_first, most_workers, pushes, phase_at, Worker, Entry, Run, worker_at, has_run, waits, is_run}
use Rattle.rules.specs.Scheduling.{oldest, judge_event}
use Rattle.rules.specs.Calls.{event_call}
use Rattle.run_spec.specs.Deques.{unrun_mark, marked}
use Rattle.run_spec.specs.Running.{no_step}
use Rattle.run_spec.specs.Outcomes.{Outcome, Ran, Stole, Refused}
use Rattle.trace.specs.Contract.{number_by}
use Rattle.run_spec.specs.Moves.{Fields}
use Rattle.run_state.specs.declared.RunState.{RunState}
use Rattle.run_state.specs.Contract.{event_answer}

-- ---- a worker

-- The pushers of a deque's steps, newest first: opening steps, the held step x past the first of them and before the end of its
-- task, each so with respect to the next, and none below `low`.
abbrev pub Line : List ℕ → ℕ → ℕ → List ℕ → Type 0
Line ks low x [] = (low ≤ x) × (x < length ks)
Line ks low x (q ∷ qs) = (is_end (kind_at ks q) ≡ false) × (q < x) × (x < task_end ks q) × Line ks low q qs

-- What the state has for a held step, and its `low`.
abbrev pub HeldShown : List ℕ → Option ℕ → ℕ → ℕ → List ℕ → Type 0
HeldShown ks none held low qs = (held ≡ no_step) × (qs ≡ [])
HeldShown ks (some h) held low qs = (held ≡ h) × Line ks low h qs

-- From step a to step x over k children of the same task: each time on to the step after the end of the child that is opened.
abbrev pub Hops : List ℕ → ℕ → ℕ → ℕ → Type 0
Hops ks zero a x = a ≡ x
Hops ks (suc k) a x = (a < length ks) × (is_end (kind_at ks a) ≡ false) × Hops ks k (cont ks a) x

-- Each of the held step x and the pushers is a step of the child that the next older pusher opened, and the oldest a step of
-- the task of `low`.
abbrev pub Linked : List ℕ → ℕ → ℕ → List ℕ → Type 0
Linked ks low x [] = (k : ℕ) × Hops ks k low x
Linked ks low x (q ∷ qs) = ((k : ℕ) × Hops ks k (suc q) x) × Linked ks low q qs

-- Work-first: so it is, and the state's `base` is the ordinal of `low`.
abbrev pub Numbered : List ℕ → Option ℕ → ℕ → ℕ → List ℕ → Type 0
Numbered ks none low base qs = 0 ≤ 0
Numbered ks (some h) low base qs = (low < length ks) × (base ≡ ordinal ks low) × Linked ks low h qs

-- The steps marked with w are the pushers of its deque's steps.
pub record HandShown (p : ℕ) (ks place : List ℕ) (w held low base phase : ℕ) (worker : Worker) : Type 0 where
  pub pushers : List ℕ
  pub deque : worker.hand.deque ≡ map (pushes p ks) pushers
  pub marks : (j : ℕ) → j < length ks → marked place w j ≡ any (eqb j) pushers
  pub holding : HeldShown ks worker.hand.held held low pushers
  pub numbered : p ≡ work_first → Numbered ks worker.hand.held low base pushers
  pub latest : phase ≡ worker.phase

-- Step x is what a step below `bound` pushes.
abbrev pub PushedBelow : ℕ → List ℕ → ℕ → ℕ → Type 0
PushedBelow p ks bound x = (q : ℕ) × (q < bound) × (x ≡ pushes p ks q)

-- What is so of a worker's held step and of the steps stolen from its latest phase.
pub record Ready (p : ℕ) (ks : List ℕ) (log : List Entry) (stolen : List ℕ) (low held : ℕ) : Type 0 where
  -- What was stolen was pushed below `low`: nothing between a deque's pusher and its continuation was stolen from the phase.
  pub stolen_below : (x : ℕ) → any (eqb x) stolen ≡ true → PushedBelow p ks low x
  -- Only a step at `low` may wait: a stolen one, with which the phase begins.
  pub free : (held ≡ low → ⊥) → waits ks log held ≡ false

-- So it is of every worker that holds a step.
abbrev pub AllReady : ℕ → List ℕ → List ℕ → Run → Type 0
AllReady p ks lows r =
    (w i : ℕ) → w < most_workers → (worker_at r w).hand.held ≡ some i
    → Ready p ks r.log (phase_at r.phases (worker_at r w).phase).stolen (get_or lows w 0) i

-- ---- the state

pub record Shows (p : ℕ) (ks : List ℕ) (s : Fields) (r : Run) : Type 0 where
  pub policy : s.setup.policy ≡ p
  -- The state keeps the run's count.
  pub workers : length r.workers ≡ s.setup.workers
  pub most : s.setup.workers ≤ most_workers
  pub places : length s.place ≡ most_steps
  pub helds : length s.held ≡ most_workers
  pub phases : length s.phase ≡ most_workers
  pub lows : length s.low ≡ most_workers
  pub bases : length s.base ≡ most_workers
  -- A worker that the run does not have is idle here and there.
  pub hands : (w : ℕ) → w < most_workers
      → HandShown p ks s.place w (get_or s.held w 0) (get_or s.low w 0) (get_or s.base w 0)
      (get_or s.phase w 0) (worker_at r w)
  -- The steps that have not run are marked so.
  pub unrun : (j : ℕ) → j < length ks → eqb (get_or s.place j 0) unrun_mark ≡ not (has_run r.log j)
  pub steals : s.steals ≡ length r.steals
  pub ready : AllReady p ks s.low r

-- ---- what an event's call tells

-- The step that a worker holds.
unfoldable pub held_step : Worker → ℕ
held_step worker = elim worker.hand.held [ none ↦ 0 | some i ↦ i ]

-- By the rules: the refusal; or of a run its log record, phase and step; or of a steal its trace number.
unfoldable pub told : ℕ → List ℕ → Run → List ℕ → Outcome
told p ks r e =
    let first = worker_at r (get_or e 0 0) in
    let second = worker_at r (get_or e 1 0) in
    let ran = Ran (record { 0 = first.phase }) (record { 0 = held_step first }) in
    let stolen = oldest second.hand.deque in
    let stole = Stole (number_by p (ordinal ks stolen) stolen) in
    cond (eqb (judge_event ks r e) 0) (cond (is_run e) ran stole) (Refused (judge_event ks r e))

-- ---- lists of events

-- By the rules, of each event in order.
unfoldable pub told_all : ℕ → List ℕ → Run → List (List ℕ) → List Outcome
told_all p ks r [] = []
told_all p ks r (e ∷ es) = told p ks r e ∷ told_all p ks (event_call p ks r e).state es

-- By the calls: each gets the state that the one before it handed back, refused or not.
unfoldable pub outcomes : List ℕ → RunState → List (List ℕ) → List Outcome
outcomes tree s [] = []
outcomes tree s (e ∷ es) =
    let answer = event_answer s tree (get_or e 0 0) (get_or e 1 0) in
    answer.outcome ∷ outcomes tree answer.state es

unfoldable pub state_reached : List ℕ → RunState → List (List ℕ) → RunState
state_reached tree s [] = s
state_reached tree s (e ∷ es) = state_reached tree (event_answer s tree (get_or e 0 0) (get_or e 1 0)).state es
