-- What is so of every state that a run's events lead to: the sentences of document 01, "Scheduling", as one record. `p` is the
-- policy, `ks` the kinds of an accepted tree. The steps from i to the end of i's task, with all that they spawn, are "the part
-- from i" here; it is what a phase that begins with i covers before anything is stolen from it.
use Rattle.std.specs.Prelude.{ℕ, suc, ◌+◌, ◌-◌, ◌≤◌, ◌<◌, ◌≡◌, Bool, true, false, cond, List, [], ◌∷◌, ◌++◌, map, length, take, eqb}
use Rattle.std.proofs.Math.Option.{none, some}
use Rattle.rules.specs.Bytes.{all, any, sum}
use Rattle.rules.specs.Tree.{kind_at, is_finish, is_end, task_end, cont}
use Rattle.rules.specs.Scheduling.{work_first, Hand, pushes, pop, Phase, phase_at, Entry, Run, worker_at, has_run, holds_step}
use Rattle.rules.specs.Traces.{last_stolen, run_alone}

-- ---- what a phase has run, and what it has still to run

-- The steps that phase k has run, in order.
unfoldable pub log_of : ℕ → List Entry → List ℕ
log_of k [] = []
log_of k (e ∷ es) = cond (eqb e.phase k) (e.step ∷ log_of k es) (log_of k es)

-- The steps that a hand has pending: the held step, then the deque, newest first.
unfoldable pub stack : Hand → List ℕ
stack h = elim h.held [ none ↦ [] | some i ↦ i ∷ h.deque ]

-- The steps that phase k has pending: those of its worker, while it is the worker's latest phase.
unfoldable pub pending : Run → ℕ → List ℕ
pending s k =
    let w = worker_at s (phase_at s.phases k).worker in
    cond (eqb w.phase k) (stack w.hand) []

-- ---- sums over parts of the tree

-- `whole i` is the sum of `each j` over the part from i: an end is its own part, and an opening step's part is the step, its
-- child's part and its continuation's.
pub record Weighs (ks : List ℕ) (whole each : ℕ → ℕ) : Type 0 where
  pub end : (i : ℕ) → i < length ks → is_end (kind_at ks i) ≡ true → whole i ≡ each i
  pub opens : (i : ℕ) → i < length ks → is_end (kind_at ks i) ≡ false → whole i ≡ each i + whole (suc i) + whole (cont ks i)

-- 1 for the step j, 0 for every other.
unfoldable pub self : ℕ → ℕ → ℕ
self j i = cond (eqb i j) 1 0

-- 1 for an opening step, 0 for an end.
unfoldable pub opening : List ℕ → ℕ → ℕ
opening ks i = cond (is_end (kind_at ks i)) 0 1

-- ---- one phase

-- Each step of a deque was pushed by an opening step, its pusher. From the newest on: the held step is in the newest one's
-- pusher's part, past the pusher; that pusher is so in the next one's pusher's part; and so on.
abbrev pub Chain : ℕ → List ℕ → ℕ → List ℕ → Type 0
Chain p ks x [] = x < length ks
Chain p ks x (s ∷ r) =
    (q : ℕ) × (s ≡ pushes p ks q) × (is_end (kind_at ks q) ≡ false) × (q < x) × (x < task_end ks q) × Chain p ks q r

-- Step x was pushed by an opening step.
abbrev pub Pushed : ℕ → List ℕ → ℕ → Type 0
Pushed p ks x = (q : ℕ) × (q < length ks) × (is_end (kind_at ks q) ≡ false) × (x ≡ pushes p ks q)

abbrev pub Chained : ℕ → List ℕ → List ℕ → Type 0
Chained p ks [] = 0 ≤ 0
Chained p ks (x ∷ r) = Chain p ks x r

-- Each pending step's task ends just before the next older one, and the oldest's just before step e.
abbrev pub EndToEnd : List ℕ → List ℕ → ℕ → Type 0
EndToEnd ks [] e = 0 ≤ 0
EndToEnd ks (x ∷ []) e = task_end ks x ≡ e
EndToEnd ks (x ∷ y ∷ r) e = (task_end ks x ≡ y) × EndToEnd ks (y ∷ r) e

-- The step after the end of a phase's frontier task: the step last stolen from it, and the end of its first step's task before
-- anything is.
unfoldable pub frontier_end : List ℕ → Phase → ℕ
frontier_end ks ph = elim (last_stolen ph.stolen) [ none ↦ task_end ks ph.first | some s ↦ s ]

-- Those of some steps that are not gone.
unfoldable pub kept : (ℕ → Bool) → List ℕ → List ℕ
kept gone [] = []
kept gone (x ∷ xs) = cond (gone x) (kept gone xs) (x ∷ kept gone xs)

-- A phase that has run the steps of `log` and has those of `stack` pending.
pub record PhaseFacts (p : ℕ) (ks : List ℕ) (ph : Phase) (log stack : List ℕ) : Type 0 where
  -- It begins with a step of the tree.
  pub begins : ph.first < length ks
  -- Cover: what it has run, the parts from its pending steps and the parts stolen from it are together the part from its
  -- first step, each step once.
  pub cover : (whole each : ℕ → ℕ) → Weighs ks whole each
      → sum each log + sum whole stack + sum whole ph.stolen ≡ whole ph.first
  -- Chain: the deque's order is that of the pushers.
  pub chain : Chained p ks stack
  -- Order: the log goes on as the phase would alone. `gone` is any set of steps that has all that is stolen from the phase,
  -- nothing that it has run and not the step that it holds: what will be stolen in the end is such a set.
  pub order : (gone : ℕ → Bool) → all gone ph.stolen ≡ true → any gone (log ++ take 1 stack) ≡ false
      → log ++ run_alone gone p ks (length ks - length log) (pop (kept gone stack))
      ≡ run_alone gone p ks (length ks) (record { held = some ph.first; deque = [] })
  -- Frontier, work-first: "the child whose end stands just before the step last stolen" is the oldest pending step's task.
  pub frontier : p ≡ work_first → EndToEnd ks stack (frontier_end ks ph)

-- ---- the whole run

-- "A step that follows the end of a finish child may run only when all steps of that child and its descendants have run." For
-- the child that step q opens these are the steps between q and the step after the child's end.
abbrev pub Waited : List ℕ → List Entry → Type 0
Waited ks log =
    (q : ℕ) → q < length ks → is_finish (kind_at ks q) ≡ true → has_run log (cont ks q) ≡ true
    → (j : ℕ) → q < j → j < cont ks q → has_run log j ≡ true

-- Worker w, where the run has it.
pub record WorkerFacts (s : Run) (w : ℕ) : Type 0 where
  -- "If the deque is empty the phase ends and the worker is idle": an idle worker's deque is empty.
  pub idle : holds_step (worker_at s w) ≡ false → (worker_at s w).hand.deque ≡ []
  -- A worker that holds a step is in a phase of its own.
  pub phase : holds_step (worker_at s w) ≡ true → (worker_at s w).phase < length s.phases
  pub own : holds_step (worker_at s w) ≡ true → (phase_at s.phases (worker_at s w).phase).worker ≡ w

pub record Invariant (p : ℕ) (ks : List ℕ) (s : Run) : Type 0 where
  pub workers : (w : ℕ) → WorkerFacts s w
  pub phases : (k : ℕ) → k < length s.phases → PhaseFacts p ks (phase_at s.phases k) (log_of k s.log) (pending s k)
  -- Only a phase that has begun has run steps.
  pub logged : (k : ℕ) → length s.phases ≤ k → log_of k s.log ≡ []
  -- "Worker 0 holds step 0 and that begins phase 0." "The thief holds it and a new phase begins. Phase k begins at the k-th
  -- steal."
  pub begun_by : map (λ ph. ph.worker) s.phases ≡ 0 ∷ map (λ e. e.thief) s.steals
  pub begun_with : map (λ ph. ph.first) s.phases ≡ 0 ∷ map (λ e. e.step) s.steals
  -- A steal takes a pushed step: every phase but the first begins with one.
  pub spawned : (k : ℕ) → 0 < k → k < length s.phases → Pushed p ks (phase_at s.phases k).first
  pub waited : Waited ks s.log
  -- Every step has been run once or is in the part from one pending step.
  pub total : (whole each : ℕ → ℕ) → Weighs ks whole each
      → sum (λ e. each e.step) s.log + sum (λ w. sum whole (stack w.hand)) s.workers ≡ whole 0
  -- A stolen step has run or is held, once for each time it was stolen.
  pub taken : (j : ℕ)
      → sum (λ e. self j e.step) s.steals
      ≤ sum (λ e. self j e.step) s.log + sum (λ w. sum (self j) (take 1 (stack w.hand))) s.workers
  -- What was stolen and what is in a deque was pushed by an opening step that has run, each by its own.
  pub pushed :
      length s.steals + sum (λ w. length w.hand.deque) s.workers ≤ sum (λ e. opening ks e.step) s.log
