-- What a run or a steal changes in a run's state, and what it leaves.
use Prim.Native.Nat.{ℕ, zero, suc, pred, ◌+◌, ◌≤◌, ◌<◌}
use Rattle.std.specs.Prelude.{◌≡◌, Bool, get_or, set, replicate, eqb}
use Rattle.std.proofs.Math.Path.{refl}
use Rattle.std.proofs.Common.{sym, ap, ◌∙◌, true≢false, length-append, length-set}
use Rattle.std.proofs.Math.Bool.{true, false, cond, or-true}
use mathlib.Core.List.{List, [], ◌∷◌, ◌++◌, map, drop_last, append-nil, map-append}
use Rattle.std.proofs.Math.Option.{Option, none, some}
use Rattle.std.proofs.Math.Decide.{ℕ_discrete, dec_lt}
use native.Mathlib.Omega.{arith}
use Rattle.std.proofs.Math.ListN.{length, get_or-append}
use Rattle.std.proofs.Math.Seq.{lt-length-set, get_or-set_same, get_or-set_other, map-set_same}
use Rattle.std.proofs.lemmas.List.{get_or_at}
use borrow.Author.Tests.{eq-eqb, ne_eqb, le-leb, lt-leb}
use Rattle.rules.specs.Bytes.{sum}
use Rattle.rules.specs.Tree.{kind_at, is_end}
use Rattle.rules.specs.Scheduling.{Hand, holds, pushes, pop, after_run, Phase, phase_at, begin, Worker, Entry, Run, idle_worker}
use Rattle.rules.specs.Scheduling.{worker_at, waits, is_run, judge_run, run_step, holds_step, judge_steal, oldest, steal, judge_event}
use Rattle.run_invariant.specs.Invariant.{log_of, stack, pending, opening, WorkerFacts, PhaseFacts, Invariant}
use Rattle.run_invariant.proofs.Laws.Counts.{not_so}
use Rattle.run_invariant.proofs.Laws.Weights.{sum_append}

-- ---- lists

module _ {A : Type 0} where
  pub sum_one : (f : A → ℕ) (xs : List A) (x : A) → sum f (xs ++ (x ∷ [])) ≡ sum f xs + f x
  unfolding sum
  sum_one f xs x = omega (arith, sum_append f xs (x ∷ []))

  pub sum_set : (f : A → ℕ) (xs : List A) (i : ℕ) (x d : A) → i < length xs → sum f (set xs i x) + f (get_or xs i d) ≡ sum f xs + f x
  unfolding sum
  sum_set f [] i x d h = absurd (omega arith)
  sum_set f (y ∷ ys) zero x d h = omega arith
  sum_set f (y ∷ ys) (suc i) x d h = omega (arith, sum_set f ys i x d (omega arith))

  pub sum_replicate : (f : A → ℕ) (n : ℕ) (x : A) → f x ≡ 0 → sum f (replicate n x) ≡ 0
  unfolding sum
  sum_replicate f zero x e = refl
  sum_replicate f (suc n) x e = omega (arith, sum_replicate f n x e)

  -- Past the end too, where the default is the same.
  pub get_or_alike : (n i : ℕ) (x : A) → get_or (replicate n x) i x ≡ x
  get_or_alike zero i x = refl
  get_or_alike (suc n) zero x = refl
  get_or_alike (suc n) (suc i) x = get_or_alike n i x

  pub map-one : {B : Type 0} (f : A → B) (xs : List A) (x : A) → map f (xs ++ (x ∷ [])) ≡ map f xs ++ (f x ∷ [])
  map-one f xs x = map-append f xs (x ∷ [])

  pub length-drop_last : (xs : List A) → (length xs ≡ 0 → ⊥) → length xs ≡ suc (length (drop_last xs))
  length-drop_last [] n = absurd (n refl)
  length-drop_last (x ∷ []) n = refl
  length-drop_last (x ∷ y ∷ ys) n = ap suc (length-drop_last (y ∷ ys) (omega arith))

-- ---- logs

cond_append : (b : Bool) (x : ℕ) (xs ys : List ℕ) → cond b (x ∷ (xs ++ ys)) (xs ++ ys) ≡ cond b (x ∷ xs) xs ++ ys
cond_append true x xs ys = refl
cond_append false x xs ys = refl

pub log_append : (k : ℕ) (log new : List Entry) → log_of k (log ++ new) ≡ log_of k log ++ log_of k new
unfolding log_of
log_append k [] new = refl
log_append k (e ∷ log) new = rw (log_append k log new) (cond_append (eqb e.phase k) e.step (log_of k log) (log_of k new))

module _ (k : ℕ) (log : List Entry) (e : Entry) where
  pub log_own : e.phase ≡ k → log_of k (log ++ (e ∷ [])) ≡ log_of k log ++ (e.step ∷ [])
  unfolding log_of
  log_own h = log_append k log (e ∷ []) ∙ rw (eq-eqb e.phase k h) refl

  pub log_other : (e.phase ≡ k → ⊥) → log_of k (log ++ (e ∷ [])) ≡ log_of k log
  unfolding log_of
  log_other h = log_append k log (e ∷ []) ∙ rw (ne_eqb e.phase k h) (append-nil (log_of k log))

-- ---- pending steps

module _ (s : Run) (k w : ℕ) (of : (phase_at s.phases k).worker ≡ w) where
  pub pending_latest : (worker_at s w).phase ≡ k → pending s k ≡ stack (worker_at s w).hand
  unfolding pending
  pending_latest h = rw (of, eq-eqb (worker_at s w).phase k h) refl

  pub pending_past : ((worker_at s w).phase ≡ k → ⊥) → pending s k ≡ []
  unfolding pending
  pending_past h = rw (of, ne_eqb (worker_at s w).phase k h) refl

  pub pending_idle : stack (worker_at s w).hand ≡ [] → pending s k ≡ []
  pending_idle h = elim (ℕ_discrete (worker_at s w).phase k) [ yes e ↦ pending_latest e ∙ h | no n ↦ pending_past n ]

pub pending_same : (s t : Run) (k : ℕ) → (phase_at t.phases k).worker ≡ (phase_at s.phases k).worker
    → worker_at t (phase_at s.phases k).worker ≡ worker_at s (phase_at s.phases k).worker → pending t k ≡ pending s k
unfolding pending
pending_same s t k e same = rw (e, same) refl

-- ---- one worker

module _ (x : Worker) where
  pub some_holds : (i : ℕ) → x.hand.held ≡ some i → holds_step x ≡ true
  unfolding holds_step
  some_holds i e = rw (holds_step, e) refl

  pub some-stack : (i : ℕ) → x.hand.held ≡ some i → stack x.hand ≡ i ∷ x.hand.deque
  unfolding stack
  some-stack i e = rw (stack, e) refl

  pub holds-some : holds_step x ≡ true → (i : ℕ) × (x.hand.held ≡ some i)
  unfolding holds_step
  holds-some h = by x.hand.held refl
    where
      by : (o : Option ℕ) → x.hand.held ≡ o → (i : ℕ) × (x.hand.held ≡ some i)
      by none e = absurd (true≢false (sym (rw (holds_step, e) at h)))
      by (some i) e = (i, e)

  pub idle_none_lem : holds_step x ≡ false → x.hand.held ≡ none
  idle_none_lem h = by x.hand.held refl
    where
      by : (o : Option ℕ) → x.hand.held ≡ o → x.hand.held ≡ none
      by none e = e
      by (some i) e = absurd (true≢false (sym (some_holds i e) ∙ h))

  pub none-stack : holds_step x ≡ false → stack x.hand ≡ []
  unfolding stack
  none-stack h = rw (stack, idle_none_lem h) refl

  pub worker_facts : (s : Run) (w : ℕ) → worker_at s w ≡ x → (holds_step x ≡ false → x.hand.deque ≡ [])
      → (holds_step x ≡ true → (x.phase < length s.phases) × ((phase_at s.phases x.phase).worker ≡ w)) → WorkerFacts s w
  worker_facts s w e idle own =
      record {
        idle = λ n. rw e (idle (rw e at n));
        phase = λ h. rw e (own (rw e at h)).0;
        own = λ h. rw e (own (rw e at h)).1;
      }

-- A worker with steps in its deque holds one.
pub rich-holds : (s : Run) (w : ℕ) → WorkerFacts s w → (length (worker_at s w).hand.deque ≡ 0 → ⊥)
    → holds_step (worker_at s w) ≡ true
rich-holds s w facts rich = by (holds_step (worker_at s w)) refl
  where
    by : (b : Bool) → holds_step (worker_at s w) ≡ b → holds_step (worker_at s w) ≡ true
    by true h = h
    by false h = absurd (rich (ap (λ (xs : List ℕ). length xs) (facts.idle h)))

-- What is so of the phase of a worker that holds a step.
pub held_facts : (p : ℕ) (ks : List ℕ) (s : Run) → Invariant p ks s → (w i : ℕ) → (worker_at s w).hand.held ≡ some i
    → PhaseFacts p ks (phase_at s.phases (worker_at s w).phase) (log_of (worker_at s w).phase s.log)
    (i ∷ (worker_at s w).hand.deque)
held_facts p ks s inv w i e =
    let holds = some_holds (worker_at s w) i e in
    let own = pending_latest s (worker_at s w).phase w ((inv.workers w).own holds) refl in
    rw (own ∙ some-stack (worker_at s w) i e) at (inv.phases (worker_at s w).phase ((inv.workers w).phase holds))

-- ---- a run

module _ (p : ℕ) (ks : List ℕ) (i : ℕ) (xs : List ℕ) where
  by_kind : (P : Hand → Type 0) → P (pop xs)
      → (is_end (kind_at ks i) ≡ false → P (record { held = some (holds p ks i); deque = pushes p ks i ∷ xs }))
      → P (after_run (λ x. false) p ks i xs)
  unfolding after_run
  by_kind P end opens = by (is_end (kind_at ks i)) refl
    where
      by : (b : Bool) → is_end (kind_at ks i) ≡ b → P (after_run (λ x. false) p ks i xs)
      by true e = rw e end
      by false e = rw e (opens e)

  pub after_idle : (k : ℕ) → holds_step (record { hand = after_run (λ x. false) p ks i xs; phase = k }) ≡ false
      → (after_run (λ x. false) p ks i xs).deque ≡ []
  unfolding holds_step pop
  after_idle k =
      by_kind (λ h. holds_step (record { hand = h; phase = k }) ≡ false → h.deque ≡ [])
      (elim xs as (λ l. holds_step (record { hand = pop l; phase = k }) ≡ false → (pop l).deque ≡ [])
      [ [] ↦ λ n. refl | y ∷ ys ↦ λ n. absurd (true≢false n) ]) (λ e n. absurd (true≢false n))

  -- An opening step pushes one step, an end pops one, where there is one.
  pub after-length :
      length (after_run (λ x. false) p ks i xs).deque ≡ cond (is_end (kind_at ks i)) (pred (length xs)) (suc (length xs))
  unfolding after_run pop
  after-length =
      elim (is_end (kind_at ks i)) as
      (λ b. length (cond b (pop xs) (record { held = some (holds p ks i); deque = pushes p ks i ∷ xs })).deque
      ≡ cond b (pred (length xs)) (suc (length xs)))
      [ true ↦ elim xs as (λ l. length (pop l).deque ≡ pred (length l)) [ [] ↦ refl | y ∷ ys ↦ refl ] | false ↦ refl ]

  pub after_deque : length (after_run (λ x. false) p ks i xs).deque ≤ length xs + opening ks i
  unfolding opening
  after_deque =
      rw after-length
      (elim (is_end (kind_at ks i)) as (λ b. cond b (pred (length xs)) (suc (length xs)) ≤ length xs + cond b 0 1)
      [ true ↦ popped (length xs) | false ↦ omega arith ])
    where
      popped : (n : ℕ) → pred n ≤ n + 0
      popped n = omega arith

-- A worker, and the state, after worker w has run the step i that it held.
unfoldable pub onward : ℕ → List ℕ → Worker → ℕ → Worker
onward p ks x i = record { hand = after_run (λ y. false) p ks i x.hand.deque; phase = x.phase }

unfoldable pub ran : ℕ → List ℕ → Run → ℕ → ℕ → Run
ran p ks s w i =
    record {
      workers = set s.workers w (onward p ks (worker_at s w) i);
      phases = s.phases;
      log = s.log ++ (record { phase = (worker_at s w).phase; step = i } ∷ []);
      steals = s.steals;
    }

module _ (p : ℕ) (ks : List ℕ) (s : Run) (w i : ℕ) where
  pub run_is : (worker_at s w).hand.held ≡ some i → run_step p ks s w ≡ ran p ks s w i
  unfolding run_step ran onward
  run_is e = rw (run_step, e) refl

  pub ran_here : w < length s.workers → worker_at (ran p ks s w i) w ≡ onward p ks (worker_at s w) i
  unfolding ran worker_at
  ran_here h = get_or-set_same s.workers w _ _ h

  pub ran_other : (x : ℕ) → (x ≡ w → ⊥) → worker_at (ran p ks s w i) x ≡ worker_at s x
  unfolding ran worker_at
  ran_other x n = get_or-set_other s.workers w x _ _ n

  pub ran_sum : (f : Worker → ℕ) → w < length s.workers
      → sum f (ran p ks s w i).workers + f (worker_at s w) ≡ sum f s.workers + f (onward p ks (worker_at s w) i)
  unfolding ran worker_at
  ran_sum f h = sum_set f s.workers w _ _ h

-- ---- a steal

-- A phase with one more step stolen from it.
abbrev pub robbed : Phase → ℕ → Phase
robbed ph s = record { worker = ph.worker; first = ph.first; stolen = ph.stolen ++ (s ∷ []) }

module _ (phs : List Phase) (thief k s : ℕ) where
  pub begin-length : length (begin phs thief k s) ≡ suc (length phs)
  unfolding begin
  begin-length = simp (length-append, length-set) (omega arith)

  pub begin_new : phase_at (begin phs thief k s) (length phs) ≡ record { worker = thief; first = s; stolen = [] }
  unfolding begin phase_at
  begin_new = simp (get_or_at, length-set)

  begin_old : (j : ℕ) → j < length phs → phase_at (begin phs thief k s) j ≡ phase_at (set phs k (robbed (phase_at phs k) s)) j
  unfolding begin phase_at
  begin_old j h = simp (get_or-append, lt-length-set phs k (robbed (phase_at phs k) s) h)

  pub begin-robbed : k < length phs → phase_at (begin phs thief k s) k ≡ robbed (phase_at phs k) s
  unfolding phase_at
  begin-robbed h = begin_old k h ∙ get_or-set_same phs k _ _ h

  pub begin_other : (j : ℕ) → j < length phs → (j ≡ k → ⊥) → phase_at (begin phs thief k s) j ≡ phase_at phs j
  unfolding phase_at
  begin_other j h n = begin_old j h ∙ get_or-set_other phs k j _ _ n

  -- What being stolen from does not change in a phase.
  pub begin_same : (f : Phase → ℕ) → f (robbed (phase_at phs k) s) ≡ f (phase_at phs k) → (j : ℕ) → j < length phs
      → f (phase_at (begin phs thief k s) j) ≡ f (phase_at phs j)
  begin_same f same j h =
      elim (ℕ_discrete j k) [
        | yes e ↦ rw e (ap f (begin-robbed (rw e at h)) ∙ same)
        | no n ↦ ap f (begin_other j h n)
      ]

  pub begin-map : (f : Phase → ℕ) → f (robbed (phase_at phs k) s) ≡ f (phase_at phs k)
      → map f (begin phs thief k s) ≡ map f phs ++ (f (record { worker = thief; first = s; stolen = [] }) ∷ [])
  unfolding begin phase_at
  begin-map f e = simp (map-one, map-set_same f phs k _ _ e)

-- The thief after it has stolen from worker v, and a victim after a steal from it.
unfoldable pub enriched : Run → ℕ → Worker
enriched s v =
    record { hand = record { held = some (oldest (worker_at s v).hand.deque); deque = [] }; phase = length s.phases }

unfoldable pub lightened : Worker → Worker
lightened x = record { hand = record { held = x.hand.held; deque = drop_last x.hand.deque }; phase = x.phase }

module _ (s : Run) (t v : ℕ) where
  pub steal-thief : t < length s.workers → worker_at (steal s t v) t ≡ enriched s v
  unfolding steal worker_at enriched lightened
  steal-thief h = simp (get_or-set_same, lt-length-set s.workers v (lightened (worker_at s v)) h)

  pub steal_other : (x : ℕ) → (x ≡ t → ⊥) → (x ≡ v → ⊥) → worker_at (steal s t v) x ≡ worker_at s x
  unfolding steal worker_at
  steal_other x n m = simp get_or-set_other

  module _ (n : t ≡ v → ⊥) (lv : v < length s.workers) where
    pub steal-victim : worker_at (steal s t v) v ≡ lightened (worker_at s v)
    unfolding steal worker_at lightened
    steal-victim =
        let m : v ≡ t → ⊥ = omega arith in
        simp (get_or-set_other, get_or-set_same)

    pub steal-sum : (f : Worker → ℕ) → t < length s.workers
        → sum f (steal s t v).workers + f (worker_at s t) + f (worker_at s v)
        ≡ sum f s.workers + f (enriched s v) + f (lightened (worker_at s v))
    unfolding steal worker_at enriched lightened
    steal-sum f lt =
        let x = lightened (worker_at s v) in
        let both = sum_set f (set s.workers v x) t (enriched s v) idle_worker (lt-length-set s.workers v x lt) in
        omega (arith, sum_set f s.workers v x idle_worker lv, rw (get_or-set_other s.workers v t x idle_worker n) at both)

-- ---- events that are not refused

-- The step that a run names is held and does not wait.
module _ (ks : List ℕ) (s : Run) (w : ℕ) (j : judge_run ks s w ≡ 0) where
  pub run_held : (i : ℕ) × ((worker_at s w).hand.held ≡ some i)
  unfolding judge_run
  run_held = by (worker_at s w).hand.held refl
    where
      by : (o : Option ℕ) → (worker_at s w).hand.held ≡ o → (i : ℕ) × ((worker_at s w).hand.held ≡ some i)
      by none h = absurd (omega (arith, rw (judge_run, h) at j))
      by (some i) h = (i, h)

  pub run_free : (i : ℕ) → (worker_at s w).hand.held ≡ some i → waits ks s.log i ≡ false
  unfolding judge_run
  run_free i h = not_so (waits ks s.log i) (λ t. omega (arith, rw (judge_run, h, t) at j))

module _ (s : Run) (t v : ℕ) (j : judge_steal s t v ≡ 0) where
  pub thief_idle : holds_step (worker_at s t) ≡ false
  unfolding judge_steal
  thief_idle = not_so (holds_step (worker_at s t)) (λ h. omega (arith, rw h at j))

  pub victim-rich : length (worker_at s v).hand.deque ≡ 0 → ⊥
  unfolding judge_steal
  victim-rich z = omega (arith, rw (thief_idle, z) at j)

module _ (ks : List ℕ) (s : Run) (e : List ℕ) (j : judge_event ks s e ≡ 0) where
  pub first_within : get_or e 0 0 < length s.workers
  unfolding judge_event
  first_within =
      elim (dec_lt (get_or e 0 0) (length s.workers)) [
        | yes h ↦ h
        | no n ↦ absurd (omega (arith, rw (le-leb (length s.workers) (get_or e 0 0) (omega arith)) at j))
      ]

  pub second_within : get_or e 1 0 < length s.workers
  unfolding judge_event
  second_within =
      elim (dec_lt (get_or e 1 0) (length s.workers)) [
        | yes h ↦ h
        | no n ↦ absurd (omega (arith, rw (le-leb (length s.workers) (get_or e 1 0) (omega arith), or-true) at j))
      ]

  judged : cond (is_run e) (judge_run ks s (get_or e 0 0)) (judge_steal s (get_or e 0 0) (get_or e 1 0)) ≡ 0
  unfolding judge_event
  judged =
      rw (lt-leb (length s.workers) (get_or e 0 0) first_within, lt-leb (length s.workers) (get_or e 1 0) second_within) at j

  pub event_runs : get_or e 0 0 ≡ get_or e 1 0 → judge_run ks s (get_or e 0 0) ≡ 0
  unfolding is_run
  event_runs same = rw (eq-eqb (get_or e 0 0) (get_or e 1 0) same) at judged

  pub event_steals : (get_or e 0 0 ≡ get_or e 1 0 → ⊥) → judge_steal s (get_or e 0 0) (get_or e 1 0) ≡ 0
  unfolding is_run
  event_steals n = rw (ne_eqb (get_or e 0 0) (get_or e 1 0) n) at judged
