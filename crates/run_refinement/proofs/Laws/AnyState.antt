-- What is so of an event on any state, whether a run leads to it or not: a refusal keeps the state, every event keeps what the run was
-- set up with, and 8 is for a worker at or above the count alone.
use Rattle.std.specs.Prelude.{ℕ, Bool, true, false, cond, ◌||◌, List, length, eqb}
use Rattle.std.proofs.Math.Path.{◌≡◌, refl}
use Rattle.std.proofs.Common.{sym, ap, ◌∙◌, arith, eq-eqb, ne_eqb}
use Rattle.std.proofs.Math.Bool.{or_self}
use Rattle.std.proofs.Math.Option.{Option, none, some}
use Rattle.std.proofs.Math.Decide.{ℕ_discrete}
use Rattle.std.proofs.Math.ListN.{get_or}
use Rattle.std.proofs.Math.Dec.{leb, ltb}
use Rattle.rules.specs.Tree.{most_steps, kinds}
use Rattle.rules.specs.Scheduling.{pushes}
use Rattle.tree.specs.declared.Phase.{Phase}
use Rattle.tree.specs.declared.Step.{Step}
use Rattle.tree.specs.Laws.Verdicts.{or_none}
use Rattle.policy.specs.Contract.{worker_limit}
use Rattle.trace.specs.declared.number.TraceNumber.{TraceNumber}
use Rattle.trace.specs.Contract.{number_by}
use Rattle.run_spec.specs.Outcomes.{Ran, Stole, Refused}
use Rattle.run_spec.specs.Deques.{oldest_mark}
use Rattle.run_spec.specs.Running.{waits_for, run_number}
use Rattle.run_spec.specs.Stealing.{steal_number}
use Rattle.run_spec.specs.Moves.{Fields, Move, move_of, refused, ran_fields, run_move, taken_ordinal, robbed_fields, steal_move, event_move}
use Rattle.run_state.specs.declared.RunState.{RunState}
use Rattle.run_state.specs.Contract.{fields, state_of, event_answer}

-- ---- what every event keeps

-- If the move refuses, its state is s; in any case it leaves what the run was set up with.
pub record Keeps (s : Fields) (move : Move) : Type 0 where
  pub same : (number : ℕ) → move.outcome ≡ Refused number → move.after ≡ s
  pub setup : move.after.setup ≡ s.setup

module _ (s : Fields) where
  pub keeps_if : (b : Bool) {x y : Move} → Keeps s x → Keeps s y → Keeps s (cond b x y)
  keeps_if true k l = k
  keeps_if false k l = l

  keeps_refused : (number : ℕ) → Keeps s (refused number s)
  unfolding refused
  keeps_refused number = record { same = λ n e. refl; setup = refl }

  pub keeps_run : (tree : List ℕ) (w : ℕ) → Keeps s (run_move s tree w)
  unfolding run_move ran_fields
  keeps_run tree w =
      let number = run_number s.setup.workers (kinds tree) s.place s.held w in
      keeps_if (eqb number 0) (record { same = λ m e. let z : ◌≡◌ {A = ℕ} 0 1 = cc in absurd (omega arith); setup = refl })
      (keeps_refused number)

  keeps_found : (found : Option ℕ) (number : ℕ → TraceNumber) (next : ℕ → Fields) → ((q : ℕ) → (next q).setup ≡ s.setup)
      → Keeps s (elim found [ none ↦ refused 12 s | some q ↦ move_of (Stole (number q)) (next q) ])
  keeps_found none number next kept = keeps_refused 12
  keeps_found (some q) number next kept =
      record { same = λ m e. let z : ◌≡◌ {A = ℕ} 0 1 = cc in absurd (omega arith); setup = kept q }

  pub keeps_steal : (tree : List ℕ) (t v : ℕ) → Keeps s (steal_move s tree t v)
  unfolding steal_move robbed_fields
  keeps_steal tree t v =
      let ks = kinds tree in
      let number = steal_number s.setup.workers ks s.held t v in
      keeps_if (eqb number 0)
      (keeps_found (oldest_mark s.place v (get_or s.low v 0) (length ks))
      (λ q. number_by s.setup.policy (taken_ordinal s ks v q) (pushes s.setup.policy ks q))
      (robbed_fields s ks t v) (λ q. refl))
      (keeps_refused number)

move_keeps : (f : Fields) (tree : List ℕ) (a b : ℕ) → Keeps f (event_move f tree a b)
unfolding event_move
move_keeps f tree a b = keeps_if f (eqb a b) (keeps_run f tree a) (keeps_steal f tree a b)

-- A refused event leaves every field, and so hands back the very state that it got.
pub refused_keeps : (s : RunState) (tree : List ℕ) (a b number : ℕ) → (event_answer s tree a b).outcome ≡ Refused number
    → (event_answer s tree a b).state ≡ s
unfolding event_answer
refused_keeps s tree a b number e = ap {B = RunState} state_of ((move_keeps (fields s) tree a b).same number e)

-- Every event leaves what the run was set up with.
pub event_setup : (f : Fields) (tree : List ℕ) (a b : ℕ) → (event_move f tree a b).after.setup ≡ f.setup
event_setup f tree a b = (move_keeps f tree a b).setup

-- ---- 8

-- A worker at or above the count is refused with 8,
pub far_move : (f : Fields) (tree : List ℕ) (a b : ℕ)
    → leb (worker_limit f.setup.workers) a || leb (worker_limit f.setup.workers) b ≡ true → event_move f tree a b ≡ refused 8 f
unfolding event_move run_move steal_move run_number steal_number
far_move f tree a b far =
    elim (ℕ_discrete a b) [
      | yes e ↦ rw (eq-eqb a b e, sym (or_self (leb (worker_limit f.setup.workers) a)) ∙ (rw (← e) at far)) refl
      | no n ↦ rw (ne_eqb a b n, far) refl
    ]

-- and nothing else is.
record Other (move : Move) : Type 0 where
  other : move.outcome ≡ Refused 8 → ⊥

run_numbers : (long idle waiting : Bool) → ◌≡◌ {A = ℕ} (cond long 2 (cond idle 9 (cond waiting 10 0))) 8 → ⊥
run_numbers true idle waiting e = omega arith
run_numbers false true waiting e = omega arith
run_numbers false false true e = omega arith
run_numbers false false false e = omega arith

steal_numbers : (long busy : Bool) → ◌≡◌ {A = ℕ} (cond long 2 (cond busy 11 0)) 8 → ⊥
steal_numbers true busy e = omega arith
steal_numbers false true e = omega arith
steal_numbers false false e = omega arith

module _ (f : Fields) (tree : List ℕ) where
  other_if : (b : Bool) {x y : Move} → Other x → Other y → Other (cond b x y)
  other_if true k l = k
  other_if false k l = l

  other_ran : (phase : Phase) (step : Step) (after : Fields) → Other (move_of (Ran phase step) after)
  other_ran phase step after = record { other = λ e. let z : ◌≡◌ {A = ℕ} 0 1 = cc in omega arith }

  other_refused : (number : ℕ) → (number ≡ 8 → ⊥) → Other (refused number f)
  unfolding refused
  other_refused number n = record { other = λ e. n cc }

  other_run : (w : ℕ) → leb (worker_limit f.setup.workers) w ≡ false → Other (run_move f tree w)
  unfolding run_move run_number
  other_run w near =
      let ks = kinds tree in
      let i = get_or f.held w 0 in
      let long = ltb most_steps (length ks) in
      let idle = leb (length ks) i in
      let waiting = waits_for ks f.place i in
      rw near
      (other_if (eqb (cond {A = ℕ} long 2 (cond idle 9 (cond waiting 10 0))) 0) (other_ran _ _ (ran_fields f ks w i))
      (other_refused _ (run_numbers long idle waiting)))

  other_taken : (found : Option ℕ) (number : ℕ → TraceNumber) (next : ℕ → Fields)
      → Other (elim found [ none ↦ refused 12 f | some q ↦ move_of (Stole (number q)) (next q) ])
  other_taken none number next = other_refused 12 (omega arith)
  other_taken (some q) number next = record { other = λ e. let z : ◌≡◌ {A = ℕ} 0 1 = cc in omega arith }

  other_steal : (t v : ℕ) → leb (worker_limit f.setup.workers) t || leb (worker_limit f.setup.workers) v ≡ false
      → Other (steal_move f tree t v)
  unfolding steal_move steal_number
  other_steal t v near =
      let ks = kinds tree in
      let p = f.setup.policy in
      let long = ltb most_steps (length ks) in
      let busy = ltb (get_or f.held t 0) (length ks) in
      rw near
      (other_if (eqb (cond {A = ℕ} long 2 (cond busy 11 0)) 0)
      (other_taken (oldest_mark f.place v (get_or f.low v 0) (length ks))
      (λ q. number_by p (taken_ordinal f ks v q) (pushes p ks q)) (robbed_fields f ks t v))
      (other_refused _ (steal_numbers long busy)))

  pub near_move : (a b : ℕ) → leb (worker_limit f.setup.workers) a || leb (worker_limit f.setup.workers) b ≡ false
      → (event_move f tree a b).outcome ≡ Refused 8 → ⊥
  unfolding event_move
  near_move a b near =
      let limit = worker_limit f.setup.workers in
      (other_if (eqb a b) (other_run a (or_none (leb limit a) (leb limit b) near).0) (other_steal a b near)).other
