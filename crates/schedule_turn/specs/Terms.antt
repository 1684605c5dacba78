-- What a turn's contract is made of: the tables that the maker keeps beside a run, how its arrays show a list in the making, and what a
-- turn does to them.
use Rattle.std.specs.Prelude.{◌≡◌, ℕ, suc, pred, ◌*◌, ◌<◌, ◌≤◌, Bool, true, false, cond, ◌&&◌, List, length, nat_lt, slice_index}
use Rattle.std.specs.Prelude.{Some, None}
use mathlib.Core.List.{flatten}
use Rattle.std.proofs.Math.Option.{some}
use Rattle.rules.specs.Tree.{most_steps, kind_at, is_end, kinds}
use Rattle.rules.specs.Scheduling.{most_workers, Run, worker_at, has_run}
use Rattle.rules.specs.Calls.{start_verdict, written}
use Rattle.rules_schedule.specs.Schedules.{Making, turn, most_made}
use Rattle.tree.specs.Steps.{MaybeStep}
use Rattle.policy.specs.declared.Setup.{Setup}
use Rattle.run_spec.specs.Deques.{unrun_mark, marked}
use Rattle.run_spec.specs.Moves.{Fields, fields_of}
use Rattle.run_refinement.specs.Tie.{Shows}
use Rattle.run_refinement.specs.WaitingTest.{OfChild}
use Rattle.schedule_invariant.specs.Terms.{Going}
use Rattle.schedule_turn.specs.declared.Turned.{Turned}

-- ---- the lengths of the deques

-- The length of a worker's deque once it has run step i.
unfoldable pub size_after : List ℕ → ℕ → ℕ → ℕ
size_after ks i size = cond (is_end (kind_at ks i)) (pred size) (suc size)

-- For each worker the length of its deque; 0 for one that the run does not have.
pub record Sized (s : Run) (sizes : List ℕ) : Type 0 where
  pub sixteen : length sizes ≡ most_workers
  pub each : (u : ℕ) → slice_index sizes u ≡ length (worker_at s u).hand.deque

-- ---- the steps that workers wait for

-- j is a step, and has not run.
unfoldable pub unrun_still : List ℕ → ℕ → Bool
unrun_still place j = nat_lt j most_steps && marked place unrun_mark j

-- Step r is one that step i waits for, or none is given for it.
abbrev pub Noted : List ℕ → List ℕ → ℕ → MaybeStep → Type 0
Noted ks place i (Some r) = OfChild ks i r.0 × (marked place unrun_mark r.0 ≡ true)
Noted ks place i None = 0 < 1

-- Worker u holds a step that follows a finish child, and step j is a step of that child or of its descendants.
pub record Awaits (ks : List ℕ) (s : Run) (u j : ℕ) : Type 0 where
  pub step : ℕ
  pub holds : (worker_at s u).hand.held ≡ some step
  pub child : OfChild ks step j

-- For each worker a step that it was seen to wait for, or none: while that step has not run, the worker waits.
pub record Awaited (ks : List ℕ) (s : Run) (awaited : List ℕ) : Type 0 where
  pub sixteen : length awaited ≡ most_workers
  pub each : (u : ℕ) → u < most_workers → slice_index awaited u < most_steps
      → (slice_index awaited u < length ks) × (has_run s.log (slice_index awaited u) ≡ false → Awaits ks s u (slice_index awaited u))

-- ---- a list in the making

-- The fields of the run, the two tables, the lent list, the seed, and how many runs the list has.
pub record Arrays : Type 0 where
  pub fields : Fields
  pub sizes : List ℕ
  pub awaited : List ℕ
  pub events : List ℕ
  pub seed : ℕ
  pub runs : ℕ

abbrev pub arrays_of : List ℕ → List ℕ → List ℕ → List ℕ → List ℕ → List ℕ → List ℕ → List ℕ → Setup → Turned → Arrays
arrays_of place held phase low base sizes awaited events setup turned =
    record {
      fields = fields_of place held phase low base turned.steals setup;
      sizes = sizes;
      awaited = awaited;
      events = events;
      seed = turned.seed;
      runs = turned.runs;
    }

-- They show a list in the making; `lent` is the lent list before the call.
pub record Stands (setup : Setup) (tree lent : List ℕ) (m : Making) (a : Arrays) : Type 0 where
  pub accepts : (start_verdict setup.workers setup.policy tree).number ≡ 0
  pub room : 2 * most_made (length (kinds tree)) ≤ length lent
  pub going : Going setup.workers setup.policy (kinds tree) m
  pub shows : Shows setup.policy (kinds tree) a.fields m.run
  pub sized : Sized m.run a.sizes
  pub awaits : Awaited (kinds tree) m.run a.awaited
  pub seeded : a.seed ≡ m.seed
  pub ran : a.runs ≡ length m.run.log
  pub listed : a.events ≡ written (flatten m.events) lent

-- They show some list in the making.
pub record Standing (setup : Setup) (tree : List ℕ) (a : Arrays) : Type 0 where
  pub lent : List ℕ
  pub making : Making
  pub stands : Stands setup tree lent making a

-- From one to the other: whatever list in the making the first show, the second show what worker u's turn makes of it.
pub record Turns (setup : Setup) (tree : List ℕ) (u : ℕ) (start end : Arrays) : Type 0 where
  pub shown : (lent : List ℕ) (m : Making) → Stands setup tree lent m start
      → Stands setup tree lent (turn setup.policy (kinds tree) m u) end
