-- The start, and a run, a steal and an event as the code makes them: from what its parts answer, by the laws of those parts, follows
-- the whole move.
use Rattle.std.specs.Prelude.{Some, None}
use Rattle.run_spec.specs.Stealing.{MaybeStolen}
use Rattle.std.specs.Prelude.{ℕ, ◌+◌, ◌%◌, ◌<◌, ◌≡◌, List, [], get_or, set, replicate}
use Rattle.std.proofs.Math.Path.{refl}
use Rattle.std.proofs.Common.{sym, ◌∙◌, arith}
use Rattle.std.proofs.Math.Numerals.{add-one}
use Rattle.std.proofs.Math.ListN.{length}
use borrow.Author.Tests.{eq-eqb, ne_eqb}
use Rattle.rules.specs.Tree.{most_steps, kinds}
use Rattle.rules.specs.Scheduling.{most_workers}
use Rattle.policy.specs.declared.Setup.{Setup}
use Rattle.policy.specs.Contract.{most_phases}
use Rattle.trace.specs.declared.number.TraceNumber.{TraceNumber}
use Rattle.run_spec.specs.declared.Stolen.{Stolen}
use Rattle.run_spec.specs.Outcomes.{Ran, Stole, Refused}
use Rattle.run_spec.specs.Deques.{unrun_mark, oldest_mark, robbed}
use Rattle.run_spec.specs.Running.{no_step, run_number, held_next, place_next}
use Rattle.trace.specs.Contract.{number_by}
use Rattle.run_spec.specs.Stealing.{steal_number, taken_of}
use Rattle.run_spec.specs.Moves.{Fields, fields_of, move_of, fresh, refused, taken_ordinal, ran_fields, run_move}
use Rattle.run_spec.specs.Moves.{next_phase, robbed_fields, steal_move, event_move}
use Rattle.run_spec.proofs.Laws.Marks.{robbed-nothing}
use Rattle.run_spec.proofs.Laws.Stealing.{took-nothing, took-step}
use Rattle.run_spec.specs.Terms.{Climbs, Hints}

-- ---- the start

-- The arrays that a list of events begins with are those of a start.
pub fresh_arrays : (setup : Setup)
    → (let none : List ℕ = replicate most_workers 0 in
    fields_of (replicate most_steps unrun_mark) (set (replicate most_workers no_step) 0 0) none none none 0 setup ≡ fresh setup)
unfolding fresh
fresh_arrays setup = refl

-- ---- a run

module _ (f : Fields) (tree : List ℕ) (w number : ℕ)
    (judged : number ≡ run_number f.setup.workers (kinds tree) f.place f.held w) where
  pub run_refused : (number ≡ 0 → ⊥) → move_of (Refused number) f ≡ run_move f tree w
  unfolding run_move refused
  run_refused n = rw (← judged, ne_eqb number 0 n) refl

  pub run_runs : number ≡ 0 → (i : ℕ) → i ≡ get_or f.held w 0
      → (phase : ℕ) → phase ≡ get_or f.phase w 0 → (low : ℕ) → low ≡ get_or f.low w 0
      → (next : ℕ) → next ≡ held_next f.setup.policy (kinds tree) f.place w low i
      → (place : List ℕ) → place ≡ place_next (kinds tree) f.place w low i
      → move_of (Ran (record { 0 = phase }) (record { 0 = i }))
      (fields_of place (set f.held w next) f.phase f.low f.base f.steals f.setup)
      ≡ run_move f tree w
  unfolding run_move ran_fields
  run_runs none-refused i holding phase e low from next g place h =
      rw (← judged, eq-eqb number 0 none-refused, g, h, from, holding, e) refl

-- Nothing is asked of empty tables.
pub no_hints : (tree place held low : List ℕ) → Hints tree [] [] place held low
no_hints tree place held low =
    record {
      task_ends = λ i h. absurd (omega arith);
      opened = λ j l h. absurd (omega arith);
      waits = λ w l h n. absurd (omega arith);
      climbs = λ w l h. absurd (omega arith);
    }

-- The openers lead from the step that a worker holds.
pub lent_climbs : {tree ends openers place held low : List ℕ} → Hints tree ends openers place held low → {w : ℕ} → w < 16
    → {i : ℕ} → i ≡ get_or held w 0 → {from : ℕ} → from ≡ get_or low w 0 → i < length openers → Climbs openers place w from i
lent_climbs hints few holding e h = rw (holding, e) (hints.climbs _ few (rw holding at h))

-- ---- a steal

module _ (f : Fields) (tree : List ℕ) (t v number : ℕ) (judged : number ≡ steal_number f.setup.workers (kinds tree) f.held t v) where
  pub steal-refused : (number ≡ 0 → ⊥) → move_of (Refused number) f ≡ steal_move f tree t v
  unfolding steal_move refused
  steal-refused n = rw (← judged, ne_eqb number 0 n) refl

  -- It is not refused, and the deque is looked at.
  module _ (none-refused : number ≡ 0) (low : ℕ) (from : low ≡ get_or f.low v 0) (base : ℕ) (based : base ≡ get_or f.base v 0)
      (place : List ℕ) (stored : place ≡ robbed f.place v low (length (kinds tree)))
      (r : MaybeStolen) (taken : r ≡ taken_of f.setup.policy (kinds tree) base low (oldest_mark f.place v low (length (kinds tree)))) where
    pub steal-empty : r ≡ None
        → move_of (Refused 12) (fields_of place f.held f.phase f.low f.base f.steals f.setup)
        ≡ steal_move f tree t v
    unfolding steal_move refused
    steal-empty e =
        let n = length (kinds tree) in
        let found = took-nothing f.setup.policy (kinds tree) base low (oldest_mark f.place v low n) (sym taken ∙ e) in
        rw (stored, ← robbed-nothing f.place v low n found, ← judged, eq-eqb number 0 none-refused, ← from, steal_move, found) refl

    pub steal-takes : (x : Stolen) → r ≡ Some x
        → (told : TraceNumber) → told ≡ number_by f.setup.policy x.ordinal.0 x.step.0
        → (begun : ℕ) → begun ≡ f.steals % most_phases + 1
        → (held phase lows bases : List ℕ) → held ≡ set f.held t x.step.0 → phase ≡ set f.phase t begun
        → lows ≡ set (set f.low v (x.pusher.0 + 1)) t x.step.0 → bases ≡ set (set f.base v 0) t x.ordinal.0
        → move_of (Stole told) (fields_of place held phase lows bases begun f.setup) ≡ steal_move f tree t v
    unfolding steal_move robbed_fields next_phase taken_ordinal
    steal-takes x e told g begun h held phase lows bases h₀ h₁ h₂ h₃ =
        let n = length (kinds tree) in
        let took = took-step f.setup.policy (kinds tree) base low (oldest_mark f.place v low n) x (sym taken ∙ e) in
        let found = rw from at took.0 in
        rw (
          h₀,
          h₁,
          h₂,
          h₃,
          stored,
          g,
          h,
          took.2,
          took.1,
          based,
          from,
          add-one x.pusher.0,
          ← judged,
          eq-eqb number 0 none-refused,
          steal_move,
          found,
        ) refl

-- ---- an event

module _ (f : Fields) (tree : List ℕ) (a b : ℕ) where
  pub event_run : a ≡ b → run_move f tree a ≡ event_move f tree a b
  unfolding event_move
  event_run e = rw (eq-eqb a b e) refl

  pub event_steal : (a ≡ b → ⊥) → steal_move f tree a b ≡ event_move f tree a b
  unfolding event_move
  event_steal n = rw (ne_eqb a b n) refl
