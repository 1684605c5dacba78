-- A run, a steal and an event on the fields of a run's state: what each answers, and every field then. They are functions of the
-- fields, the tree's bytes and the event alone, for any of them. On the states that a run leads to these are the rules; on any
-- other a held step beyond the tree is none, a tree with too many records is refused with 2, and a count above sixteen is sixteen.
use Rattle.std.specs.Prelude.{ℕ, suc, ◌+◌, ◌%◌, cond, List, length, get_or, set, replicate, eqb}
use Rattle.std.proofs.Math.Option.{none, some}
use Rattle.rules.specs.Tree.{kinds, most_steps}
use Rattle.rules.specs.Scheduling.{most_workers, pushes}
use Rattle.policy.specs.declared.Setup.{Setup}
use Rattle.policy.specs.Contract.{most_phases}
use Rattle.run_spec.specs.Outcomes.{Outcome, Ran, Stole, Refused}
use Rattle.run_spec.specs.Deques.{unrun_mark, oldest_mark, robbed}
use Rattle.run_spec.specs.Running.{no_step, run_number, held_next, place_next}
use Rattle.trace.specs.Contract.{number_by}
use Rattle.run_spec.specs.Ordinals.{ordinal_from}
use Rattle.run_spec.specs.Stealing.{steal_number}

-- The fields of a run's state, which a struct has or a call is lent: for each step its place, for each worker the step that it
-- holds, its latest phase, a step below which none is marked with it, and that step's ordinal; the count of steals; what the run was
-- set up with, its policy and its count of workers.
pub record Fields : Type 0 where
  pub place : List ℕ
  pub held : List ℕ
  pub phase : List ℕ
  pub low : List ℕ
  pub base : List ℕ
  pub steals : ℕ
  pub setup : Setup

-- What an event did, with the fields then.
pub record Move : Type 0 where
  pub outcome : Outcome
  pub after : Fields

-- Both by their parts.
abbrev pub fields_of : List ℕ → List ℕ → List ℕ → List ℕ → List ℕ → ℕ → Setup → Fields
fields_of place held phase low base steals setup =
    record { place = place; held = held; phase = phase; low = low; base = base; steals = steals; setup = setup }

abbrev pub move_of : Outcome → Fields → Move
move_of outcome after = record { outcome = outcome; after = after }

-- ---- the start

-- "Worker 0 holds step 0 and that begins phase 0. The other 15 workers are idle." No step has run.
unfoldable pub fresh : Setup → Fields
fresh setup =
    let zeros : List ℕ = replicate most_workers 0 in
    fields_of (replicate most_steps unrun_mark) (set (replicate most_workers no_step) 0 0) zeros zeros zeros 0 setup

-- ---- a run

-- A refused event leaves every field.
unfoldable pub refused : ℕ → Fields → Move
refused number f = move_of (Refused number) f

-- Worker w has run step i.
unfoldable pub ran_fields : Fields → List ℕ → ℕ → ℕ → Fields
ran_fields f ks w i =
    fields_of (place_next ks f.place w (get_or f.low w 0) i)
    (set f.held w (held_next f.setup.policy ks f.place w (get_or f.low w 0) i)) f.phase f.low f.base f.steals
    f.setup

-- Worker w runs the step that it holds.
unfoldable pub run_move : Fields → List ℕ → ℕ → Move
run_move f tree w =
    let number = run_number f.setup.workers (kinds tree) f.place f.held w in
    let i = get_or f.held w 0 in
    let ran = Ran (record { 0 = get_or f.phase w 0 }) (record { 0 = i }) in
    cond (eqb number 0) (move_of ran (ran_fields f (kinds tree) w i)) (refused number f)

-- ---- a steal

-- The number of the phase that begins at the next steal. On a state that no run leads to it is a number of a phase too.
unfoldable pub next_phase : Fields → ℕ
next_phase f = f.steals % most_phases + 1

-- The ordinal of the step that is stolen from v, which step q pushed.
unfoldable pub taken_ordinal : Fields → List ℕ → ℕ → ℕ → ℕ
taken_ordinal f ks v q = ordinal_from f.setup.policy ks (get_or f.base v 0) (get_or f.low v 0) q

-- The thief t has taken from v the step that step q pushed.
unfoldable pub robbed_fields : Fields → List ℕ → ℕ → ℕ → ℕ → Fields
robbed_fields f ks t v q =
    let taken = pushes f.setup.policy ks q in
    fields_of (robbed f.place v (get_or f.low v 0) (length ks)) (set f.held t taken) (set f.phase t (next_phase f))
    (set (set f.low v (suc q)) t taken) (set (set f.base v 0) t (taken_ordinal f ks v q)) (next_phase f) f.setup

-- The thief t takes the oldest step of v's deque.
unfoldable pub steal_move : Fields → List ℕ → ℕ → ℕ → Move
steal_move f tree t v =
    let ks = kinds tree in
    let number = steal_number f.setup.workers ks f.held t v in
    cond (eqb number 0)
    (elim (oldest_mark f.place v (get_or f.low v 0) (length ks)) [
      | none ↦ refused 12 f
      | some q ↦
          let taken = pushes f.setup.policy ks q in
          move_of (Stole (number_by f.setup.policy (taken_ordinal f ks v q) taken)) (robbed_fields f ks t v q)
    ])
    (refused number f)

-- ---- an event

-- "Equal bytes: that worker runs its step. Different bytes: the first steals from the second."
unfoldable pub event_move : Fields → List ℕ → ℕ → ℕ → Move
event_move f tree a b = cond (eqb a b) (run_move f tree a) (steal_move f tree a b)
