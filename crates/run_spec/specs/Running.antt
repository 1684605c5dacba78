-- What running a step asks and does: whether the worker may run the step that it holds, what it holds next, and the places then.
use Rattle.std.specs.Prelude.{ℕ, ◌-◌, Bool, false, cond, not, List, length, get_or, set, eqb, leb, ltb}
use Rattle.std.proofs.Math.Option.{Option, none, some}
use Rattle.rules.specs.Bytes.{count, all}
use Rattle.rules.specs.Tree.{kind_at, is_end, finish_before, most_steps}
use Rattle.rules.specs.Scheduling.{holds, pushes}
use Rattle.policy.specs.Contract.{worker_limit}
use Rattle.run_spec.specs.Deques.{unrun_mark, newest_mark, popped}

-- ---- waiting

-- All steps from `first` to before `end` have run.
unfoldable pub all_run : List ℕ → ℕ → ℕ → Bool
all_run place first end = all (λ j. not (eqb (get_or place j 0) unrun_mark)) (count first (end - first))

-- A step after a finish child waits until all steps of the child have run, those of its descendants too: they stand between.
unfoldable pub waits_for : List ℕ → List ℕ → ℕ → Bool
waits_for ks place i = elim (finish_before ks i) [ none ↦ false | some first ↦ not (all_run place first i) ]

-- Document 02, #104: the step that it waits for, the highest of them that has not run; none where all have, or where no finish child
-- ends before it.
unfoldable pub awaits : List ℕ → List ℕ → ℕ → Option ℕ
awaits ks place i = elim (finish_before ks i) [ none ↦ none | some first ↦ newest_mark place unrun_mark first i ]

-- ---- refusals

-- The refusal of worker w's run in a run of c workers, 0 for none: 8, 9 and 10 of document 01, and 2 for a tree that is too long to
-- have been started.
unfoldable pub run_number : ℕ → List ℕ → List ℕ → List ℕ → ℕ → ℕ
run_number c ks place held w =
    let i = get_or held w 0 in
    cond (leb (worker_limit c) w) 8
    (cond (ltb most_steps (length ks)) 2 (cond (leb (length ks) i) 9 (cond (waits_for ks place i) 10 0)))

-- ---- what a run leaves

-- What a state has for the held step of a worker that holds none.
abbrev pub no_step : ℕ
no_step = 65535

-- The step that worker w holds once it has run step i, where no step below `low` is marked with w.
unfoldable pub held_next : ℕ → List ℕ → List ℕ → ℕ → ℕ → ℕ → ℕ
held_next p ks place w low i =
    let newest = newest_mark place w low i in
    cond (is_end (kind_at ks i)) (elim newest [ none ↦ no_step | some q ↦ pushes p ks q ]) (holds p ks i)

-- The places then.
unfoldable pub place_next : List ℕ → List ℕ → ℕ → ℕ → ℕ → List ℕ
place_next ks place w low i = cond (is_end (kind_at ks i)) (popped place w low i) (set place i w)
