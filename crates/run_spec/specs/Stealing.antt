-- What a steal asks and takes: whether it is refused before the deque is looked at, and the step that it takes, with its ordinal.
use Rattle.std.specs.Prelude.{Option, Some, None, ℕ, cond, ◌||◌, List, length, get_or, leb, ltb}
use Rattle.std.proofs.Math.Option.{Option as Maybe, none, some}
use Rattle.rules.specs.Tree.{most_steps}
use Rattle.rules.specs.Scheduling.{pushes}
use Rattle.policy.specs.Contract.{worker_limit}
use Rattle.run_spec.specs.declared.Stolen.{Stolen}
use Rattle.run_spec.specs.Ordinals.{ordinal_from}

-- ---- refusals

-- The refusal of a steal by t from v in a run of c workers, 0 for none, but for an empty deque: 8 and 11 of document 01, and 2 for a
-- tree that is too long to have been started.
unfoldable pub steal_number : ℕ → List ℕ → List ℕ → ℕ → ℕ → ℕ
steal_number c ks held t v =
    cond (leb (worker_limit c) t || leb (worker_limit c) v) 8
    (cond (ltb most_steps (length ks)) 2 (cond (ltb (get_or held t 0) (length ks)) 11 0))

-- ---- what is taken

-- A stolen step, or none.
abbrev pub MaybeStolen : Type 0
MaybeStolen = Option Stolen

-- What a steal from a deque takes, whose oldest step was pushed by a step that is found, or by none.
unfoldable pub taken_of : ℕ → List ℕ → ℕ → ℕ → Maybe ℕ → MaybeStolen
taken_of p ks base from none = None
taken_of p ks base from (some q) =
    Some
    (record {
      pusher = record { 0 = q };
      step = record { 0 = pushes p ks q };
      ordinal = record { 0 = ordinal_from p ks base from q };
    })
