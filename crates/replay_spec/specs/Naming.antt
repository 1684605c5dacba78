-- The step that a trace number names.
use Rattle.std.specs.Prelude.{ℕ, ◌-◌, cond, ◌&&◌, ◌||◌, List, length, ltb, leb}
use Rattle.std.proofs.Math.Option.{Option, none, some}
use Rattle.rules.specs.Traces.{starts_async, follows_finish}
use Rattle.trace.specs.declared.number.TraceNumber.{TraceNumber}
use Rattle.trace.specs.declared.number.TraceNumber.TheVariants.{ByOrdinal, BySerial}
use Rattle.trace.specs.Contract.{number_by}
use Rattle.replay_invariant.specs.Terms.{hopped}

-- The step that a trace number names: an ordinal the frontier task's step of that ordinal, found from `base` on, whose ordinal is
-- `at`; a serial number that step, where it is one that can have been pushed.
unfoldable pub step_named : List ℕ → ℕ → ℕ → TraceNumber → Option ℕ
step_named ks base at (ByOrdinal o) = cond (leb o.0 at) none (hopped ks (o.0 - at) base)
step_named ks base at (BySerial s) =
    cond (ltb s.0 (length ks) && (starts_async ks s.0 || follows_finish ks s.0)) (some s.0) none

-- The step that the number of a trace record names under a policy.
unfoldable pub named : ℕ → List ℕ → ℕ → ℕ → ℕ → Option ℕ
named p ks base at number = step_named ks base at (number_by p number number)
