-- The refusals that the workers of a trace record decide.
use Rattle.std.specs.Prelude.{ℕ, cond, ◌||◌, List, get_or, eqb, leb}
use Rattle.policy.specs.Contract.{worker_limit}
use Rattle.replay_invariant.specs.Terms.{free}

-- Refusals 8, 13 and 14 in a run with count c of workers, by the table of the workers' latest phases, 0 for none. A worker that has
-- had no phase stands there with the number that is no step's label either. The table has sixteen workers whatever the count.
unfoldable pub judged_workers : ℕ → List ℕ → ℕ → ℕ → ℕ
judged_workers c latest thief victim =
    cond (leb (worker_limit c) thief || leb (worker_limit c) victim) 8
    (cond (eqb thief victim) 13 (cond (eqb (get_or latest victim 0) free) 14 0))
