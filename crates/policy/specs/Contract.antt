-- What a run is set up with, and what running a step does to its worker under a policy, in the rules' words.
use Rattle.std.specs.Prelude.{ℕ, min, cond, ◌||◌, List, length, leb}
use Rattle.rules.specs.Tree.{kind_at, is_end}
use Rattle.rules.specs.Scheduling.{most_workers, holds, pushes}
use Rattle.policy.specs.declared.Running.{Running}
use Rattle.policy.specs.declared.Running.TheVariants.{Opens, Ends}

-- The most phases of a run: one for the start, and one for each steal.
abbrev pub most_phases : ℕ
most_phases = 2048

-- How many workers a run with this count has. A start accepts a count up to sixteen; a state that no run leads to may say more, and
-- has sixteen.
unfoldable pub worker_limit : ℕ → ℕ
worker_limit c = min c most_workers

-- What running a step holds and pushes. An end pushes nothing, and so does a step beyond the tree.
unfoldable pub running_of : ℕ → List ℕ → ℕ → Running
running_of p ks i =
    cond (leb (length ks) i || is_end (kind_at ks i)) Ends (Opens (record { 0 = holds p ks i }) (record { 0 = pushes p ks i }))
