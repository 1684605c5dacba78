-- What rounds on the maker's arrays come to.
use Rattle.std.specs.Prelude.{ℕ, ◌+◌, ◌≤◌, ◌≡◌, length}
use mathlib.Core.List.{List, flatten}
use Rattle.rules.specs.Bytes.{count}
use Rattle.rules.specs.Tree.{kinds}
use Rattle.rules.specs.Calls.{written}
use Rattle.rules_schedule.specs.Schedules.{Making, round, rounds, made}
use Rattle.policy.specs.declared.Setup.{Setup}
use Rattle.schedule_turn.specs.Terms.{Arrays, Stands}

-- From one to the other: whatever list in the making the first show, the second show what the turns of the first k workers make of it.
pub record FirstTurns (setup : Setup) (tree : List ℕ) (k : ℕ) (start end : Arrays) : Type 0 where
  pub shown : (lent : List ℕ) (m : Making) → Stands setup tree lent m start
      → Stands setup tree lent (round setup.policy (kinds tree) (count 0 k) m) end

-- The arrays show a list in the making from which rounds lead to the list made; there are enough of them for the steps left.
pub record Underway (setup : Setup) (tree lent : List ℕ) (seed : ℕ) (a : Arrays) : Type 0 where
  pub making : Making
  pub stands : Stands setup tree lent making a
  pub left : ℕ
  pub leads : rounds setup.workers setup.policy (kinds tree) left making
      ≡ made setup.workers setup.policy (kinds tree) seed
  pub enough : length (kinds tree) ≤ length making.run.log + left

-- The list's count of events is answered, and they stand at the front of the lent list.
pub record ListWritten (list : Making) (lent : List ℕ) (count : ℕ) (after : List ℕ) : Type 0 where
  pub counted : count ≡ length list.events
  pub listed : after ≡ written (flatten list.events) lent
