-- Document 02, #102: "Every list made must be accepted and must finish, with no more than n + (n - 1) / 2 events." What is claimed of
-- an accepted call of the schedule maker: of the bytes that it leaves in the lent list, and of recording them with the same worker
-- count, policy and tree. `schedule_call` and `record_call` are what the contracts of `schedule::schedule` and `record::record` promise,
-- so these are the bytes and the answers of the entries.
use Rattle.std.specs.Prelude.{ℕ, zero, suc, ◌+◌, ◌-◌, ◌*◌, ◌/◌, ◌≤◌, ◌<◌, ◌≡◌, true, false, List, length, take}
use Rattle.rules.specs.Bytes.{records, count, refused_if}
use Rattle.rules.specs.Tree.{kinds}
use Rattle.rules.specs.Calls.{short_outputs, Recorded, finished, record_call}
use Rattle.rules_schedule.specs.Schedules.{Making, begun, round, schedule_call}

-- k rounds, whatever has run: "go through the workers in rising order again and again".
unfoldable pub again : ℕ → ℕ → List ℕ → ℕ → Making → Making
again w p ks zero m = m
again w p ks (suc k) m = again w p ks k (round p ks (count 0 w) m)

-- A worker count, a policy, a tree, a seed, and the lent list before the call.
module _ (w p : ℕ) (tree : List ℕ) (seed : ℕ) (lent : List ℕ) where
  -- How many events the call answers.
  unfoldable pub answered : ℕ
  answered = (schedule_call w p tree seed lent).event_count

  -- The list made: two bytes for each event, at the front of the lent list as the call leaves it.
  unfoldable pub listed : List ℕ
  listed = take (2 * answered) (schedule_call w p tree seed lent).events

  -- Recording it, with a log and a trace lent.
  unfoldable pub recorded : List ℕ → List ℕ → Recorded
  recorded log trace = record_call w p tree listed log trace

  -- The count of steps.
  abbrev n : ℕ
  n = length (kinds tree)

  -- The list in the making after k rounds.
  abbrev after : ℕ → Making
  after k = again w p (kinds tree) k (begun w seed)

  -- How many rounds there are.
  pub record RoundsEnd : Type 0 where
    pub rounds : ℕ
    -- After that many every step has run,
    pub last : finished (kinds tree) (after rounds).run ≡ true
    -- after fewer not.
    pub before : (k : ℕ) → k < rounds → finished (kinds tree) (after k).run ≡ false
    -- They are no more than the steps.
    pub most : rounds ≤ n
    -- More of them would write nothing;
    pub idle : (k : ℕ) → (after (rounds + k)).events ≡ (after rounds).events
    -- nor do the turns that are left of a round once every step has run: asked after each turn, the list would be the same.
    pub quiet : (k j : ℕ) → j ≤ w → finished (kinds tree) (round p (kinds tree) (count 0 j) (after k)).run ≡ true
        → (after (suc k)).events ≡ (round p (kinds tree) (count 0 j) (after k)).events
    -- The list has the events of these rounds, and no others.
    pub events : records 2 listed ≡ (after rounds).events

  -- What is claimed of the call.
  pub record Schedule : Type 0 where
    -- "Write an event list and answer how many events it has."
    pub counted : length (records 2 listed) ≡ answered
    -- "Go through the workers in rising order again and again until every step has run."
    pub ends : RoundsEnd
    -- "Every list made must be accepted": recording gives 7 where an output of its own is short, and accepts the list otherwise.
    pub accepted : (log trace : List ℕ) → (recorded log trace).verdict ≡ refused_if (short_outputs tree log trace) 7 0
    -- "And must finish": recording answers that every step has run.
    pub finishes : (log trace : List ℕ) → short_outputs tree log trace ≡ false → (recorded log trace).finished ≡ true
    -- "With no more than n + (n - 1) / 2 events."
    pub at_most : answered ≤ n + (n - 1) / 2
