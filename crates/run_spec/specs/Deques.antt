-- All deques in one array of places, one for each step: a step that has not run is marked so; a step that has run is marked
-- with worker w while the step that it pushed is in w's deque, and else as run. Here is what a scan of the places finds, and
-- what a pop and a steal leave.
use Rattle.std.specs.Prelude.{ℕ, ◌-◌, Bool, List, get_or, set, eqb}
use Rattle.std.proofs.Math.Option.{Option, none, some}
use Rattle.rules.specs.Bytes.{count, find, highest}

-- ---- marks

-- The marks of a step that has run and of one that has not, beside the numbers of the workers.
abbrev pub ran_mark : ℕ
ran_mark = 16

abbrev pub unrun_mark : ℕ
unrun_mark = 17

-- ---- scans

-- Step j is marked with w, a worker or one of these.
unfoldable pub marked : List ℕ → ℕ → ℕ → Bool
marked place w j = eqb (get_or place j 0) w

-- The highest step marked with w among those from `low` to before `end`: of a worker, the pusher of the newest step of its deque.
abbrev pub newest_mark : List ℕ → ℕ → ℕ → ℕ → Option ℕ
newest_mark place w low end = highest (marked place w) low end

-- The lowest step marked with w among them: the pusher of the oldest step.
unfoldable pub oldest_mark : List ℕ → ℕ → ℕ → ℕ → Option ℕ
oldest_mark place w low end = find (marked place w) (count low (end - low))

-- ---- stores

-- Worker w has run the end i, and its newest step is no longer in its deque.
unfoldable pub popped : List ℕ → ℕ → ℕ → ℕ → List ℕ
popped place w low i =
    elim (newest_mark place w low i) [ none ↦ set place i ran_mark | some q ↦ set (set place i ran_mark) q ran_mark ]

-- Worker w's oldest step is no longer in its deque.
unfoldable pub robbed : List ℕ → ℕ → ℕ → ℕ → List ℕ
robbed place w low end = elim (oldest_mark place w low end) [ none ↦ place | some q ↦ set place q ran_mark ]
