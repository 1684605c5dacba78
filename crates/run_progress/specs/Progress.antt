-- Progress: what is claimed of a run's state. `ks` is the tree's kinds.
use Rattle.std.specs.Prelude.{ℕ, ◌<◌, ◌≡◌, false, List, length}
use Rattle.rules.specs.Scheduling.{Run, judge_run}
use Rattle.rules.specs.Calls.{finished}

-- Some worker may run: it is one of the run's, holds a step and does not wait. So its run event is refused neither with 8 nor with
-- 9, "A run event names an idle worker", nor with 10, "A run event names a worker that waits".
pub record MayRun (ks : List ℕ) (s : Run) : Type 0 where
  pub worker : ℕ
  pub within : worker < length s.workers
  pub free : judge_run ks s worker ≡ 0

-- The run is not stuck: unless every step has run, some worker may run.
abbrev pub Progress : List ℕ → Run → Type 0
Progress ks s = finished ks s ≡ false → MayRun ks s
