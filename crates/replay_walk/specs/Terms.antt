-- What the walk over a trace's records comes to.
use Rattle.std.specs.Prelude.{ℕ, ◌≤◌, ◌<◌, ◌≡◌, List, length, get_or, Result}
use Rattle.std.specs.Result.{IfOk}
use Rattle.rules.specs.Bytes.{records, Walked}
use Rattle.rules.specs.Tree.{kinds, weights}
use Rattle.rules.specs.Scheduling.{most_workers, Phase, phase_at}
use Rattle.rules.specs.Traces.{replay_walk, loads}
use Rattle.refusals.specs.declared.Refused.{Refused}
use Rattle.refusals.specs.Numbers.{verdict_in}
use Rattle.replay_invariant.specs.Terms.{Labels}
use Rattle.policy.specs.Contract.{most_phases}
use Rattle.replay_walk.specs.declared.Ended.{Ended}

-- What the rules' walk over the records comes to.
abbrev pub ruled : ℕ → ℕ → List ℕ → List ℕ → Walked (List Phase)
ruled w p tree trace = replay_walk w p (kinds tree) (records 4 trace)

-- Where no record is refused: the phases and their loads are the rules', and the labels and first steps that are left are those of
-- the rules' phases.
pub record Phased (w p : ℕ) (tree trace : List ℕ) (ended : Ended) (labels firsts : List ℕ) : Type 0 where
  pub phases : ended.phases ≡ length (ruled w p tree trace).state
  pub loaded : ended.loads ≡ loads most_workers (kinds tree) (weights tree) (ruled w p tree trace).state
  pub shown : Labels (kinds tree) (ruled w p tree trace).state labels
  pub begins : (k : ℕ) → k < length (ruled w p tree trace).state → get_or firsts k 0 ≡ (phase_at (ruled w p tree trace).state k).first
  pub few : ended.phases ≤ most_phases

-- The walk's answer is the rules'; and the labels and first steps always are as many as they were.
pub record Retraced (w p : ℕ) (tree trace : List ℕ) (r : Result Ended Refused) (labels firsts : List ℕ) : Type 0 where
  pub verdict : verdict_in r ≡ (ruled w p tree trace).verdict
  pub phased : IfOk r (λ ended. Phased w p tree trace ended labels firsts)
  pub sizes : (length labels ≡ length (kinds tree)) × (length firsts ≡ most_phases)
