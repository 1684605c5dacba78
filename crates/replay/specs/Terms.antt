-- Replay for a caller that may be `full`, with no room for another trace (document 02, #106). `w` is the run's count of workers and
-- `p` the policy's byte.
use Rattle.std.specs.Prelude.{ℕ, Bool, cond, List, [], ◌∷◌, eqb}
use Rattle.rules.specs.Bytes.{records, Verdict, refused_if, first_refused}
use Rattle.rules.specs.Tree.{kinds}
use Rattle.rules.specs.Traces.{replay_walk}
use Rattle.rules.specs.Calls.{Replayed, replay_verdict, replay_of, replay_refused}

-- 17, where the caller is full, "after every refusal of the replay itself".
abbrev pub unless_full : Bool → Verdict → Verdict
unless_full full own = first_refused (own ∷ refused_if full 17 0 ∷ [])

-- What replay answers and leaves, or the refusal, with the list as it was.
unfoldable pub replay_unless : Bool → ℕ → ℕ → List ℕ → List ℕ → List ℕ → Replayed
replay_unless full w p tree trace list =
    let answer = replay_of p tree (replay_walk w p (kinds tree) (records 4 trace)).state list in
    let refusal = unless_full full (replay_verdict w p tree trace list) in
    cond (eqb refusal.number 0) answer (replay_refused refusal list)
