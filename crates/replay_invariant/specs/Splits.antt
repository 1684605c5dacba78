-- For every trace that replay accepts, made by a scheduler or not: its phases split the tree, and the run list is each phase's
-- steps. `replay_verdict` and `replay_walk` are what the contract of `replay` gives its answers by.
use Rattle.std.specs.Prelude.{ℕ, ◌-◌, ◌<◌, ◌≡◌, cond, ◌&&◌, List, length, ltb, leb}
use Rattle.rules.specs.Bytes.{records, count, sum}
use Rattle.rules.specs.Tree.{kinds}
use Rattle.rules.specs.Scheduling.{work_first, Phase, phase_at}
use Rattle.rules.specs.Traces.{covers, replay_walk, running_order, run_list}
use Rattle.run_invariant.specs.Invariant.{log_of, self}

module _ (w p : ℕ) (tree trace : List ℕ) where
  -- The phases of a trace.
  unfoldable pub phases_of : List Phase
  phases_of = (replay_walk w p (kinds tree) (records 4 trace)).state

  pub record Splits : Type 0 where
    -- The phases cover every step exactly once.
    pub covered : (j : ℕ) → j < length (kinds tree) → sum (λ ph. cond (covers (kinds tree) ph j) 1 0) phases_of ≡ 1
    -- The run list has exactly n records, and every step in one of them.
    pub many : length (run_list p (kinds tree) phases_of) ≡ length (kinds tree)
    pub once : (j : ℕ) → j < length (kinds tree) → sum (λ e. self j e.step) (run_list p (kinds tree) phases_of) ≡ 1
    -- Its records with phase k are that phase's running order, which has each step that the phase covers once, and no other.
    pub parts : (k : ℕ) → k < length phases_of → log_of k (run_list p (kinds tree) phases_of) ≡ running_order p (kinds tree) (phase_at phases_of k)
    pub exactly : (k : ℕ) → k < length phases_of → (j : ℕ)
        → sum (self j) (running_order p (kinds tree) (phase_at phases_of k)) ≡ cond (covers (kinds tree) (phase_at phases_of k) j) 1 0
    -- Work-first, a phase is an interval of serial numbers, from its first step to before `end`, and runs in their order.
    pub interval : p ≡ work_first → (k : ℕ) → k < length phases_of
        → (end : ℕ)
        × ((j : ℕ) → covers (kinds tree) (phase_at phases_of k) j ≡ leb (phase_at phases_of k).first j && ltb j end)
        × (running_order p (kinds tree) (phase_at phases_of k) ≡ count (phase_at phases_of k).first (end - (phase_at phases_of k).first))
