-- The verdict of a replay: what the call answers by it, and numbers that it is not.
use Rattle.std.specs.Prelude.{ℕ, ◌≡◌, List}
use Rattle.std.proofs.Math.Path.{refl, sym, ap}
use Rattle.std.proofs.Common.{◌∙◌, eq-eqb, ne_eqb}
use Rattle.std.proofs.Math.Option.{Option, none, some}
use Rattle.std.proofs.Math.Decide.{ℕ_discrete}
use Rattle.rules.specs.Bytes.{records, accepted}
use Rattle.rules.specs.Tree.{kinds}
use Rattle.rules.specs.Scheduling.{Phase, phase_at}
use Rattle.rules.specs.Traces.{latest_phase, number_allowed, judge_read, replay_walk}
use Rattle.rules.specs.Calls.{replay_verdict, replay_of, replay_refused, replay_call, Replayed as Call}
use Rattle.tree.specs.Laws.Verdicts.{neither}

module _ (w p : ℕ) (tree trace list : List ℕ) where
  pub call_accepted : (replay_verdict w p tree trace list).number ≡ 0
      → replay_call w p tree trace list ≡ replay_of p tree (replay_walk w p (kinds tree) (records 4 trace)).state list
  unfolding replay_call
  call_accepted e = rw (eq-eqb (replay_verdict w p tree trace list).number 0 e) refl

  pub call_refused : ((replay_verdict w p tree trace list).number ≡ 0 → ⊥)
      → replay_call w p tree trace list ≡ replay_refused (replay_verdict w p tree trace list) list
  unfolding replay_call
  call_refused n = rw (ne_eqb (replay_verdict w p tree trace list).number 0 n) refl

  -- A call's number is its verdict's.
  pub call_number : (replay_call w p tree trace list).verdict.number ≡ (replay_verdict w p tree trace list).number
  unfolding replay_of replay_refused accepted
  call_number =
      elim (ℕ_discrete (replay_verdict w p tree trace list).number 0) [
        | yes e ↦ ap (λ (c : Call). c.verdict.number) (call_accepted e) ∙ sym e
        | no n ↦ ap (λ (c : Call). c.verdict.number) (call_refused n)
      ]

-- Reading a steal gives none but 14, 15 and, where it accepts, 0.
pub read_other : (m : ℕ) → (0 ≡ m → ⊥) → (14 ≡ m → ⊥) → (15 ≡ m → ⊥)
    → (p : ℕ) (ks : List ℕ) (phs : List Phase) (victim number : ℕ) → judge_read p ks phs victim number ≡ m → ⊥
unfolding judge_read
read_other m fine none_yet breaks p ks phs victim number = by (latest_phase victim 0 phs) refl
  where
    by : (o : Option ℕ) → latest_phase victim 0 phs ≡ o → judge_read p ks phs victim number ≡ m → ⊥
    by none e = rw (e, judge_read) none_yet
    by (some k) e = rw (e, judge_read) (neither m (number_allowed p ks (phase_at phs k) number) 0 15 fine breaks)
