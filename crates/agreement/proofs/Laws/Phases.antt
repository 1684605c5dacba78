-- Entries of a log or a run list, counted by phase and by step.
use Rattle.std.specs.Prelude.{ℕ, zero, suc, ◌+◌, ◌≤◌, ◌<◌, ◌≡◌, refl, Bool, true, false, cond, eqb}
use Rattle.std.proofs.Math.Path.{ap}
use mathlib.Core.List.{List, [], ◌∷◌}
use Rattle.std.proofs.Math.Decide.{dec_lt}
use Rattle.std.proofs.Common.{arith, eq-eqb, ne_eqb}
use Rattle.std.proofs.Math.ListN.{length}
use Rattle.rules.specs.Bytes.{count, sum}
use Rattle.rules.specs.Scheduling.{Entry}
use Rattle.run_invariant.specs.Invariant.{log_of, self}
use Rattle.run_invariant.proofs.Laws.Counts.{sum_none, sum_same, sum_plus, sum_self}
use Rattle.agreement.proofs.Laws.Records.{Small}

-- No entry has phase m or a later one; none has step n or a later one.
abbrev pub PhasesBelow : ℕ → List Entry → Type 0
PhasesBelow m entries = (k : ℕ) → m ≤ k → log_of k entries ≡ []

abbrev pub StepsBelow : ℕ → List Entry → Type 0
StepsBelow n entries = (j : ℕ) → n ≤ j → sum (λ e. self j e.step) entries ≡ 0

-- ---- one entry

module _ (e : Entry) (entries : List Entry) where
  head_phase : (m : ℕ) → PhasesBelow m (e ∷ entries) → e.phase < m
  unfolding log_of
  head_phase m below =
      elim (dec_lt e.phase m) [
        | yes h ↦ h
        | no n ↦
            let none = below e.phase (omega arith) in
            let more = ap (λ (l : List ℕ). length l) (rw (eq-eqb e.phase e.phase refl) at none) in
            absurd (omega arith)
      ]

  tail_phases : (m : ℕ) → PhasesBelow m (e ∷ entries) → PhasesBelow m entries
  unfolding log_of
  tail_phases m below k h =
      let first = head_phase m below in
      rw (ne_eqb e.phase k (λ s. omega arith)) at (below k h)

  head_step : (n : ℕ) → StepsBelow n (e ∷ entries) → e.step < n
  unfolding sum self
  head_step n below =
      elim (dec_lt e.step n) [
        | yes h ↦ h
        | no no_less ↦
            let none = below e.step (omega arith) in
            absurd (omega (arith, rw (eq-eqb e.step e.step refl) at none))
      ]

  tail_steps : (n : ℕ) → StepsBelow n (e ∷ entries) → StepsBelow n entries
  unfolding sum
  tail_steps n below j h = omega (arith, below j h)

-- ---- all entries

-- So phases and steps fit two bytes.
pub below_small : (m n : ℕ) → m ≤ 65536 → n ≤ 65536 → (entries : List Entry) → PhasesBelow m entries → StepsBelow n entries
    → Small entries
below_small m n a b [] ph st i h = absurd (omega arith)
below_small m n a b (e ∷ entries) ph st zero h =
    (omega (arith, head_phase e entries m ph), omega (arith, head_step e entries n st))
below_small m n a b (e ∷ entries) ph st (suc i) h =
    below_small m n a b entries (tail_phases e entries m ph) (tail_steps e entries n st) i (omega arith)

-- An entry is one of its own phase.
log_length : (k : ℕ) (e : Entry) (entries : List Entry)
    → length (log_of k (e ∷ entries)) ≡ cond (eqb e.phase k) 1 0 + length (log_of k entries)
unfolding log_of
log_length k e entries = by (eqb e.phase k)
  where
    l : List ℕ
    l = log_of k entries

    by : (b : Bool) → length (cond b (e.step ∷ l) l) ≡ cond b 1 0 + length l
    by true = omega arith
    by false = omega arith

-- The phases' entries are all entries.
phases-length : (m : ℕ) (entries : List Entry) → PhasesBelow m entries
    → sum (λ k. length (log_of k entries)) (count 0 m) ≡ length entries
unfolding log_of
phases-length m [] below = sum_none (λ k. length (log_of k [])) 0 (count 0 m) (λ i. refl)
phases-length m (e ∷ entries) below =
    omega (
      arith,
      sum_plus (λ k. length (log_of k (e ∷ entries))) (λ k. cond (eqb e.phase k) 1 0) (λ k. length (log_of k entries))
          (λ k. log_length k e entries) (count 0 m),
      sum_self (λ k. 1) e.phase m 0 (omega arith) (omega (arith, head_phase e entries m below)),
      phases-length m entries (tail_phases e entries m below),
    )

-- With the same steps in each phase there are as many.
pub same_length : (m : ℕ) (a b : List Entry) → PhasesBelow m a → PhasesBelow m b → ((k : ℕ) → log_of k a ≡ log_of k b)
    → length a ≡ length b
same_length m a b x y same =
    omega (
      arith,
      phases-length m a x,
      phases-length m b y,
      sum_same (λ k. length (log_of k a)) (λ k. length (log_of k b)) (λ k. ap (λ (l : List ℕ). length l) (same k)) (count 0 m),
    )
