-- What a scan of the places finds, from what is marked: the lowest of the marked steps, and what a step waits for.
use Rattle.std.specs.Prelude.{ℕ, zero, suc, ◌+◌, ◌≤◌, ◌<◌, ◌≡◌, true, false, List, length, get_or, eqb}
use Rattle.std.proofs.Math.Path.{refl}
use Rattle.std.proofs.Common.{sym, ap, ◌∙◌, arith}
use Rattle.std.proofs.Math.Bool.{not}
use Rattle.std.proofs.Math.Option.{Option, none, some}
use Rattle.std.proofs.Math.Decide.{ℕ_discrete, dec_lt}
use Rattle.rules.specs.Tree.{finish_before}
use Rattle.rules.specs.Scheduling.{Entry, has_run, waits, awaited}
use Rattle.tree.specs.Laws.Highest.{nothing, highest_same}
use Rattle.run_invariant.proofs.Laws.Waiting.{waits-awaited}
use Rattle.run_spec.specs.Deques.{unrun_mark, marked, oldest_mark}
use Rattle.run_spec.specs.Running.{waits_for, awaits}
use Rattle.run_spec.proofs.Laws.Marks.{oldest-turn, oldest-done}
use Rattle.run_spec.proofs.Laws.Waiting.{waits-awaits}

-- ---- marks

module _ (place : List ℕ) (w end : ℕ) where
  found_within : (m low q : ℕ) → q < low + m → low ≤ q → q < end → marked place w q ≡ true
      → ((j : ℕ) → low ≤ j → j < q → marked place w j ≡ false) → oldest_mark place w low end ≡ some q
  found_within zero low q h l u m under = absurd (omega arith)
  found_within (suc k) low q h l u m under =
      oldest-turn place w low end (omega arith)
      ∙ (elim (ℕ_discrete low q) [
        | yes e ↦ rw (e, m) refl
        | no n ↦ rw (under low (omega arith) (omega arith))
            (found_within k (suc low) q (omega arith) (omega arith) u m (λ j x y. under j (omega arith) y))
      ])

  nothing_within : (m low : ℕ) → end ≤ low + m → ((j : ℕ) → low ≤ j → j < end → marked place w j ≡ false)
      → oldest_mark place w low end ≡ none
  nothing_within zero low h no-mark = oldest-done place w low end (omega arith)
  nothing_within (suc k) low h no-mark =
      elim (dec_lt low end) [
        | yes l ↦ oldest-turn place w low end l
            ∙ (rw (no-mark low (omega arith) l) (nothing_within k (suc low) (omega arith) (λ j x y. no-mark j (omega arith) y)))
        | no n ↦ oldest-done place w low end (omega arith)
      ]

module _ (place : List ℕ) (w low : ℕ) where
  pub oldest-found : (end q : ℕ) → low ≤ q → q < end → marked place w q ≡ true
      → ((j : ℕ) → low ≤ j → j < q → marked place w j ≡ false) → oldest_mark place w low end ≡ some q
  oldest-found end q l u m under = found_within place w end end low q (omega arith) l u m under

  pub oldest-nothing : (end : ℕ) → ((j : ℕ) → low ≤ j → j < end → marked place w j ≡ false) → oldest_mark place w low end ≡ none
  oldest-nothing end no-mark = nothing_within place w end end low (omega arith) no-mark

-- ---- waiting

-- Where the steps that have not run are marked so, what a step waits for is the rules' word, and so is whether it waits.
module _ (ks place : List ℕ) (log : List Entry)
    (unrun : (j : ℕ) → j < length ks → eqb (get_or place j 0) unrun_mark ≡ not (has_run log j)) (i : ℕ) (h : i < length ks) where
  pub awaits-shown : awaits ks place i ≡ awaited ks log i
  unfolding awaits awaited marked
  awaits-shown = by (finish_before ks i) refl
    where
      by : (o : Option ℕ) → finish_before ks i ≡ o → awaits ks place i ≡ awaited ks log i
      by none e = rw (e, awaits, awaited) refl
      by (some first) e =
          rw (e, awaits, awaited)
          (highest_same (marked place unrun_mark) (λ j. not (has_run log j)) first i (λ j l u. unrun j (omega arith)))

  pub waits-shown : waits_for ks place i ≡ waits ks log i
  waits-shown = waits-awaits ks place i ∙ ap (λ (o : Option ℕ). not (nothing o)) awaits-shown ∙ sym (waits-awaited ks log i)
