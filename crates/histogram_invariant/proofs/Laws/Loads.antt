-- Loads added to counts: what each bucket gets, what the counts add up to, and that none of four bytes wraps while that is little.
use Prim.Native.Nat.{ℕ, suc, ◌+◌, ◌%◌, ◌<◌}
use Rattle.std.specs.Prelude.{◌≡◌, cond, length, get_or, eqb}
use Rattle.std.proofs.Math.Path.{refl}
use Rattle.std.proofs.Common.{sym, ◌∙◌, arith, get_or-set_other}
use mathlib.Core.List.{List, [], ◌∷◌}
use Rattle.std.proofs.Math.Decide.{ℕ_discrete}
use Rattle.std.proofs.Math.ListN.{length-set}
use Rattle.std.proofs.Math.Seq.{get_or-set_same}
use borrow.Author.Tests.{eq-eqb, ne_eqb}
use Rattle.rules.specs.Bytes.{sum}
use Rattle.rules_histogram.specs.Limits.{bucket_count, place}
use Rattle.rules_histogram.specs.Histograms.{wrapping, add_load, add_loads}
use Rattle.run_invariant.proofs.Laws.Counts.{sum_place}
use Rattle.run_invariant.proofs.Laws.Moves.{sum_set}
use Rattle.histogram_limits.proofs.Theorem.{limits_rule}

-- What counts add up to.
abbrev pub total : List ℕ → ℕ
total counts = sum (λ count. count) counts

-- One for a load that goes to bucket b.
abbrev pub goes_to : ℕ → ℕ → ℕ
goes_to b load = cond (eqb (place load) b) 1 0

module _ (more : ℕ → ℕ) where
  pub load-length : (counts : List ℕ) (load : ℕ) → length (add_load more counts load) ≡ length counts
  unfolding add_load
  load-length counts load = simp length-set

  pub loads-length : (loads counts : List ℕ) → length (add_loads more counts loads) ≡ length counts
  unfolding add_loads
  loads-length [] counts = refl
  loads-length (load ∷ loads) counts = loads-length loads (add_load more counts load) ∙ load-length counts load

-- ---- one load

module _ (counts : List ℕ) (load : ℕ) (size : length counts ≡ bucket_count) where
  within : place load < length counts
  within = rw size (limits_rule.within load)

  pub load-total : total (add_load suc counts load) ≡ suc (total counts)
  unfolding add_load
  load-total = omega (arith, sum_set (λ (count : ℕ). count) counts (place load) (suc (get_or counts (place load) 0)) 0 within)

  load_each : (b : ℕ) → get_or (add_load suc counts load) b 0 ≡ get_or counts b 0 + goes_to b load
  unfolding add_load
  load_each b =
      let k = place load in
      let next = suc (get_or counts k 0) in
      elim (ℕ_discrete k b) [
        | yes e ↦ rw (← e, get_or-set_same counts k next 0 within, eq-eqb k k refl) (omega arith)
        | no n ↦ rw (get_or-set_other counts k b next 0 (λ e. n (sym e)), ne_eqb k b n) (omega arith)
      ]

  pub load_wraps : total counts < 4294967295 → add_load wrapping counts load ≡ add_load suc counts load
  unfolding add_load wrapping
  load_wraps few =
      let k = place load in
      let next : (get_or counts k 0 + 1) % 4294967296 ≡ suc (get_or counts k 0) =
      omega (arith, sum_place (λ (count : ℕ). count) 0 counts k within) in
      rw next refl

-- ---- all loads of a trace

pub loads-total : (loads counts : List ℕ) → length counts ≡ bucket_count
    → total (add_loads suc counts loads) ≡ total counts + length loads
unfolding add_loads
loads-total [] counts size = omega arith
loads-total (load ∷ loads) counts size =
    omega (arith, loads-total loads (add_load suc counts load) (load-length suc counts load ∙ size), load-total counts load size)

pub loads_each : (loads counts : List ℕ) → length counts ≡ bucket_count → (b : ℕ)
    → get_or (add_loads suc counts loads) b 0 ≡ get_or counts b 0 + sum (goes_to b) loads
unfolding add_loads sum
loads_each [] counts size b = omega arith
loads_each (load ∷ loads) counts size b =
    omega (arith, loads_each loads (add_load suc counts load) (load-length suc counts load ∙ size) b, load_each counts load size b)
