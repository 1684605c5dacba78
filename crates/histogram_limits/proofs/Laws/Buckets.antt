-- The bucket of a load. Every load but 0 has one, since limit 0 is 1. Limits rise, so k is the bucket where limit k does not
-- exceed the load and limit k + 1, if there is one, does. So from a limit that does not exceed the load, the bucket is one more
-- for each of the next that does not either.
use Prim.Native.Nat.{ℕ, zero, suc, ◌+◌, ◌*◌, ◌≤◌, ◌<◌}
use Rattle.std.specs.Prelude.{◌≡◌, leb}
use Rattle.std.proofs.Math.Path.{refl, ap}
use Rattle.std.proofs.Common.{◌∙◌, zero-add}
use Rattle.std.proofs.Math.Option.{Option, none, some}
use Rattle.std.proofs.Math.Decide.{dec_le}
use Rattle.std.proofs.Math.Nat.{add-zero}
use native.Mathlib.Omega.{arith}
use borrow.Author.Tests.{leb-true, leb-false, le-leb, lt-leb}
use Rattle.rules.specs.Bytes.{count, sum}
use Rattle.tree.specs.Laws.Highest.{highest-is, highest-at, highest_fails, fails_highest}
use Rattle.rules_histogram.specs.Limits.{limit_count, limits, limit, bucket, bucket_count, place}
use Rattle.histogram_limits.specs.Rule.{GoesTo}
use Rattle.histogram_limits.specs.Terms.{Near, halved_limit, passes}
use Rattle.histogram_limits.proofs.Laws.Table.{limits_rise, fourths, halved}

-- ---- what is found

bucket_goes : (load k : ℕ) → bucket load ≡ some k → GoesTo load k
unfolding bucket
bucket_goes load k e =
    let is = highest-is (λ k. leb (limit k) load) 0 limit_count k e in
    record {
      found = e;
      within = is.before;
      fits = leb-true (limit k) load is.passes;
      highest = λ j h fits. elim (dec_le j k) [
        | yes l ↦ l
        | no n ↦ absurd (omega (arith, leb-false (limit j) load (is.above j (omega arith) h)))
      ];
    }

first : limit 0 ≡ 1
unfolding limits
first = refl

pub zero-none : bucket 0 ≡ none
unfolding bucket
zero-none =
    fails_highest (λ k. leb (limit k) 0) 0 limit_count
    (λ j l u. lt-leb (limit j) 0 (omega (arith, limits_rise 0 j l u, first)))

pub load_goes : (load : ℕ) → 0 < load → (k : ℕ) × GoesTo load k
load_goes load h = by (bucket load) refl
  where
    by : (o : Option ℕ) → bucket load ≡ o → (k : ℕ) × GoesTo load k
    by (some k) e = (k, bucket_goes load k e)
    by none e =
        let fails = highest_fails (λ k. leb (limit k) load) 0 limit_count (unfold bucket in e) 0 (omega arith) (omega arith) in
        absurd (omega (arith, leb-false (limit 0) load fails, first))

-- ---- its place

place_none : (load : ℕ) → bucket load ≡ none → place load ≡ 0
unfolding place
place_none load e = rw (e, place) refl

place-some : (load k : ℕ) → bucket load ≡ some k → place load ≡ suc k
unfolding place
place-some load k e = rw (e, place) refl

pub place-zero : place 0 ≡ 0
place-zero = place_none 0 zero-none

pub place_within : (load : ℕ) → place load < bucket_count
place_within load = by (bucket load) refl
  where
    by : (o : Option ℕ) → bucket load ≡ o → place load < bucket_count
    by none e = omega (arith, place_none load e)
    by (some k) e = omega (arith, place-some load k e, (bucket_goes load k e).within)

-- ---- by comparisons

pub bucket-is : (load k : ℕ) → k < limit_count → limit k ≤ load → (suc k < limit_count → load < limit (suc k)) → bucket load ≡ some k
unfolding bucket
bucket-is load k h fits next =
    highest-at (λ k. leb (limit k) load) 0 limit_count k
    (record {
      from = omega arith;
      before = h;
      passes = le-leb (limit k) load fits;
      above = λ j l u. lt-leb (limit j) load (omega (arith, next (omega arith), limits_rise (suc k) j l u));
    })

module _ (load : ℕ) where
  abbrev reaches : ℕ → ℕ
  reaches k = passes load (limit k)

  -- Where a limit exceeds the load, so do all above it.
  none_reached : (i : ℕ) → load < limit i → (m k : ℕ) → i ≤ k → k + m ≤ limit_count → sum reaches (count k m) ≡ 0
  unfolding sum count passes
  none_reached i over zero k l h = refl
  none_reached i over (suc m) k l h =
      rw (lt-leb (limit k) load (omega (arith, limits_rise i k l (omega arith))), zero-add)
      (none_reached i over m (suc k) (omega arith) (omega arith))

  -- From limit k up, past the next m at most.
  climb : (m k : ℕ) → k + m < limit_count → limit k ≤ load → (suc (k + m) < limit_count → load < limit (suc (k + m)))
      → bucket load ≡ some (k + sum reaches (count (suc k) m))
  unfolding sum count passes
  climb zero k h fits next = rw add-zero (bucket-is load k (omega arith) fits (rw add-zero at next))
  climb (suc m) k h fits next =
      let place : k + suc m ≡ suc k + m = omega arith in
      elim (dec_le (limit (suc k)) load) [
        | yes l ↦ climb m (suc k) (omega arith) l (rw place at next) ∙ ap some (rw (le-leb (limit (suc k)) load l) (omega arith))
        | no n ↦
            let over : load < limit (suc k) = omega arith in
            let none = none_reached (suc k) over (suc m) (suc k) (omega arith) (omega arith) in
            rw (none, add-zero) (bucket-is load k (omega arith) fits (λ l. over))
      ]

  -- From the last power of 2 that does not exceed the load.
  near : (b : ℕ) → Near load b → bucket load ≡ some (4 * b + (reaches (4 * b + 1) + reaches (4 * b + 2) + reaches (4 * b + 3)))
  unfolding sum count
  near b n =
      let one : 4 * b + 1 ≡ suc (4 * b) = omega arith in
      let two : 4 * b + 2 ≡ suc (suc (4 * b)) = omega arith in
      let three : 4 * b + 3 ≡ suc (suc (suc (4 * b))) = omega arith in
      let next : suc (4 * b + 3) ≡ 4 * suc b = omega arith in
      climb 3 (4 * b) (omega (arith, n.within)) (omega (arith, fourths b n.within, n.fits))
      (λ l. rw (next, fourths (suc b) (omega arith)) (n.last (omega arith)))
      ∙ ap some (rw (one, two, three) (omega arith))

  pub place_near : (b : ℕ) → Near load b
      → place load ≡ 1 + 4 * b + passes load (halved_limit b 1) + passes load (halved_limit b 2) + passes load (halved_limit b 3)
  place_near b n =
      let at = halved b n.within in
      rw (← at 1 (omega arith), ← at 2 (omega arith), ← at 3 (omega arith)) (omega (arith, place-some load _ (near b n)))
