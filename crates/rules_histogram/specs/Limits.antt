-- Document 02, #106: the limits of the histogram's buckets, and which bucket a load goes to.
use Rattle.std.specs.Prelude.{ℕ, suc, ◌^◌, ◌≤◌, List, [], ◌∷◌, get_or, leb}
use Rattle.std.proofs.Math.Option.{Option, none, some}
use Rattle.rules.specs.Bytes.{highest}

abbrev pub limit_count : ℕ
limit_count = 176

-- ---- the limits

-- "Limit k, from 0 to 175, is the largest whole number whose fourth power is at most 2 to the power k": what it takes to be limit k.
-- That all of `limits` are is a theorem, so the numbers below need not be believed.
pub record IsLimit (k x : ℕ) : Type 0 where
  pub fits : x ^ 4 ≤ 2 ^ k
  pub largest : (y : ℕ) → y ^ 4 ≤ 2 ^ k → y ≤ x

-- "176 limits kept as a constant table."
unfoldable pub limits : List ℕ
limits =
    1 ∷ 1 ∷ 1 ∷ 1 ∷ 2 ∷ 2 ∷ 2 ∷ 3 ∷ 4 ∷ 4 ∷ 5 ∷ 6 ∷ 8 ∷ 9 ∷ 11 ∷ 13 ∷ 16 ∷ 19 ∷ 22 ∷ 26 ∷ 32 ∷ 38 ∷ 45 ∷ 53 ∷ 64 ∷ 76 ∷ 90 ∷
    107 ∷ 128 ∷ 152 ∷ 181 ∷ 215 ∷ 256 ∷ 304 ∷ 362 ∷ 430 ∷ 512 ∷ 608 ∷ 724 ∷ 861 ∷ 1024 ∷ 1217 ∷ 1448 ∷ 1722 ∷ 2048 ∷ 2435 ∷
    2896 ∷ 3444 ∷ 4096 ∷ 4870 ∷ 5792 ∷ 6888 ∷ 8192 ∷ 9741 ∷ 11585 ∷ 13777 ∷ 16384 ∷ 19483 ∷ 23170 ∷ 27554 ∷ 32768 ∷ 38967 ∷
    46340 ∷ 55108 ∷ 65536 ∷ 77935 ∷ 92681 ∷ 110217 ∷ 131072 ∷ 155871 ∷ 185363 ∷ 220435 ∷ 262144 ∷ 311743 ∷ 370727 ∷ 440871 ∷
    524288 ∷ 623487 ∷ 741455 ∷ 881743 ∷ 1048576 ∷ 1246974 ∷ 1482910 ∷ 1763487 ∷ 2097152 ∷ 2493948 ∷ 2965820 ∷ 3526975 ∷
    4194304 ∷ 4987896 ∷ 5931641 ∷ 7053950 ∷ 8388608 ∷ 9975792 ∷ 11863283 ∷ 14107900 ∷ 16777216 ∷ 19951584 ∷ 23726566 ∷
    28215801 ∷ 33554432 ∷ 39903169 ∷ 47453132 ∷ 56431603 ∷ 67108864 ∷ 79806338 ∷ 94906265 ∷ 112863206 ∷ 134217728 ∷
    159612677 ∷ 189812531 ∷ 225726412 ∷ 268435456 ∷ 319225354 ∷ 379625062 ∷ 451452825 ∷ 536870912 ∷ 638450708 ∷ 759250124 ∷
    902905650 ∷ 1073741824 ∷ 1276901416 ∷ 1518500249 ∷ 1805811301 ∷ 2147483648 ∷ 2553802833 ∷ 3037000499 ∷ 3611622602 ∷
    4294967296 ∷ 5107605667 ∷ 6074000999 ∷ 7223245205 ∷ 8589934592 ∷ 10215211334 ∷ 12148001999 ∷ 14446490411 ∷ 17179869184 ∷
    20430422668 ∷ 24296003999 ∷ 28892980822 ∷ 34359738368 ∷ 40860845336 ∷ 48592007999 ∷ 57785961645 ∷ 68719476736 ∷
    81721690673 ∷ 97184015999 ∷ 115571923290 ∷ 137438953472 ∷ 163443381347 ∷ 194368031998 ∷ 231143846581 ∷ 274877906944 ∷
    326886762694 ∷ 388736063996 ∷ 462287693163 ∷ 549755813888 ∷ 653773525389 ∷ 777472127993 ∷ 924575386326 ∷ 1099511627776 ∷
    1307547050779 ∷ 1554944255987 ∷ 1849150772653 ∷ 2199023255552 ∷ 2615094101558 ∷ 3109888511975 ∷ 3698301545306 ∷
    4398046511104 ∷ 5230188203117 ∷ 6219777023950 ∷ 7396603090612 ∷ 8796093022208 ∷ 10460376406235 ∷ 12439554047901 ∷
    14793206181225 ∷ []

abbrev pub limit : ℕ → ℕ
limit k = get_or limits k 0

-- ---- buckets

-- "A load goes to the highest k whose limit does not exceed it." There is none for load 0, which has a bucket of its own.
unfoldable pub bucket : ℕ → Option ℕ
bucket load = highest (λ k. leb (limit k) load) 0 limit_count

-- "A bucket for load 0 and 176 limits": the histogram has a count for each, that of load 0 first.
abbrev pub bucket_count : ℕ
bucket_count = suc limit_count

-- Where the count of a load's bucket stands.
unfoldable pub place : ℕ → ℕ
place load = elim (bucket load) [ none ↦ 0 | some k ↦ suc k ]
