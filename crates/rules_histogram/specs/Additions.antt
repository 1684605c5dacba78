-- Document 02, #106: cases of buckets, of histograms that traces are added to, and of refusals, each table one theorem, closed by
-- computation.
use Rattle.std.specs.Prelude.{ℕ, suc, ◌≡◌, refl, set, replicate}
use mathlib.Core.List.{List, [], ◌∷◌, ◌++◌, map, flatten, zip_with}
use Rattle.std.proofs.Math.Option.{Option, none, some}
use Rattle.rules.specs.Bytes.{find, highest, Verdict, accepted}
use Rattle.rules.specs.Scheduling.{work_first, help_first, most_workers}
use Rattle.rules.specs.Cases.{answer_with, bytes, of_kinds, S, one_end}
use Rattle.rules.specs.NearMisses.{bad, sixteen_loads}
use Rattle.rules_histogram.specs.Limits.{limits, bucket, bucket_count, place}
use Rattle.rules_histogram.specs.Histograms.{most_traces, Histogram, empty, Added, add_verdict, add_refused, wrapping}
use Rattle.rules_histogram.specs.Histograms.{add_load, add_loads, add_of, add_call}

-- What a call answers. Whoever unfolds it unfolds all the rules.
unfoldable pub added : ℕ → ℕ → List ℕ → List ℕ → List ℕ → Histogram → Added
unfolding answer_with find highest limits bucket place empty add_verdict add_refused wrapping add_load add_loads add_of add_call
added w p tree trace list h = add_call suc w p tree trace list h

-- ---- buckets

-- A load, and the highest limit that does not exceed it.
record BucketRow : Type 0 where
  load : ℕ
  goes : Option ℕ

unfoldable bucket_row : ℕ → ℕ → BucketRow
bucket_row load k = record { load = load; goes = some k }

-- Of equal limits the highest; the powers of two and their neighbours; loads at and above the last limit, of which 17,587,891,073,025
-- is the greatest of a tree.
unfoldable buckets : List BucketRow
buckets =
    record { load = 0; goes = none }
    ∷ bucket_row 1 3
    ∷ bucket_row 2 6
    ∷ bucket_row 3 7
    ∷ bucket_row 4 9
    ∷ bucket_row 5 10
    ∷ bucket_row 6 11
    ∷ bucket_row 7 11
    ∷ bucket_row 8 12
    ∷ bucket_row 9 13
    ∷ bucket_row 10 13
    ∷ bucket_row 11 14
    ∷ bucket_row 13 15
    ∷ bucket_row 16 16
    ∷ bucket_row 100 26
    ∷ bucket_row 4294967295 127
    ∷ bucket_row 4294967296 128
    ∷ bucket_row 12439554047900 173
    ∷ bucket_row 12439554047901 174
    ∷ bucket_row 14793206181224 174
    ∷ bucket_row 14793206181225 175
    ∷ bucket_row 17587891073025 175
    ∷ bucket_row 17592186044416 175
    ∷ bucket_row 0xffff_ffff_ffff_ffff 175
    ∷ []

buckets_as_stated : map (λ r. bucket r.load) buckets ≡ map (λ r. r.goes) buckets
unfolding added buckets bucket_row
buckets_as_stated = refl

-- The count of load 0 stands first.
places_as_stated : map place (0 ∷ 1 ∷ 2 ∷ 3 ∷ 14793206181225 ∷ []) ≡ 0 ∷ 4 ∷ 7 ∷ 8 ∷ 176 ∷ []
unfolding added
places_as_stated = refl

-- ---- one histogram, call by call

-- "A bucket for load 0 and 176 limits", and no trace.
start_as_stated : empty ≡ record { traces = 0; counts = replicate 177 0 }
unfolding added
start_as_stated = refl

-- So many phases at a place.
record Tally : Type 0 where
  place : ℕ
  count : ℕ

unfoldable at : ℕ → ℕ → Tally
at i count = record { place = i; count = count }

-- Counts that are 0 elsewhere.
unfoldable tallied : List Tally → List ℕ
tallied [] = replicate bucket_count 0
tallied (t ∷ ts) = set (tallied ts) t.place t.count

-- A call with the most workers and a list of its own, and what it answers: verdict and phases, and the histogram then.
record AddRow : Type 0 where
  policy : ℕ
  tree : List ℕ
  trace : List ℕ
  verdict : Verdict
  phases : ℕ
  after : Histogram

unfoldable add_row : ℕ → List ℕ → List ℕ → Verdict → ℕ → ℕ → List Tally → AddRow
add_row p tree trace v phases traces tallies =
    record {
      policy = p;
      tree = tree;
      trace = trace;
      verdict = v;
      phases = phases;
      after = record { traces = traces; counts = tallied tallies };
    }

-- Tree S with these weights, of one byte each.
unfoldable weighed : List ℕ → List ℕ
weighed ws = flatten (zip_with (λ k w. k ∷ 0 ∷ 0 ∷ 0 ∷ w ∷ 0 ∷ 0 ∷ 0 ∷ []) (1 ∷ 3 ∷ 2 ∷ 1 ∷ 3 ∷ 3 ∷ 3 ∷ []) ws)

-- P1's trace.
unfoldable three : List ℕ
three = bytes 12 0x0100_0100_0201_0200_0001_0100

unfoldable calls : List AddRow
calls =
    -- loads 2, 3, 1 and 1; then 5, 1 and 1
    add_row work_first S three accepted 4 1 (at 4 2 ∷ at 7 1 ∷ at 8 1 ∷ [])
    ∷ add_row help_first S (bytes 8 0x0100_0100_0200_0600) accepted 3 2 (at 4 4 ∷ at 7 1 ∷ at 8 1 ∷ at 11 1 ∷ [])
    -- without any weight both phases go to the bucket of load 0
    ∷ add_row work_first (weighed (replicate 7 0)) (bytes 4 0x0100_0100) accepted 2 3
    (at 0 2 ∷ at 4 4 ∷ at 7 1 ∷ at 8 1 ∷ at 11 1 ∷ [])
    -- P8, P9: a refused call changes nothing
    ∷ add_row work_first S (bytes 8 0x0100_0100_0201_0100) (bad 15 1) 0 3
    (at 0 2 ∷ at 4 4 ∷ at 7 1 ∷ at 8 1 ∷ at 11 1 ∷ [])
    ∷ add_row help_first S (bytes 4 0x0100_0300) (bad 15 0) 0 3
    (at 0 2 ∷ at 4 4 ∷ at 7 1 ∷ at 8 1 ∷ at 11 1 ∷ [])
    -- the greatest weight of one step
    ∷ add_row work_first (bytes 8 0x0300_0000_ffff_ffff) [] accepted 1 4
    (at 0 2 ∷ at 4 4 ∷ at 7 1 ∷ at 8 1 ∷ at 11 1 ∷ at 128 1 ∷ [])
    -- loads 5, 18, 0 and 13: what a phase covers, not what its worker has
    ∷ add_row work_first (weighed (5 ∷ 0 ∷ 7 ∷ 0 ∷ 11 ∷ 13 ∷ 0 ∷ [])) three accepted 4 5
    (at 0 3 ∷ at 4 4 ∷ at 7 1 ∷ at 8 1 ∷ at 11 2 ∷ at 16 1 ∷ at 17 1 ∷ at 128 1 ∷ [])
    ∷ []

-- What is shown of an answer.
record Shown : Type 0 where
  verdict : Verdict
  phases : ℕ
  after : Histogram

unfoldable shown : Added → Shown
shown a = record { verdict = a.replayed.verdict; phases = a.replayed.phase_count; after = a.histogram }

-- Each call is given the histogram that the one before handed back.
unfoldable go_through : Histogram → List AddRow → List Shown
go_through h [] = []
go_through h (r ∷ rs) =
    let a = added most_workers r.policy r.tree r.trace (replicate 28 9) h in
    shown a ∷ go_through a.histogram rs

calls_as_stated : go_through empty calls ≡ map (λ r. record { verdict = r.verdict; phases = r.phases; after = r.after }) calls
unfolding added calls add_row tallied at weighed three shown go_through bytes of_kinds S bad flatten
calls_as_stated = refl

-- ---- whole calls, with every lent byte

-- All that replay answers; beyond the run list the bytes keep what they held.
added-whole :
    added most_workers work_first S three (replicate 30 9) empty
    ≡ record {
      replayed = record {
        verdict = accepted;
        phase_count = 4;
        loads = sixteen_loads (3 ∷ 3 ∷ 1 ∷ []);
        heaviest = 0;
        class_loads = sixteen_loads (7 ∷ []);
        list = bytes 28 0x0000_0000_0000_0100_0100_0200_0100_0300_0100_0400_0200_0600_0300_0500 ++ replicate 2 9;
      };
      histogram = record { traces = 1; counts = tallied (at 4 2 ∷ at 7 1 ∷ at 8 1 ∷ []) };
    }
unfolding added three sixteen_loads tallied at bytes of_kinds S flatten
added-whole = refl

-- ---- refusals

-- So many traces have been added; the counts are of no call.
unfoldable holding : ℕ → Histogram
holding traces = record { traces = traces; counts = tallied (at 4 7 ∷ []) }

-- A call on a histogram that is full, and the refusal.
record FullRow : Type 0 where
  workers : ℕ
  policy : ℕ
  tree : List ℕ
  trace : List ℕ
  list : List ℕ
  says : Verdict

unfoldable full_row : ℕ → ℕ → List ℕ → List ℕ → List ℕ → Verdict → FullRow
full_row w p tree trace list v = record { workers = w; policy = p; tree = tree; trace = trace; list = list; says = v }

-- 17 comes last: each refusal of replay goes before it.
unfoldable full : List FullRow
full =
    full_row 16 work_first S (bytes 4 0x0100_0100) (replicate 28 9) (bad 17 0)
    ∷ full_row 16 help_first one_end [] (replicate 4 9) (bad 17 0)
    ∷ full_row 16 3 S (bytes 4 0x0100_0100) (replicate 28 9) (bad 1 0)
    ∷ full_row 0 work_first S (bytes 4 0x0100_0100) (replicate 28 9) (bad 16 0)
    ∷ full_row 16 work_first [] (bytes 4 0x0100_0100) (replicate 28 9) (bad 2 0)
    ∷ full_row 16 work_first (of_kinds (4 ∷ [])) [] (replicate 4 9) (bad 3 0)
    ∷ full_row 16 work_first (of_kinds (1 ∷ 3 ∷ [])) [] (replicate 8 9) (bad 5 2)
    ∷ full_row 16 work_first S (bytes 3 0x0100_01) (replicate 28 9) (bad 6 0)
    ∷ full_row 16 work_first S (bytes 4 0x0100_0100) (replicate 27 9) (bad 7 0)
    ∷ full_row 4 work_first S (bytes 4 0x0400_0100) (replicate 28 9) (bad 8 0)
    ∷ full_row 16 work_first S (bytes 4 0x0000_0100) (replicate 28 9) (bad 13 0)
    ∷ full_row 16 work_first S (bytes 4 0x0001_0100) (replicate 28 9) (bad 14 0)
    ∷ full_row 16 work_first S (bytes 8 0x0100_0100_0201_0100) (replicate 28 9) (bad 15 1)
    ∷ []

-- "All other results 0", no byte changed, and the histogram as it was.
unfoldable refused : FullRow → Added
refused r =
    record {
      replayed = record {
        verdict = r.says;
        phase_count = 0;
        loads = sixteen_loads [];
        heaviest = 0;
        class_loads = sixteen_loads [];
        list = r.list;
      };
      histogram = holding most_traces;
    }

full_as_stated :
    map (λ r. added r.workers r.policy r.tree r.trace r.list (holding most_traces)) full
    ≡ map refused full
unfolding added full full_row refused holding tallied at sixteen_loads bytes of_kinds S one_end bad flatten
full_as_stated = refl

-- A histogram of 65,534 traces takes one more, and one that no additions lead to, with more than 65,535, none.
unfoldable at_one_end : ℕ → Shown
unfolding added shown holding
at_one_end traces = shown (added 16 work_first one_end [] (replicate 4 9) (holding traces))

at_the_limit :
    map at_one_end (65534 ∷ 65535 ∷ 65536 ∷ [])
    ≡ record { verdict = accepted; phases = 1; after = record { traces = 65535; counts = tallied (at 4 8 ∷ []) } }
    ∷ record { verdict = bad 17 0; phases = 0; after = holding 65535 }
    ∷ record { verdict = bad 17 0; phases = 0; after = holding 65536 }
    ∷ []
unfolding at_one_end tallied at bytes of_kinds one_end bad flatten
at_the_limit = refl

-- ---- counts of four bytes

-- Counts of four bytes are plain numbers up to the greatest, which is followed by 0; the others stay.
wrapping_as_stated : map wrapping (0 ∷ 1 ∷ 4294967294 ∷ 4294967295 ∷ []) ≡ 1 ∷ 2 ∷ 4294967295 ∷ 0 ∷ []
unfolding added
wrapping_as_stated = refl

wraps_one :
    (add_call wrapping 16 work_first one_end [] (replicate 4 9) (record { traces = 0; counts = replicate bucket_count 4294967295 })).histogram
    ≡ record { traces = 1; counts = set (replicate bucket_count 4294967295) 4 0 }
unfolding added bytes of_kinds one_end flatten
wraps_one = refl
