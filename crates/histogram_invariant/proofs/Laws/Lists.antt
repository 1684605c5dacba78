-- Any list of calls. Counting without end, each call adds its phases: no more than 4,095 for each of at most 65,535 traces. So the
-- counts together stay below 2 to the power 32, none of four bytes wraps, and the entry's counting comes to the same.
use Prim.Native.Nat.{ℕ, suc, ◌+◌, ◌*◌, ◌≤◌, ◌<◌}
use Rattle.std.specs.Prelude.{◌≡◌, refl, cond, List, [], ◌∷◌, get_or}
use Rattle.std.proofs.Common.{◌∙◌, arith}
use Rattle.std.proofs.Math.ListN.{length, length-map}
use Rattle.std.proofs.lemmas.List.{length-replicate}
use borrow.Author.Tests.{ne_eqb}
use Rattle.rules.specs.Bytes.{sum, Verdict, accepted}
use Rattle.rules.specs.Tree.{most_steps}
use Rattle.rules.specs.Calls.{replay_of, replay_refused}
use Rattle.rules_histogram.specs.Limits.{bucket_count}
use Rattle.rules_histogram.specs.Histograms.{most_traces, Histogram, empty, Added, wrapping, add_refused, add_of}
use Rattle.run_invariant.proofs.Laws.Weights.{sum_append}
use Rattle.run_invariant.proofs.Laws.Moves.{sum_replicate, get_or_alike}
use Rattle.histogram_invariant.specs.Totals.{Call, phases, loads_of, accepts, called, after_calls, answers, loads_added, Totals}
use Rattle.histogram_invariant.proofs.Laws.Loads.{total, goes_to, loads-length, loads-total, loads_each}
use Rattle.histogram_invariant.proofs.Laws.Wraps.{loads_wrap}
use Rattle.histogram_invariant.proofs.Laws.Calls.{judged, loads_few, no_room, refused_alike, refused_full, trace_added}
use Rattle.histogram_invariant.proofs.Laws.Calls.{by_cases}

-- ---- one call

-- What holds of a histogram that the start and additions lead to.
record Reached (h : Histogram) : Type 0 where
  size : length h.counts ≡ bucket_count
  most : h.traces ≤ most_traces
  few : total h.counts ≤ most_steps * h.traces

-- What a call has made of it, by what it answers.
record Grown (c : Call) (h : Histogram) (a : Added) : Type 0 where
  keeps : Reached a.histogram
  totals : total a.histogram.counts ≡ total h.counts + a.replayed.phase_count
  buckets : (b : ℕ)
      → get_or a.histogram.counts b 0 ≡ get_or h.counts b 0 + sum (goes_to b) (cond (accepts a.replayed) (loads_of c) [])
  traces : a.histogram.traces ≡ h.traces + cond (accepts a.replayed) 1 0

module _ (c : Call) (h : Histogram) (r : Reached h) where
  refused-grown : (v : Verdict) → (v.number ≡ 0 → ⊥) → Grown c h (add_refused v c.list h)
  unfolding add_refused replay_refused accepts sum
  refused-grown v n =
      let bad = ne_eqb v.number 0 n in
      record { keeps = r; totals = omega arith; buckets = λ b. rw bad (omega arith); traces = rw bad (omega arith) }

  added-grown : (judged c).number ≡ 0 → h.traces < most_traces → Grown c h (add_of suc c.policy c.tree (phases c) c.list h)
  unfolding add_of replay_of loads_of accepts accepted
  added-grown z room =
      let loads = loads_of c in
      let sums = loads-total loads h.counts r.size in
      let many : length loads ≡ length (phases c) = simp length-map in
      record {
        keeps = record {
          size = loads-length suc loads h.counts ∙ r.size;
          most = omega arith;
          few = omega (arith, sums, loads_few c z, r.few);
        };
        totals = omega (arith, sums, many);
        buckets = loads_each loads h.counts r.size;
        traces = omega arith;
      }

  call_grown : Grown c h (called suc c h)
  call_grown =
      by_cases suc c h (Grown c h) (refused-grown (judged c)) (λ z full. refused-grown no_room (omega arith)) added-grown

  call_exact : called wrapping c h ≡ called suc c h
  unfolding add_of loads_of
  call_exact =
      by_cases suc c h (λ a. called wrapping c h ≡ a) (refused_alike wrapping c h) (refused_full wrapping c h) (λ z room.
      let few : total h.counts + length (loads_of c) < 4294967296 = omega (arith, loads_few c z, r.few) in
      rw (trace_added wrapping c h z room, loads_wrap (loads_of c) h.counts r.size few) refl)

-- ---- any list of calls

-- What a list of calls makes of a histogram, counting without end, and that the entry's counting comes to the same.
record Counted (h : Histogram) (cs : List Call) : Type 0 where
  keeps : Reached (after_calls suc h cs)
  totals : total (after_calls suc h cs).counts ≡ total h.counts + sum (λ answer. answer.phase_count) (answers suc h cs)
  buckets : (b : ℕ) → get_or (after_calls suc h cs).counts b 0 ≡ get_or h.counts b 0 + sum (goes_to b) (loads_added suc h cs)
  traces : (after_calls suc h cs).traces ≡ h.traces + sum (λ answer. cond (accepts answer) 1 0) (answers suc h cs)
  histograms : after_calls wrapping h cs ≡ after_calls suc h cs
  answered : answers wrapping h cs ≡ answers suc h cs
  loads : loads_added wrapping h cs ≡ loads_added suc h cs

all_counted : (cs : List Call) (h : Histogram) → Reached h → Counted h cs
unfolding after_calls answers loads_added sum
all_counted [] h r =
    record {
      keeps = r;
      totals = omega arith;
      buckets = λ b. omega arith;
      traces = omega arith;
      histograms = refl;
      answered = refl;
      loads = refl;
    }
all_counted (c ∷ cs) h r =
    let a = called suc c h in
    let one = call_grown c h r in
    let exact = call_exact c h r in
    let rest = all_counted cs a.histogram one.keeps in
    record {
      keeps = rest.keeps;
      totals = omega (arith, one.totals, rest.totals);
      buckets = λ b.
          let added = cond (accepts a.replayed) (loads_of c) [] in
          omega (arith, one.buckets b, rest.buckets b, sum_append (goes_to b) added (loads_added suc a.histogram cs));
      traces = omega (arith, one.traces, rest.traces);
      histograms = rw exact rest.histograms;
      answered = rw (exact, rest.answered) refl;
      loads = rw (exact, rest.loads) refl;
    }

-- ---- from the start

empty-total : total empty.counts ≡ 0
unfolding empty
empty-total = sum_replicate (λ (count : ℕ). count) bucket_count 0 refl

empty-bucket : (b : ℕ) → get_or empty.counts b 0 ≡ 0
unfolding empty
empty-bucket b = get_or_alike {A = ℕ} bucket_count b 0

empty_reached : Reached empty
unfolding empty
empty_reached =
    record { size = length-replicate {A = ℕ} bucket_count 0; most = omega arith; few = omega (arith, empty-total) }

pub list_totals : (calls : List Call) → Totals calls
unfolding empty
list_totals calls =
    let all = all_counted calls empty empty_reached in
    record {
      buckets = rw all.histograms all.keeps.size;
      adds_up = rw (all.histograms, all.answered) (omega (arith, all.totals, empty-total));
      each = λ b. rw (all.histograms, all.loads) (omega (arith, all.buckets b, empty-bucket b));
      counted = rw (all.histograms, all.answered) (omega (arith, all.traces));
      most = rw all.histograms (omega (arith, all.keeps.most));
      exact = λ c. rw all.histograms (call_exact c _ all.keeps);
      same_histogram = all.histograms;
      same_answers = all.answered;
    }
