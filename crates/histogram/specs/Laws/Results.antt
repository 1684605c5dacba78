-- Each return of the code beside the whole call: a refusal of replay's own, or 17, and a trace that is added.
use Rattle.std.specs.Prelude.{ℕ, ◌+◌, ◌*◌, ◌≤◌, ◌<◌, ◌≡◌, Bool, List, length, leb, Result}
use Rattle.std.proofs.Math.Path.{refl, ap}
use Rattle.std.proofs.Common.{sym, ◌∙◌, add-one}
use borrow.Author.Tests.{eq-eqb, ne_eqb, leb-false}
use Rattle.rules.specs.Bytes.{Verdict}
use Rattle.rules.specs.Tree.{most_steps, kinds, weights}
use Rattle.rules.specs.Calls.{Replayed as Call, replay_verdict, replay_of}
use Rattle.rules_histogram.specs.Histograms.{most_traces, wrapping, add_loads, add_verdict, add_refused, add_of, add_call}
use Rattle.replay_invariant.specs.Splits.{phases_of}
use Rattle.replay_invariant.proofs.Laws.Consequences.{replay_frame}
use Rattle.replay_invariant.proofs.Laws.Entries.{listed_room}
use Rattle.refusals.specs.declared.Refused.{Refused}
use Rattle.replay.specs.declared.Replayed.{Replayed}
use Rattle.replay.specs.Contract.{Answers, answers, answers_of}
use Rattle.replay.specs.Terms.{replay_unless}
use Rattle.replay.specs.Laws.Unless.{unless_refused, unless-accepted, unless-room, unless_verdict}
use Rattle.histogram_phases.specs.Terms.{entries_read, phase_loads}
use Rattle.histogram_phases.proofs.Laws.Loads.{listed-loads}
use Rattle.histogram.specs.declared.Histogram.{Histogram}
use Rattle.histogram.specs.Contract.{given, stored}

module _ (w p : ℕ) (tree trace list : List ℕ) (h : Histogram) where
  abbrev full : Bool
  full = leb most_traces h.traces

  -- What a return is to meet: the call's answers, the next histogram, and the lent list as the call leaves it.
  abbrev pub Meets : Result Replayed Refused → Histogram → List ℕ → Type 0
  Meets r next out =
      let call = add_call wrapping w p tree trace list (given h) in
      (answers_of r ≡ answers call.replayed) × (next ≡ stored call.histogram) × (out ≡ call.replayed.list)

  -- What replay answers and leaves, told whether there is room.
  module _ (r : Result Replayed Refused) (out : List ℕ) (answered : answers_of r ≡ answers (replay_unless full w p tree trace list))
      (left : out ≡ (replay_unless full w p tree trace list).list) where
    -- It is judged as the whole call is.
    number_is : (answers_of r).number ≡ (add_verdict w p tree trace list (given h)).number
    unfolding answers add_verdict
    number_is =
        ap (λ (a : Answers). a.number) answered ∙ ap (λ (v : Verdict). v.number) (unless_verdict full w p tree trace list)

    pub refused-meets : ((answers_of r).number ≡ 0 → ⊥) → Meets r h out
    unfolding add_call add_refused add_verdict answers
    refused-meets n =
        let bad : (add_verdict w p tree trace list (given h)).number ≡ 0 → ⊥ = λ z. n (number_is ∙ z) in
        let told = unless_refused full w p tree trace list _ refl bad in
        rw (add_call, ne_eqb (add_verdict w p tree trace list (given h)).number 0 bad, answered, left, told) (refl, refl, refl)

    module _ (z : (answers_of r).number ≡ 0) where
      fine : (add_verdict w p tree trace list (given h)).number ≡ 0
      fine = sym number_is ∙ z

      pub accepts : (replay_verdict w p tree trace list).number ≡ 0
      unfolding add_verdict
      accepts = (unless-room full w p tree trace list fine).0

      pub room : h.traces < most_traces
      unfolding add_verdict
      room = leb-false most_traces h.traces (unless-room full w p tree trace list fine).1

      -- The run list is all there, to be read.
      pub listed : (4 * length (kinds tree) ≤ length out) × (length (kinds tree) ≤ most_steps)
      unfolding add_verdict replay_of phases_of
      listed =
          let told = ap (λ (c : Call). c.list) (unless-accepted full w p tree trace list fine) in
          (rw (left, told) (listed_room w p tree trace list accepts), (replay_frame w p tree trace list accepts).most)

      pub added-meets : (counts : List ℕ)
          → counts ≡ add_loads wrapping h.counts (phase_loads (weights tree) (entries_read out (length (kinds tree))))
          → Meets r (record { traces = h.traces + 1; counts = counts }) out
      unfolding add_call add_of add_verdict answers replay_of
      added-meets counts e =
          let told = unless-accepted full w p tree trace list fine in
          let loads = listed-loads w p tree trace list accepts in
          let judged = eq-eqb (add_verdict w p tree trace list (given h)).number 0 fine in
          rw (add_call, judged, e, answered, left, told, loads, add-one) (refl, refl, refl)
