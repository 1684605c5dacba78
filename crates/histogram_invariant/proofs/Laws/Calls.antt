-- One call, by its cases: replay refuses the trace, the histogram is full, or the trace is added.
use Rattle.std.specs.Prelude.{ℕ, ◌≤◌, ◌<◌, ◌≡◌, [], ◌∷◌, length, leb}
use Rattle.std.proofs.Math.Path.{refl}
use Rattle.std.proofs.Common.{ap, ◌∙◌}
use Rattle.std.proofs.Math.Decide.{ℕ_discrete, dec_lt}
use native.Mathlib.Omega.{arith}
use Rattle.std.proofs.Math.ListN.{length-map}
use borrow.Author.Tests.{eq-eqb, ne_eqb, le-leb, lt-leb}
use Rattle.rules.specs.Bytes.{Verdict, accepted, refused_if, first_refused}
use Rattle.rules.specs.Tree.{most_steps, kinds}
use Rattle.rules.specs.Calls.{replay_verdict, replay_of, replay_refused}
use Rattle.rules_histogram.specs.Histograms.{most_traces, Histogram, Added, add_verdict, add_refused, add_of, add_call}
use Rattle.tree.specs.Laws.Verdicts.{first-refuses, first_passes}
use Rattle.replay_invariant.specs.Splits.{phases_of}
use Rattle.replay_invariant.proofs.Laws.Verdicts.{call_accepted, call_refused, call_number}
use Rattle.replay_invariant.proofs.Laws.Consequences.{phases_most, replay_frame, replay_split}
use Rattle.histogram_invariant.specs.Totals.{Call, alone, phases, loads_of, called, Addition}
use Rattle.histogram_invariant.proofs.Laws.Numbers.{replay_other}

-- ---- replay

module _ (c : Call) where
  -- Its verdict,
  abbrev pub judged : Verdict
  judged = replay_verdict c.workers c.policy c.tree c.trace c.list

  alone-number : (alone c).verdict.number ≡ judged.number
  unfolding alone
  alone-number = call_number c.workers c.policy c.tree c.trace c.list

  -- and its answer by that.
  alone-accepted : judged.number ≡ 0 → alone c ≡ replay_of c.policy c.tree (phases c) c.list
  unfolding alone phases_of
  alone-accepted = call_accepted c.workers c.policy c.tree c.trace c.list

  alone-refused : (judged.number ≡ 0 → ⊥) → alone c ≡ replay_refused judged c.list
  unfolding alone
  alone-refused = call_refused c.workers c.policy c.tree c.trace c.list

  -- An accepted trace has no more phases than its tree has steps.
  pub loads_few : judged.number ≡ 0 → length (loads_of c) ≤ most_steps
  unfolding loads_of
  loads_few z =
      let frame = replay_frame c.workers c.policy c.tree c.trace c.list z in
      let split = replay_split c.workers c.policy c.tree c.trace c.list z in
      simp length-map
      (omega (arith, phases_most c.policy (kinds c.tree) frame.some frame.shape (phases c) split, frame.most))

-- ---- the cases

-- Refusal 17.
abbrev pub no_room : Verdict
no_room = record { number = 17; position = 0 }

module _ (more : ℕ → ℕ) (c : Call) (h : Histogram) where
  called_refused : (v : Verdict) → add_verdict c.workers c.policy c.tree c.trace c.list h ≡ v → (v.number ≡ 0 → ⊥)
      → called more c h ≡ add_refused v c.list h
  unfolding called add_call
  called_refused v e n = rw (e, ne_eqb v.number 0 n, called, add_call) (ap (λ (x : Verdict). add_refused x c.list h) e)

  pub refused_alike : ((judged c).number ≡ 0 → ⊥) → called more c h ≡ add_refused (judged c) c.list h
  unfolding add_verdict
  refused_alike n = called_refused (judged c) (first-refuses (judged c) _ n) n

  pub refused_full : (judged c).number ≡ 0 → most_traces ≤ h.traces → called more c h ≡ add_refused no_room c.list h
  unfolding add_verdict refused_if first_refused
  refused_full z full =
      let last = first_passes (judged c) (refused_if (leb most_traces h.traces) 17 0 ∷ []) z in
      called_refused no_room (last ∙ rw (le-leb most_traces h.traces full) refl) (omega arith)

  pub trace_added : (judged c).number ≡ 0 → h.traces < most_traces
      → called more c h ≡ add_of more c.policy c.tree (phases c) c.list h
  unfolding called add_call add_verdict refused_if first_refused phases_of accepted
  trace_added z room = rw (eq-eqb (judged c).number 0 z, lt-leb most_traces h.traces room, called, add_call) refl

  -- What holds in each of the three holds of every call.
  pub by_cases : (P : Added → Type 0) → (((judged c).number ≡ 0 → ⊥) → P (add_refused (judged c) c.list h))
      → ((judged c).number ≡ 0 → most_traces ≤ h.traces → P (add_refused no_room c.list h))
      → ((judged c).number ≡ 0 → h.traces < most_traces → P (add_of more c.policy c.tree (phases c) c.list h))
      → P (called more c h)
  by_cases P alike full added =
      elim (ℕ_discrete (judged c).number 0) [
        | no n ↦ rw (refused_alike n) (alike n)
        | yes z ↦ elim (dec_lt h.traces most_traces) [
          | yes room ↦ rw (trace_added z room) (added z room)
          | no n ↦ rw (refused_full z (omega arith)) (full z (omega arith))
        ]
      ]

  -- ---- what is claimed of it

  -- Accepted and refused, by the number answered.
  accepted-by : (called more c h).replayed.verdict.number ≡ 0 → ((judged c).number ≡ 0) × (h.traces < most_traces)
  unfolding add_refused replay_refused
  accepted-by =
      by_cases (λ a. a.replayed.verdict.number ≡ 0 → ((judged c).number ≡ 0) × (h.traces < most_traces)) (λ n z. absurd (n z))
      (λ z full e. absurd (omega arith)) (λ z room e. (z, room))

  refused-by : ((called more c h).replayed.verdict.number ≡ 0 → ⊥)
      → called more c h ≡ add_refused (called more c h).replayed.verdict c.list h
  unfolding add_refused replay_refused add_of replay_of accepted
  refused-by =
      by_cases (λ a. (a.replayed.verdict.number ≡ 0 → ⊥) → a ≡ add_refused a.replayed.verdict c.list h) (λ n bad. refl)
      (λ z full bad. refl) (λ z room bad. absurd (bad refl))

  pub addition : Addition more c h
  unfolding add_refused replay_refused add_of loads_of replay_of accepted
  addition =
      record {
        replays = λ room. elim (ℕ_discrete (judged c).number 0) [
          | yes z ↦ rw (trace_added z (omega arith), alone-accepted c z) refl
          | no n ↦ rw (refused_alike n, alone-refused c n) refl
        ];
        refuses = λ n.
            let bad : (judged c).number ≡ 0 → ⊥ = rw alone-number at n in
            rw (refused_alike bad, alone-refused c bad) refl;
        full = λ many z. rw (refused_full (omega (arith, alone-number c)) many) refl;
        only_full = by_cases (λ a. a.replayed.verdict.number ≡ 17 → (most_traces ≤ h.traces) × ((alone c).verdict.number ≡ 0))
            (λ n e. absurd (replay_other c.workers c.policy c.tree c.trace c.list e))
            (λ z many e. (omega arith, alone-number c ∙ z)) (λ z room e. absurd (omega arith));
        adds = λ e. let so = accepted-by e in rw (trace_added so.0 so.1) refl;
        all = λ e. let so = accepted-by e in rw (trace_added so.0 so.1) (simp length-map);
        keeps = λ bad. rw (refused-by bad) refl;
        nothing = λ bad. rw (refused-by bad) refl;
      }
