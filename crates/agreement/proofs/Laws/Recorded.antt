-- Recording events that the rules accept, each where it stands.
use Rattle.std.specs.Prelude.{ℕ, suc, ◌*◌, ◌/◌, ◌%◌, ◌≤◌, ◌≡◌, Bool, true, false, cond, List, [], ◌∷◌, ◌++◌, map, length, take, get_or}
use Rattle.std.proofs.Math.Path.{refl, sym, ap}
use Rattle.std.proofs.Common.{◌∙◌, arith, length-append, eq-eqb, le-leb}
use Rattle.std.proofs.Math.Decide.{ℕ_discrete}
use Rattle.std.proofs.lemmas.List.{length-map, take-append-le}
use Rattle.std.proofs.Math.ListN.{get_or-append}
use Rattle.std.proofs.Math.Seq.{take-length, take-append_seam, get_or-append_seam}
use Rattle.rules.specs.Bytes.{whole_records, Verdict, accepted, refused_if, first_refused}
use Rattle.rules.specs.Tree.{kinds}
use Rattle.rules.specs.Scheduling.{Run, start, judge_event}
use Rattle.rules.specs.Calls.{start_verdict, after_events, Recorded, record_walk, record_verdict, record_of, record_refused, record_call}
use Rattle.rules.specs.Calls.{most_events, short_outputs}
use Rattle.buffers.specs.Laws.Records.{flat-length}
use Rattle.tree_scan.specs.Laws.Starts.{start-tree-accepts, start_workers}
use Rattle.tree_scan.specs.Laws.Frames.{Frame, accepted-frame}
use Rattle.run_invariant.proofs.Laws.Moves.{map-one}
use Rattle.run_invariant.proofs.Laws.Always.{always}
use Rattle.run_invariant.proofs.Laws.Consequences.{runs_most, steals_most}
use Rattle.arguments.specs.Terms.{too_short}
use Rattle.record.specs.Laws.Cases.{Ready, record-event, record-all}
use Rattle.agreement.proofs.Laws.Folds.{AcceptedTo, accepted_walks, refused_walks, counts}
use Rattle.agreement.proofs.Laws.Folded.{walk_folds}
use Rattle.run_spec.specs.declared.Event.{Event}
use Rattle.agreement.specs.Agreement.{event_bytes}
use Rattle.agreement.proofs.Laws.Live.{pair, event_records}

-- ---- bytes

bytes-length : (es : List Event) → length (event_bytes es) ≡ 2 * length es
unfolding event_bytes pair
bytes-length es = flat-length 2 pair (λ e. refl) es

bytes_whole : (es : List Event) → length es ≤ most_events → whole_records 2 most_events (event_bytes es) ≡ true
unfolding whole_records
bytes_whole es h =
    let bytes = bytes-length es in
    rw (eq-eqb (length (event_bytes es) % 2) 0 (omega arith), le-leb (length (event_bytes es) / 2) most_events (omega arith)) refl

-- ---- the walk

-- The rules' number for a last event is the walk's.
module _ (w p : ℕ) (ks : List ℕ) (es : List (List ℕ)) (e : List ℕ) (fine : AcceptedTo w p ks es (length es)) where
  abbrev more : List (List ℕ)
  more = es ++ (e ∷ [])

  before_last : AcceptedTo w p ks more (length es)
  before_last i h = rw (take-append-le i es (e ∷ []) (omega arith), get_or-append es (e ∷ []) [] i h) (fine i h)

  last-judged : judge_event ks (after_events p ks (start w) (take (length es) more)) (get_or more (length es) [])
      ≡ judge_event ks (after_events p ks (start w) es) e
  last-judged = rw (take-append_seam es (e ∷ []), get_or-append_seam es e [] []) refl

  walk_last : (record_walk w p ks more).verdict.number ≡ judge_event ks (after_events p ks (start w) es) e
  walk_last =
      elim (ℕ_discrete (judge_event ks (after_events p ks (start w) es) e) 0) [
        | yes j ↦ accepted_walks w p ks more (all j) ∙ sym j
        | no n ↦ ap (λ (v : Verdict). v.number)
            (refused_walks w p ks more (length es) (omega (arith, length-append es (e ∷ []))) before_last
            (λ z. n (sym last-judged ∙ z)))
            ∙ last-judged
      ]
    where
      all : judge_event ks (after_events p ks (start w) es) e ≡ 0 → AcceptedTo w p ks more (length more)
      all j i h =
          elim (ℕ_discrete i (length es)) [
            | yes s ↦ rw s (last-judged ∙ j)
            | no n ↦ before_last i (omega (arith, length-append es (e ∷ [])))
          ]

-- ---- the call

module _ (w p : ℕ) (tree : List ℕ) (starts : (start_verdict w p tree).number ≡ 0) where
  abbrev Fine : List Event → Type 0
  Fine es = AcceptedTo w p (kinds tree) (map pair es) (length (map pair es))

  abbrev run_of : List Event → Run
  run_of es = after_events p (kinds tree) (start w) (map pair es)

  -- There are at most n runs and (n - 1) / 2 steals, and n is at most 4,095.
  few : (es : List Event) → Fine es → suc (length es) ≤ most_events
  few es fine =
      let frame : Frame tree = accepted-frame tree (start-tree-accepts w p tree starts) in
      let inv = always p (kinds tree) frame.some frame.shape w (start_workers w p tree starts).0 (map pair es) in
      let all = counts w p (kinds tree) (map pair es) (length (map pair es)) (omega arith) fine in
      omega (
        arith,
        rw (take-length (map pair es)) at all,
        length-map es pair,
        runs_most p (kinds tree) frame.some frame.shape (run_of es) inv,
        steals_most p (kinds tree) frame.some frame.shape (run_of es) inv,
        frame.most,
      )

  module _ (log trace : List ℕ) where
    short-number : (es : List Event) → length es ≤ most_events → short_outputs tree log trace ≡ true
        → (record_call w p tree (event_bytes es) log trace).verdict.number ≡ 7
    unfolding record_call record_verdict record_refused first_refused refused_if accepted
    short-number es h short = rw (eq-eqb (start_verdict w p tree).number 0 starts, bytes_whole es h, short) refl

    -- Past the lent outputs, the rules decide.
    module _ (room : short_outputs tree log trace ≡ false) where
      ready : (es : List Event) → length es ≤ most_events → Ready w p tree (event_bytes es) log trace
      unfolding too_short
      ready es h = record { started = starts; listed = bytes_whole es h; room = room }

      by-walk : (es : List Event) → length es ≤ most_events
          → (record_call w p tree (event_bytes es) log trace).verdict.number
          ≡ (record_walk w p (kinds tree) (map pair es)).verdict.number
      unfolding record_of record_refused accepted
      by-walk es h =
          let read = event_records es in
          let walked = (record_walk w p (kinds tree) (map pair es)).verdict in
          elim (ℕ_discrete walked.number 0) [
            | yes z ↦ ap (λ (x : Recorded). x.verdict.number)
                (sym (record-all w p tree (event_bytes es) log trace (ready es h) (rw read z)))
                ∙ sym z
            | no n ↦ ap (λ (x : Recorded). x.verdict.number)
                (sym (record-event w p tree (event_bytes es) log trace (ready es h) walked (rw read refl) n))
          ]

      -- What recording answers.
      pub recorded-is : (es : List Event) → Fine es
          → record_call w p tree (event_bytes es) log trace ≡ record_of p tree (run_of es) log trace
      recorded-is es fine =
          let read = event_records es in
          let walked = accepted_walks w p (kinds tree) (map pair es) fine in
          sym (record-all w p tree (event_bytes es) log trace (ready es (omega (arith, few es fine))) (rw read walked))
          ∙ rw (read, (walk_folds w p (kinds tree) (map pair es) walked).0) refl

      -- One event more is accepted or refused as the rules say.
      pub recorded-one : (es : List Event) → Fine es → (e : Event)
          → (record_call w p tree (event_bytes (es ++ (e ∷ []))) log trace).verdict.number
          ≡ judge_event (kinds tree) (run_of es) (pair e)
      recorded-one es fine e =
          by-walk (es ++ (e ∷ [])) (omega (arith, few es fine, length-append es (e ∷ [])))
          ∙ rw (map-one pair es e) (walk_last w p (kinds tree) (map pair es) (pair e) fine)

    pub recorded-number : (es : List Event) → Fine es
        → (record_call w p tree (event_bytes es) log trace).verdict.number ≡ cond (short_outputs tree log trace) 7 0
    recorded-number es fine = by (short_outputs tree log trace) refl
      where
        by : (b : Bool) → short_outputs tree log trace ≡ b
            → (record_call w p tree (event_bytes es) log trace).verdict.number ≡ cond b 7 0
        by true short = short-number es (omega (arith, few es fine)) short
        by false room =
            by-walk room es (omega (arith, few es fine)) ∙ accepted_walks w p (kinds tree) (map pair es) fine
