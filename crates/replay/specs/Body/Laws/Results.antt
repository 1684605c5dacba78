-- What an admitted replay comes to, from what the walk over the trace's records comes to: where a record is refused, where the
-- caller is full, and where the run list is written.
use Rattle.std.specs.Prelude.{ℕ, zero, suc, ◌≤◌, ◌≡◌, refl, Bool, true, false, List, ◌∷◌, ◌++◌, length, take, replicate, Ok, Err}
use Rattle.std.proofs.Math.Path.{sym}
use Rattle.std.proofs.Common.{ap, ◌∙◌, arith, length-append, take_at}
use Rattle.rules.specs.Bytes.{records, Verdict, accepted, refused_if}
use Rattle.rules.specs.Tree.{kinds, classes, weights}
use Rattle.rules.specs.Scheduling.{Phase}
use Rattle.rules.specs.Traces.{entry_bytes, replay_walk, run_list}
use Rattle.rules.specs.Calls.{written}
use Rattle.tree_scan.specs.Laws.Starts.{admitted_policy}
use Rattle.tree_scan.specs.Laws.Frames.{Frame}
use Rattle.tree_tables.specs.Terms.{classes_before}
use Rattle.tree_tables.proofs.Laws.Fronts.{start-frame}
use Rattle.loads.proofs.Laws.Classes.{classes_are}
use Rattle.replay_invariant.specs.Invariant.{Split}
use Rattle.replay_invariant.proofs.Laws.Always.{always_split}
use Rattle.policy.specs.Contract.{most_phases}
use Rattle.replay_spec.specs.Lists.{listed, Listable}
use Rattle.replay_spec.proofs.Laws.RunLists.{listed-is}
use Rattle.refusals.specs.declared.Refusal.TheVariants.{Full}
use Rattle.refusals.specs.declared.Refused.{Refused}
use Rattle.refusals.specs.Laws.Numbers.{number-some}
use Rattle.replay_walk.specs.declared.Ended.{Ended}
use Rattle.replay_walk.specs.Terms.{ruled, Retraced}
use Rattle.replay_walk.specs.Laws.Retracing.{split-whole}
use Rattle.replay.specs.Laws.Unless.{unless_own, unless_passes}
use Rattle.replay.specs.Body.Terms.{Admitted, Outcome}

-- ---- arrays whose front is lent

-- The front of an array of labels that are all free.
pub take-replicate : (n m x : ℕ) → n ≤ m → take n (replicate m x) ≡ replicate n x
take-replicate zero m x h = refl
take-replicate (suc n) zero x h = absurd (omega arith)
take-replicate (suc n) (suc m) x h = ap (λ (l : List ℕ). x ∷ l) (take-replicate n m x (omega arith))

-- An array whose front was lent and filled: the front lent again.
module _ (n : ℕ) (front rest : List ℕ) (many : length front ≡ n) where
  pub front_room : n ≤ length (front ++ rest)
  front_room = omega (arith, length-append front rest)

  pub front_length : n ≡ length (take n (front ++ rest))
  front_length = rw (take_at front rest n many) (sym many)

-- ---- what the call does

module _ {w p : ℕ} {tree trace list : List ℕ} {n : ℕ} (ready : Admitted w p tree trace n list) where
  abbrev verdict : Verdict
  verdict = (ruled w p tree trace).verdict

  -- A record is refused: the list is as it was.
  pub lost-outcome : {e : Refused} {labels firsts : List ℕ} → Retraced w p tree trace (Err e) labels firsts → {full : Bool}
      → (charges : List ℕ) → Outcome full w p tree trace list (Err e) list charges
  lost-outcome {e} {labels} {firsts} so {full} charges =
      let some : verdict.number ≡ 0 → ⊥ =
      λ z. omega (arith, number-some e.refusal, ap (λ (v : Verdict). v.number) so.verdict ∙ z)
      in
      record { verdict = so.verdict ∙ sym (unless_own full verdict some); same = refl; listed = tt }

  -- Every record is accepted.
  module _ {ended : Ended} {labels firsts : List ℕ} (so : Retraced w p tree trace (Ok ended) labels firsts) where
    none : verdict.number ≡ 0
    none = sym (ap (λ (v : Verdict). v.number) so.verdict)

    -- The caller is full,
    pub full-outcome : {full : Bool} → full ≡ true → (charges : List ℕ)
        → Outcome full w p tree trace list (Err (record { refusal = Full; position = 0 })) list charges
    unfolding refused_if
    full-outcome {full} e charges =
        let decides = unless_passes full verdict none in
        record { verdict = rw (decides, e) refl; same = refl; listed = tt }

    -- or not.
    frame : Frame tree
    frame = start-frame w p tree ready.started

    abbrev phs : List Phase
    phs = (replay_walk w p (kinds tree) (records 4 trace)).state

    split : Split p (kinds tree) phs
    split =
        let either = admitted_policy w p tree ready.started in
        always_split p either (kinds tree) frame.some frame.shape w (records 4 trace)

    -- The run list can be written,
    listable : Listable p (kinds tree) labels firsts ended.phases (length list)
    listable =
        let many = so.phased.phases in
        record {
          phs = phs;
          split = split;
          shown = so.phased.shown;
          many = many;
          few = so.phased.few;
          begins = λ k h. so.phased.begins k (omega arith);
          fits = ready.fits;
        }

    -- by the labels lent again,
    pub done-asked : (lent : List ℕ) → lent ≡ labels
        → ((length lent ≡ length (kinds tree)) × (length firsts ≡ most_phases))
        × Listable p (kinds tree) lent firsts ended.phases (length list)
    done-asked lent same = rw same (so.sizes, listable)

    -- and is the rules'.
    done-list : listed p (kinds tree) labels firsts ended.phases ≡ run_list p (kinds tree) phs
    done-list =
        let shown = so.phased.shown in
        rw so.phased.phases (listed-is p (kinds tree) frame.some frame.shape phs split labels shown firsts so.phased.begins)

    -- The phases share the whole tree, so what its classes weigh are their loads.
    pub done-outcome : {full : Bool} → full ≡ false → (lent : List ℕ) → lent ≡ labels → (out charges : List ℕ)
        → out ≡ written (entry_bytes (listed p (kinds tree) lent firsts ended.phases)) list
        → charges ≡ classes_before (classes tree) (weights tree) (length (kinds tree))
        → Outcome full w p tree trace list (Ok ended) out charges
    unfolding refused_if accepted
    done-outcome {full} room lent same out charges g charged =
        let decides = unless_passes full verdict none in
        let whole = split-whole p (kinds tree) frame.some frame.shape phs split in
        record {
          verdict = rw (decides, room) refl;
          same = tt;
          listed = record {
            phases = so.phased.phases;
            loaded = so.phased.loaded;
            listed = g ∙ rw (same, done-list) refl;
            classed = charged ∙ sym (classes_are (kinds tree) (classes tree) (weights tree) phs whole);
          };
        }
