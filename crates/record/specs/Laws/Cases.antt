-- The whole call's verdict: that on what the call is given first, then that on the events.
use Rattle.std.specs.Prelude.{ℕ, ◌-◌, ◌*◌, ◌≡◌, List, [], ◌∷◌, length, ltb}
use Rattle.std.proofs.Math.Path.{refl}
use Rattle.std.proofs.Common.{◌∙◌}
use borrow.Author.Tests.{eq-eqb, ne_eqb, ltb-false}
use Rattle.rules.specs.Bytes.{records, whole_records, Verdict, accepted, first_refused}
use Rattle.rules.specs.Tree.{kinds}
use Rattle.rules.specs.Calls.{most_events, start_verdict, record_walk, record_verdict, record_of, record_refused, record_call}
use Rattle.tree.specs.Contract.{Accepted}
use Rattle.tree.specs.Laws.Verdicts.{or_none, first-accepts}
use Rattle.arguments.specs.Terms.{too_short, record_judged}
use Rattle.arguments.specs.Laws.Cases.{Given, given-last, given-refused, given}
use Rattle.record.specs.Body.Terms.{Admitted}

-- ---- the verdict

module _ (w p : ℕ) (tree events log trace : List ℕ) where
  -- An accepted call has accepted its start and its events.
  pub accepts-both : (record_verdict w p tree events log trace).number ≡ 0
      → ((start_verdict w p tree).number ≡ 0) × ((record_walk w p (kinds tree) (records 2 events)).verdict.number ≡ 0)
  unfolding record_verdict
  accepts-both e =
      let first = first-accepts _ _ e in
      (first.0, (first-accepts _ _ (first-accepts _ _ (first-accepts _ _ first.1).1).1).0)

  -- The answer that an accepted call makes.
  pub by-accepted : (record_verdict w p tree events log trace).number ≡ 0
      → record_of p tree (record_walk w p (kinds tree) (records 2 events)).state log trace ≡ record_call w p tree events log trace
  unfolding record_call
  by-accepted e = rw (eq-eqb (record_verdict w p tree events log trace).number 0 e) refl

-- ---- the answers

-- The call is not refused for what it is given.
abbrev pub Ready : ℕ → ℕ → List ℕ → List ℕ → List ℕ → List ℕ → Type 0
Ready w p tree events log trace =
    Given w p tree (whole_records 2 most_events events) (too_short (length (kinds tree)) (length log) (length trace))

-- A call that is not refused for what it is given has room in log and trace.
pub ready_admitted : {w p : ℕ} {tree log trace : List ℕ} (events : List ℕ) → Ready w p tree events log trace → Admitted w p tree log trace
unfolding too_short
ready_admitted {w} {p} {tree} {log} {trace} events ready =
    let n = length (kinds tree) in
    let both = or_none (ltb (length log) (4 * n)) (ltb (length trace) (2 * (n - 1))) ready.room in
    record {
      started = ready.started;
      log_fits = ltb-false (length log) (4 * n) both.0;
      trace_fits = ltb-false (length trace) (2 * (n - 1)) both.1;
    }

module _ (w p : ℕ) (tree events log trace : List ℕ) where
  -- The answer that a refusal makes.
  by-refused : (v : Verdict) → record_verdict w p tree events log trace ≡ v → (v.number ≡ 0 → ⊥)
      → record_refused v log trace ≡ record_call w p tree events log trace
  unfolding record_call
  by-refused v e n = rw (e, ne_eqb v.number 0 n) refl

  module _ (a : Accepted) (is : a ≡ record_judged w p tree events (length log) (length trace)) where
    pub record-given : (a.number ≡ 0 → ⊥)
        → record_refused (record { number = a.number; position = a.position }) log trace
        ≡ record_call w p tree events log trace
    unfolding record_verdict record_judged too_short
    record-given n = by-refused _ (given-refused w p tree _ _ a is n _) n

    pub record-ready : a.number ≡ 0 → Ready w p tree events log trace
    unfolding record_judged
    record-ready z = given w p tree _ _ a is z

  module _ (ready : Ready w p tree events log trace) where
    -- The events decide.
    by-walk : record_verdict w p tree events log trace
        ≡ first_refused ((record_walk w p (kinds tree) (records 2 events)).verdict ∷ [])
    unfolding record_verdict too_short
    by-walk = given-last ready _

    pub record-event : (v : Verdict) → v ≡ (record_walk w p (kinds tree) (records 2 events)).verdict → (v.number ≡ 0 → ⊥)
        → record_refused v log trace ≡ record_call w p tree events log trace
    unfolding first_refused
    record-event v e n = by-refused v (by-walk ∙ rw (← e, ne_eqb v.number 0 n) refl) n

    pub record-all : (record_walk w p (kinds tree) (records 2 events)).verdict.number ≡ 0
        → record_of p tree (record_walk w p (kinds tree) (records 2 events)).state log trace
        ≡ record_call w p tree events log trace
    unfolding first_refused accepted
    record-all e =
        by-accepted w p tree events log trace
        (rw (by-walk, eq-eqb (record_walk w p (kinds tree) (records 2 events)).verdict.number 0 e) refl)
