-- The returns of the whole call: the refusals, and what an accepted call answers and leaves.
use Rattle.std.specs.Prelude.{ℕ, ◌≡◌, refl, Bool, List, length, ◌==◌, Ok, Err}
use Rattle.std.proofs.Common.{sym, ◌∙◌, arith}
use Rattle.std.proofs.Math.Path.{ap}
use Rattle.rules.specs.Bytes.{Verdict, accepted}
use Rattle.rules.specs.Tree.{kinds, classes, weights}
use Rattle.rules.specs.Scheduling.{most_workers, Run}
use Rattle.rules.specs.Traces.{loads, class_loads}
use Rattle.rules.specs.Calls.{finished, record_of, record_refused, record_call, Recorded as Call}
use Rattle.refusals.specs.declared.Refused.{Refused}
use Rattle.refusals.specs.Numbers.{number_of}
use Rattle.refusals.specs.Laws.Numbers.{number-some}
use Rattle.tree.specs.Contract.{accepted_of}
use Rattle.record_walk.specs.declared.Ended.{Ended}
use Rattle.arguments.specs.Terms.{record_judged}
use Rattle.arguments.specs.Laws.Cases.{given-steps}
use Rattle.loads.specs.declared.Totals.{Totals}
use Rattle.loads.specs.Terms.{totals_of}
use Rattle.record.specs.Body.Terms.{Answered}
use Rattle.record.specs.Contract.{Answers, answers, answers_of}
use Rattle.record.specs.Laws.Cases.{record-given, record-ready, record-event, record-all}

-- What a return is to meet: the call's answers, and the lent buffers as it leaves them.
abbrev pub Meets : Call → Answers → List ℕ → List ℕ → Type 0
Meets call r log trace = (r ≡ answers call) × ((log ≡ call.log) × (trace ≡ call.trace))

-- A refusal in the terms of the code: the buffers are as they were.
refusal_meets : (e : Refused) (log trace : List ℕ) (call : Call)
    → record_refused (record { number = number_of e.refusal; position = e.position }) log trace ≡ call
    → Meets call (answers_of (Err e)) log trace
unfolding record_refused answers
refusal_meets e log trace call is =
    (ap {B = Answers} answers is, (ap (λ (c : Call). c.log) is, ap (λ (c : Call). c.trace) is))

-- The answers on a run, by its counts, whether it has finished and its loads.
run_answers : (p : ℕ) (tree : List ℕ) (r : Run) (log trace : List ℕ) (logs steals : ℕ) (done : Bool) (ls by_class : List ℕ)
    → logs ≡ length r.log → steals ≡ length r.steals → done ≡ finished (kinds tree) r
    → ls ≡ loads most_workers (kinds tree) (weights tree) r.phases
    → by_class ≡ class_loads (kinds tree) (classes tree) (weights tree) r.phases
    → (totals : Totals) → totals ≡ totals_of ls by_class
    → answers_of (Ok (record { logs = logs; steals = steals; finished = done; totals = totals }))
    ≡ answers (record_of p tree r log trace)
unfolding answers record_of accepted totals_of
run_answers p tree r log trace logs steals done ls by_class e f g h i totals j = rw (j, e, f, g, h, i) refl

module _ (w p : ℕ) (tree events log trace : List ℕ) where
  -- The call is refused for what it is given.
  pub given-refusal : (e : Refused) → accepted_of (Err e) ≡ record_judged w p tree events (length log) (length trace)
      → Meets (record_call w p tree events log trace) (answers_of (Err e)) log trace
  given-refusal e is =
      refusal_meets e log trace _
      (record-given w p tree events log trace _ is (λ z. omega (arith, number-some e.refusal)))

  -- It is not, and the tree has so many steps.
  module _ (steps : ℕ) (is : accepted_of (Ok steps) ≡ record_judged w p tree events (length log) (length trace)) where
    -- An event is refused.
    pub event-refusal : (e : Refused) (log-out trace-out charges : List ℕ)
        → Answered w p tree events log trace (Err e) log-out trace-out charges
        → Meets (record_call w p tree events log trace) (answers_of (Err e)) log-out trace-out
    event-refusal e log-out trace-out charges so =
        let call = record-event w p tree events log trace (record-ready w p tree events log trace _ is refl) _ so.verdict
        (λ z. omega (arith, number-some e.refusal)) in
        rw (so.same.0, so.same.1) (refusal_meets e log trace _ call)

    -- Every event is accepted.
    pub all-answered : (ended : Ended) (log-out trace-out charges : List ℕ)
        → Answered w p tree events log trace (Ok ended) log-out trace-out charges
        → (totals : Totals) → totals ≡ totals_of ended.loads charges
        → Meets (record_call w p tree events log trace)
        (answers_of (Ok (record { logs = ended.logs; steals = ended.steals; finished = ended.logs == steps; totals = totals })))
        log-out trace-out
    unfolding record_of record_judged
    all-answered ended log-out trace-out charges so totals added =
        let told = so.told in
        let counted : steps ≡ length (kinds tree) = given-steps w p tree _ _ _ is refl in
        let accepts = sym (ap (λ (v : Verdict). v.number) so.verdict) in
        let all = record-all w p tree events log trace (record-ready w p tree events log trace _ is refl) accepts in (
          rw counted
              (run_answers p tree _ log trace _ _ _ _ _ told.logs told.steals told.finished told.loaded told.classed totals added)
              ∙ ap {B = Answers} answers all,
          (told.logged ∙ ap (λ (c : Call). c.log) all, told.traced ∙ ap (λ (c : Call). c.trace) all),
        )
