-- The returns of the call: its refusals, and what an accepted call answers and leaves.
use Rattle.std.specs.Prelude.{ℕ, ◌*◌, ◌≤◌, ◌≡◌, List, length, Err}
use Rattle.std.proofs.Math.Path.{refl}
use Rattle.std.proofs.Common.{◌∙◌, arith}
use Rattle.std.proofs.Math.Bool.{true}
use borrow.Author.Tests.{ne_eqb, ltb-false}
use Rattle.rules.specs.Bytes.{Verdict, accepted, refused_if, first_refused}
use Rattle.rules.specs.Tree.{kinds}
use Rattle.rules.specs.Calls.{start_verdict}
use Rattle.rules_schedule.specs.Schedules.{made, most_made, schedule_verdict, schedule_of, schedule_refused, schedule_call}
use Rattle.rules_schedule.specs.Schedules.{Scheduled as Call}
use Rattle.refusals.specs.declared.Refused.{Refused}
use Rattle.refusals.specs.Laws.Numbers.{number-some}
use Rattle.tree.specs.Contract.{Accepted, accepted_of}
use Rattle.arguments.specs.Terms.{list_short, schedule_judged}
use Rattle.arguments.specs.Laws.Cases.{call_verdict, given-refused, given, given-last}
use Rattle.schedule.specs.Contract.{Answers, answers, answers_of}
use Rattle.schedule.specs.Terms.{ListWritten}

-- What a return is to meet: the call's answers, and the lent list as it leaves it.
abbrev pub Meets : Call → Answers → List ℕ → Type 0
Meets call r events = (r ≡ answers call) × (events ≡ call.events)

module _ (w p : ℕ) (tree : List ℕ) (seed : ℕ) (events : List ℕ) where
  -- A schedule call has no records to judge.
  verdict_is : schedule_verdict w p tree events ≡ call_verdict w p tree true (list_short (length (kinds tree)) (length events)) accepted
  unfolding schedule_verdict list_short first_refused refused_if accepted
  verdict_is = refl

  module _ (a : Accepted) (is : a ≡ schedule_judged w p tree (length events)) where
    pub refusal_meets : (a.number ≡ 0 → ⊥)
        → Meets (schedule_call w p tree seed events) (record { number = a.number; position = a.position; events = 0 }) events
    unfolding schedule_call schedule_refused schedule_judged answers
    refusal_meets n =
        let v : Verdict = record { number = a.number; position = a.position } in
        let said : schedule_verdict w p tree events ≡ v = verdict_is ∙ given-refused w p tree true _ a is n accepted in
        rw (said, ne_eqb a.number 0 n) (refl, refl)

    module _ (z : a.number ≡ 0) where
      pub starts : (start_verdict w p tree).number ≡ 0
      unfolding schedule_judged
      starts = (given w p tree true _ a is z).started

      pub room : 2 * most_made (length (kinds tree)) ≤ length events
      unfolding schedule_judged list_short
      room = ltb-false (length events) (2 * most_made (length (kinds tree))) (given w p tree true _ a is z).room

      pub list-meets : (count : ℕ) (after : List ℕ) → ListWritten (made w p (kinds tree) seed) events count after
          → Meets (schedule_call w p tree seed events) (record { number = 0; position = 0; events = count }) after
      unfolding schedule_call schedule_of schedule_judged answers first_refused accepted
      list-meets count after so =
          let said : schedule_verdict w p tree events ≡ accepted =
          verdict_is ∙ given-last (given w p tree true _ a is z) accepted in
          rw (said, so.counted, so.listed) (refl, refl)

  -- What refuses what the call is given refuses the call, and the lent list stays.
  module _ (e : Refused) (is : accepted_of (Err e) ≡ schedule_judged w p tree (length events)) where
    refused-meets : Meets (schedule_call w p tree seed events) (answers_of (Err e)) events
    refused-meets = refusal_meets _ is (λ z. omega (arith, number-some e.refusal))

    pub refused_answers : answers_of (Err e) ≡ answers (schedule_call w p tree seed events)
    refused_answers = refused-meets.0

    pub refused_stays : events ≡ (schedule_call w p tree seed events).events
    refused_stays = refused-meets.1
