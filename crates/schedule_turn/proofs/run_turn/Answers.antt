-- While the step that the worker was seen to wait for has not run, the worker waits still, and so it does where a step below is found
-- that has not run. Else the call on the arrays has the rules' outcome: the worker ran its step, and the event is written; or it waits,
-- and the step that it waits for now is noted.
use Rattle.std.proofs.Common.{◌≡◌, ◌≢◌, ℕ, slice_set, Result, Ok, sym, refl, ap, ◌∙◌, arith}
use Rattle.refusals.specs.declared.Refusal.{Refusal}
use Rattle.run_spec.specs.declared.Done.{Done}
use Rattle.run_spec.specs.Outcomes.{outcome_of}
use Rattle.run_spec.specs.Running.{no_step}
use Rattle.run_refinement.proofs.Laws.Hints.{shows_hints}
use Rattle.schedule_turn.proofs.Laws.Listing.{frame, few_events}
use Rattle.schedule_turn.proofs.Laws.Turning.{still-stands, never-stole, ran-small, ran-fits, ran-stands}
use Rattle.schedule_turn.proofs.Laws.Turning.{held-most, noted-stands, passed-stands, late-held, late-stands}
use Rattle.schedule_turn.proofs.run_turn.Goals as goal

-- What a run did has one of these forms.
did : {r : Result Done Refusal} {d e : Done} → r ≡ Ok d → d ≡ e → outcome_of r ≡ outcome_of (Ok e)
did is form = ap outcome_of (is ∙ ap Ok form)

pub returns-then-unrun_still : goal.returns-then-unrun_still
returns-then-unrun_still c =
    let given = c.requires.worker in
    let still = sym c.unrun_still.ensures ∙ c.if-unrun_still.true in
    record { shown = λ lent m stands. still-stands stands _ given.0 given.1 (rw c.wide.ensures at still) }

pub awaited_before-requires : goal.awaited_before-requires
awaited_before-requires c =
    let given = c.requires.worker in
    (rw c.wide-2.ensures (held-most c.requires.standing.stands _ given.0 given.1), c.requires.openers.1)

pub returns-in-Some : goal.returns-in-Some
returns-in-Some c =
    let a = c.args in
    let given = c.requires.worker in
    let below = c.in-Some.below.0 in
    let found = rw c.wide-2.ensures at c.in-Some.ensures in
    let a-step : below ≢ no_step = omega (arith, found.0.before, held-most c.requires.standing.stands _ given.0 given.1) in
    record { shown = λ lent m stands. passed-stands stands _ given.0 given.1 below (λ n. found.0) a-step found.1 }

pub run_on-requires : goal.run_on-requires
run_on-requires c =
    let tables = c.requires in
    let standing = tables.standing in
    shows_hints _ c.args.tree.now (frame standing.stands) _ standing.making.run standing.stands.shows
    c.args.openers.now (omega (arith, tables.openers.0)) c.args.ends.now tables.ends.1 tables.openers.1

pub size_after-requires : goal.size_after-requires
size_after-requires c =
    let given = c.requires.worker in
    ran-small c.requires.standing.stands _ given.0 given.1 _ _ (c.run_on.ensures _ _) _ _ (did c.in-Ok-Ran.is c.in-Ok-Ran.field-0-is)

pub overflow_add-runs : goal.overflow_add-runs
overflow_add-runs c = omega (arith, c.wide-in-Ok-Ran.ensures, few_events c.requires.standing.stands)

pub put_event-requires : goal.put_event-requires
put_event-requires c =
    let given = c.requires.worker in
    rw c.wide-in-Ok-Ran.ensures
    (ran-fits c.requires.standing.stands _ given.0 given.1 _ _ (c.run_on.ensures _ _) _ _ (did c.in-Ok-Ran.is c.in-Ok-Ran.field-0-is))

pub overflow_add-result : goal.overflow_add-result
overflow_add-result c = omega (arith, few_events c.requires.standing.stands)

pub overflow_sub-awaited : goal.overflow_sub-awaited
overflow_sub-awaited c =
    let given = c.requires.worker in
    omega (
      arith,
      late-held c.requires.standing.stands _ given.0 given.1 _ _ (c.run_on.ensures _ _) _ (ap outcome_of c.in-Err.is),
    )

pub returns-in-Ok-Ran : goal.returns-in-Ok-Ran
returns-in-Ok-Ran c =
    let given = c.requires.worker in
    record {
      shown = λ lent m stands.
          ran-stands (noted-stands stands _ given.0 given.1 no_step (λ n. absurd (n refl))) _ given.0 given.1 _ _
          (c.run_on.ensures _ _) _ _ (did c.in-Ok-Ran.is c.in-Ok-Ran.field-0-is) _ _
          (ap (λ (x : ℕ). slice_set c.args.sizes.now c.args.worker x) c.size_after.ensures)
          (rw c.wide-in-Ok-Ran.ensures at c.put_event.ensures);
    }

pub returns-in-Ok-Stole : goal.returns-in-Ok-Stole
returns-in-Ok-Stole c =
    let given = c.requires.worker in
    record {
      shown = λ lent m stands.
          absurd (never-stole stands _ given.0 given.1 _ _ (c.run_on.ensures _ _) _ (did c.in-Ok-Stole.is c.in-Ok-Stole.field-0-is));
    }

pub returns-in-Err : goal.returns-in-Err
returns-in-Err c =
    let given = c.requires.worker in
    record {
      shown = λ lent m stands.
          late-stands (noted-stands stands _ given.0 given.1 no_step (λ n. absurd (n refl))) _ given.0 given.1 _ _
          (c.run_on.ensures _ _) _ (ap outcome_of c.in-Err.is) _ refl;
    }
