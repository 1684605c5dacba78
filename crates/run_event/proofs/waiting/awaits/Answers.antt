-- A step waits only for the finish child that ends just before it, and the steps of that child and of its descendants are those from the
-- child's first to before the step.
use Rattle.std.proofs.Common.{sym, ◌∙◌, refl}
use Rattle.rules.specs.Tree.{kinds}
use Rattle.tree.specs.Steps.{maybe_step}
use Rattle.run_spec.proofs.Laws.Waiting.{awaits-found, awaits-nothing}
use Rattle.run_event.proofs.waiting.awaits.Goals as goal

pub returns-in-Some : goal.returns-in-Some
returns-in-Some c =
    let found = awaits-found (kinds c.args.tree.now) c.args.place.now _ _ (sym c.finish_by.ensures ∙ c.in-Some.is) in
    rw (← found) c.last_unrun.ensures

pub returns-in-None : goal.returns-in-None
unfolding maybe_step
returns-in-None c =
    let nothing = awaits-nothing (kinds c.args.tree.now) c.args.place.now _ (sym c.finish_by.ensures ∙ c.in-None.is) in
    rw (← nothing) refl
