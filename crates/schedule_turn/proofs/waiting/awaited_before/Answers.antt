-- What is found stands from the first step of the finish child on and before `end`, which is not behind the held step, and has not run.
use Rattle.std.proofs.Common.{◌≡◌, ◌≤◌, ℕ, List, refl, arith}
use Rattle.std.specs.Prelude.{Some, None}
use Rattle.rules.specs.Tree.{kinds, finish_before}
use Rattle.tree.specs.declared.Step.{Step}
use Rattle.tree.specs.Steps.{MaybeStep, maybe_step}
use Rattle.tree.specs.Laws.Steps.{found_at}
use Rattle.tree.specs.Laws.Highest.{highest-is}
use Rattle.run_spec.specs.Deques.{unrun_mark, marked, newest_mark}
use Rattle.schedule_turn.specs.Terms.{Noted}
use Rattle.schedule_turn.proofs.waiting.awaited_before.Goals as goal

noted : (ks place : List ℕ) (i j : ℕ) (first : Step) → Some first ≡ maybe_step (finish_before ks i) → j ≤ i
    → (r : MaybeStep) → r ≡ maybe_step (newest_mark place unrun_mark first.0 j) → Noted ks place i r
noted ks place i j first child within None e = omega arith
noted ks place i j first child within (Some r) e =
    let unrun = highest-is (marked place unrun_mark) first.0 j r.0 (found_at (newest_mark place unrun_mark first.0 j) _ e r refl) in (
      record {
        first = first.0;
        child = found_at (finish_before ks i) _ child first refl;
        from = unrun.from;
        before = omega (arith, unrun.before);
      },
      unrun.passes,
    )

pub returns : goal.returns
returns c =
    let a = c.args in
    noted (kinds a.tree.now) a.place.now a.step.0 a.end.0 c.in_ok-first.first c.in_ok-first.ensures (omega arith)
    c.last_unrun.result c.last_unrun.ensures
