-- Each return of the code beside the whole call: the refusals, and what an accepted call answers and leaves.
use Rattle.std.specs.Prelude.{ℕ, ◌≡◌, refl, Bool, List, length, Result, Ok, Err}
use Rattle.std.proofs.Common.{ap, sym, arith}
use Rattle.rules.specs.Bytes.{Verdict, accepted}
use Rattle.rules.specs.Tree.{kinds, classes, weights}
use Rattle.rules.specs.Scheduling.{most_workers, Phase}
use Rattle.rules.specs.Traces.{loads, heaviest, class_loads}
use Rattle.rules.specs.Calls.{replay_of, replay_refused, Replayed as Call}
use Rattle.refusals.specs.declared.Refused.{Refused}
use Rattle.refusals.specs.Numbers.{number_of}
use Rattle.refusals.specs.Laws.Numbers.{number-some}
use Rattle.tree.specs.Contract.{Accepted}
use Rattle.arguments.specs.Terms.{replay_judged}
use Rattle.loads.specs.declared.Totals.{Totals}
use Rattle.loads.specs.Terms.{totals_of}
use Rattle.replay_walk.specs.declared.Ended.{Ended}
use Rattle.replay.specs.declared.Replayed.{Replayed}
use Rattle.replay.specs.Terms.{replay_unless}
use Rattle.replay.specs.Body.Terms.{Outcome}
use Rattle.replay.specs.Contract.{answers, answers_of}
use Rattle.replay.specs.Laws.Cases.{replay_given, walk_refused, none-refused}

-- What a return is to meet: the call's answers, and the lent list as it leaves it.
abbrev pub Meets : Call → Result Replayed Refused → List ℕ → Type 0
Meets call r list = (answers_of r ≡ answers call) × (list ≡ call.list)

-- A refusal in the terms of the rules.
abbrev told : Refused → Verdict
told e = record { number = number_of e.refusal; position = e.position }

-- No refusal's number is 0.
some : (e : Refused) → (told e).number ≡ 0 → ⊥
some e z = omega (arith, number-some e.refusal)

-- A refusal: the list is as it was.
refusal_meets : (e : Refused) (list : List ℕ) (call : Call) → call ≡ replay_refused (told e) list → Meets call (Err e) list
unfolding replay_refused answers
refusal_meets e list call is = rw is (refl, refl)

-- The answers on phases, by their count and their loads.
phase_answers : (p : ℕ) (tree : List ℕ) (phs : List Phase) (list : List ℕ) (many : ℕ) (ls by_class : List ℕ) → many ≡ length phs
    → ls ≡ loads most_workers (kinds tree) (weights tree) phs → by_class ≡ class_loads (kinds tree) (classes tree) (weights tree) phs
    → answers_of (Ok (record { phases = many; loads = ls; heaviest = heaviest ls; classes = by_class }))
    ≡ answers (replay_of p tree phs list)
unfolding answers replay_of accepted
phase_answers p tree phs list many ls by_class e f g = rw (e, f, g) refl

module _ (full : Bool) (w p : ℕ) (tree trace list : List ℕ) where
  -- The call is refused for what it is given.
  pub given-refusal : (e : Refused)
      → ◌≡◌ {A = Accepted} (record { number = number_of e.refusal; position = e.position; steps = 0 })
      (replay_judged w p tree trace (length list))
      → Meets (replay_unless full w p tree trace list) (Err e) list
  given-refusal e is = refusal_meets e list _ (replay_given w p tree trace list _ is full (some e))

  -- It is not: what the walk over the trace's records comes to, refused or not, is what the call comes to.
  module _ {n : ℕ}
      (is : ◌≡◌ {A = Accepted} (record { number = 0; position = 0; steps = n }) (replay_judged w p tree trace (length list)))
      {out charges : List ℕ} where
    pub walk-refused : (e : Refused) → Outcome full w p tree trace list (Err e) out charges
        → Meets (replay_unless full w p tree trace list) (Err e) out
    walk-refused e so =
        rw so.same (refusal_meets e list _ (walk_refused w p tree trace list _ is refl full (told e) so.verdict (some e)))

    pub walk-answered : {ended : Ended} → Outcome full w p tree trace list (Ok ended) out charges → (totals : Totals)
        → totals ≡ totals_of ended.loads charges
        → Meets (replay_unless full w p tree trace list)
        (Ok (record { phases = ended.phases; loads = totals.loads; heaviest = totals.heaviest; classes = totals.classes })) out
    unfolding totals_of replay_of
    walk-answered {ended} so totals add-up =
        let none = sym (ap (λ (v : Verdict). v.number) so.verdict) in
        let r = so.listed in
        rw (none-refused w p tree trace list _ is refl full none, add-up)
        (phase_answers p tree _ list _ _ _ r.phases r.loaded r.classed, r.listed)
