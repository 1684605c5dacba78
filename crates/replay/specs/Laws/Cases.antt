-- The whole call's verdict: that on what the call is given first, then that on the trace's records, then whether the caller
-- is full.
use Rattle.std.specs.Prelude.{ℕ, ◌*◌, ◌≡◌, refl, Bool, List, [], ◌∷◌}
use Rattle.std.proofs.Common.{sym, ◌∙◌}
use Rattle.std.proofs.Math.Path.{ap}
use Rattle.std.proofs.Math.Decide.{ℕ_discrete}
use Rattle.std.proofs.Math.ListN.{length}
use borrow.Author.Tests.{ltb-false}
use Rattle.rules.specs.Bytes.{Verdict, accepted, first_refused}
use Rattle.rules.specs.Tree.{kinds}
use Rattle.rules.specs.Calls.{replay_verdict, replay_of, replay_refused}
use Rattle.tree.specs.Contract.{Accepted}
use Rattle.tree.specs.Laws.Verdicts.{first-refuses, first_passes}
use Rattle.arguments.specs.Terms.{replay_judged}
use Rattle.arguments.specs.Laws.Cases.{given-last, given-refused, given, given-steps}
use Rattle.replay_walk.specs.Terms.{ruled}
use Rattle.replay.specs.Terms.{unless_full, replay_unless}
use Rattle.replay.specs.Body.Terms.{Admitted}
use Rattle.replay.specs.Laws.Unless.{unless_own, unless_refused, unless-accepted}

-- One condition judged alone, then others, are one list of conditions.
first_alone : (v : Verdict) (vs : List Verdict) → first_refused (first_refused (v ∷ []) ∷ vs) ≡ first_refused (v ∷ vs)
unfolding first_refused accepted
first_alone v vs =
    elim (ℕ_discrete v.number 0) [
      | yes z ↦ rw (first_passes v [] z, first_passes v vs z) refl
      | no n ↦ rw (first-refuses v [] n) refl
    ]

module _ (w p : ℕ) (tree trace list : List ℕ) (a : Accepted) (is : a ≡ replay_judged w p tree trace (length list)) where
  pub replay_given : (full : Bool) → (a.number ≡ 0 → ⊥)
      → replay_unless full w p tree trace list ≡ replay_refused (record { number = a.number; position = a.position }) list
  unfolding replay_verdict replay_judged
  replay_given full n =
      let judged = given-refused w p tree _ _ a is n _ in
      unless_refused full w p tree trace list _ (ap (unless_full full) judged ∙ unless_own full _ n) n

  module _ (z : a.number ≡ 0) where
    pub replay-ready : Admitted w p tree trace a.steps list
    unfolding replay_judged
    replay-ready =
        let g = given w p tree _ _ a is z in
        record {
          started = g.started;
          traced = g.listed;
          steps = given-steps w p tree _ _ a is z;
          fits = ltb-false (length list) (4 * length (kinds tree)) g.room;
        }

    module _ (full : Bool) where
      -- The trace's records decide, then whether the caller is full.
      by-walk : unless_full full (replay_verdict w p tree trace list) ≡ unless_full full (ruled w p tree trace).verdict
      unfolding replay_verdict replay_judged
      by-walk = ap (unless_full full) (given-last (given w p tree _ _ a is z) _) ∙ first_alone _ _

      pub walk_refused : (v : Verdict) → v ≡ unless_full full (ruled w p tree trace).verdict → (v.number ≡ 0 → ⊥)
          → replay_unless full w p tree trace list ≡ replay_refused v list
      walk_refused v e = unless_refused full w p tree trace list v (by-walk ∙ sym e)

      pub none-refused : (unless_full full (ruled w p tree trace).verdict).number ≡ 0
          → replay_unless full w p tree trace list ≡ replay_of p tree (ruled w p tree trace).state list
      none-refused e = unless-accepted full w p tree trace list (ap (λ (v : Verdict). v.number) by-walk ∙ e)
