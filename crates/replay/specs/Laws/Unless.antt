-- Replay for a caller that may be full, by its verdict: a refusal, or what replay answers and leaves. For one that is not full
-- it is replay.
use Rattle.std.specs.Prelude.{ℕ, ◌≡◌, Bool, true, false, List}
use Rattle.std.proofs.Math.Path.{refl}
use Rattle.std.proofs.Common.{sym, ap, ◌∙◌, arith}
use Rattle.std.proofs.Math.Decide.{ℕ_discrete}
use borrow.Author.Tests.{eq-eqb, ne_eqb}
use Rattle.rules.specs.Bytes.{records, Verdict, accepted, refused_if, first_refused}
use Rattle.rules.specs.Tree.{kinds}
use Rattle.rules.specs.Traces.{replay_walk}
use Rattle.rules.specs.Calls.{replay_verdict, replay_of, replay_refused, replay_call}
use Rattle.tree.specs.Laws.Verdicts.{first-accepts, first-refuses}
use Rattle.replay.specs.Terms.{unless_full, replay_unless}

-- A refusal of replay's own decides;
pub unless_own : (full : Bool) (own : Verdict) → (own.number ≡ 0 → ⊥) → unless_full full own ≡ own
unless_own full own n = first-refuses own _ n

-- where there is none, whether the caller is full.
pub unless_passes : (full : Bool) (own : Verdict) → own.number ≡ 0 → unless_full full own ≡ refused_if full 17 0
unfolding first_refused refused_if accepted
unless_passes true own z = rw (eq-eqb own.number 0 z) refl
unless_passes false own z = rw (eq-eqb own.number 0 z) refl

has_room : (full : Bool) → (refused_if full 17 0).number ≡ 0 → full ≡ false
unfolding refused_if
has_room true z = absurd (omega (arith, z))
has_room false z = refl

module _ (full : Bool) (w p : ℕ) (tree trace list : List ℕ) where
  abbrev own : Verdict
  own = replay_verdict w p tree trace list

  -- There is a refusal, replay's own or 17.
  pub unless_refused : (v : Verdict) → unless_full full own ≡ v → (v.number ≡ 0 → ⊥)
      → replay_unless full w p tree trace list ≡ replay_refused v list
  unfolding replay_unless
  unless_refused v e n = rw (e, ne_eqb v.number 0 n) refl

  module _ (z : (unless_full full own).number ≡ 0) where
    -- There is none: it is what replay answers and leaves,
    pub unless-accepted : replay_unless full w p tree trace list
        ≡ replay_of p tree (replay_walk w p (kinds tree) (records 4 trace)).state list
    unfolding replay_unless
    unless-accepted = rw (eq-eqb (unless_full full own).number 0 z) refl

    -- and it has no refusal of its own, nor is the caller full.
    pub unless-room : (own.number ≡ 0) × (full ≡ false)
    unless-room =
        let passed = (first-accepts own _ z).0 in
        (passed, has_room full (sym (ap (λ (v : Verdict). v.number) (unless_passes full own passed)) ∙ z))

  -- The verdict is told, either way.
  pub unless_verdict : (replay_unless full w p tree trace list).verdict ≡ unless_full full own
  unfolding replay_of replay_refused refused_if
  unless_verdict =
      elim (ℕ_discrete (unless_full full own).number 0) [
        | yes z ↦
            let room = unless-room z in
            rw (unless-accepted z, unless_passes full own room.0, room.1) refl
        | no n ↦ rw (unless_refused _ refl n) refl
      ]

-- A caller that is not full.
pub unless_not : (w p : ℕ) (tree trace list : List ℕ) → replay_unless false w p tree trace list ≡ replay_call w p tree trace list
unfolding replay_call refused_if accepted
unless_not w p tree trace list =
    let own = replay_verdict w p tree trace list in
    elim (ℕ_discrete own.number 0) [
      | yes z ↦
          let room = ap (λ (v : Verdict). v.number) (unless_passes false own z) in
          rw (eq-eqb own.number 0 z) (unless-accepted false w p tree trace list room)
      | no n ↦ rw (ne_eqb own.number 0 n) (unless_refused false w p tree trace list own (unless_own false own n) n)
    ]
