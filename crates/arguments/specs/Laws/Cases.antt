-- The code's answer on what a call is given, and what that answer says of the whole call, in which the verdict on the call's records
-- follows. Each law serves recording and replay: `whole` is whether the records are whole and not too many, `short` whether a lent
-- output is short.
use Rattle.std.specs.Prelude.{ℕ, ◌≤◌, ◌≡◌, Bool, not, length}
use Rattle.std.proofs.Math.Path.{refl, ap}
use Rattle.std.proofs.Common.{sym, ◌∙◌, arith}
use Rattle.std.proofs.Math.Bool.{true, false}
use mathlib.Core.List.{List, [], ◌∷◌}
use Rattle.std.proofs.Math.Decide.{ℕ_discrete}
use borrow.Author.Tests.{eq-eqb, ne_eqb}
use Rattle.rules.specs.Bytes.{Verdict, accepted, refused_if, first_refused}
use Rattle.rules.specs.Tree.{kinds}
use Rattle.rules.specs.Calls.{start_verdict}
use Rattle.tree.specs.Contract.{Accepted}
use Rattle.tree.specs.Laws.Verdicts.{first-accepts}
use Rattle.arguments.specs.Terms.{start_judged}
use Rattle.tree_scan.specs.Laws.Starts.{admitted_position}
use Rattle.arguments.specs.Laws.Starts.{start_judged_lem, start-begins, begun_steps}
use Rattle.arguments.specs.Terms.{given_verdict, given_judged, judged}

-- ---- the code's answer

module _ (w p : ℕ) (tree : List ℕ) where
  -- The start is accepted.
  past_start : (start_verdict w p tree).number ≡ 0 → (whole short : Bool)
      → judged (start_judged w p tree) whole short ≡ given_judged w p tree whole short
  unfolding judged start_judged given_judged given_verdict first_refused refused_if accepted
  past_start z true true = rw (eq-eqb (start_verdict w p tree).number 0 z) refl
  past_start z true false = rw (eq-eqb (start_verdict w p tree).number 0 z, z, admitted_position w p tree z) refl
  past_start z false short = rw (eq-eqb (start_verdict w p tree).number 0 z) refl

  -- It is refused, whatever the other tests say.
  at-start : ((start_verdict w p tree).number ≡ 0 → ⊥) → (whole short other : Bool)
      → judged (start_judged w p tree) whole short ≡ given_judged w p tree whole other
  unfolding judged start_judged given_judged given_verdict first_refused
  at-start n whole short other =
      let no = ne_eqb (start_verdict w p tree).number 0 n in
      rw (no, no) refl

  module _ (a : Accepted) (is : a ≡ start_judged w p tree) where
    numbered : (start_verdict w p tree).number ≡ a.number
    numbered = sym (ap (λ (v : Verdict). v.number) (start_judged_lem w p tree a is))

    -- Not too many steps: none where the start is refused.
    pub few-steps : a.steps ≤ 4095
    unfolding start_judged
    few-steps =
        elim (ℕ_discrete a.number 0) [
          | yes z ↦ (begun_steps (start-begins w p tree a is z)).1
          | no n ↦ omega (arith, rw (numbered, ne_eqb a.number 0 n) at (ap (λ (x : Accepted). x.steps) is))
        ]

    -- The answer, where the lent outputs are judged by the count of steps.
    pub judged-is : (whole : Bool) (short : ℕ → Bool)
        → judged a whole (short a.steps) ≡ given_judged w p tree whole (short (length (kinds tree)))
    judged-is whole short =
        elim (ℕ_discrete a.number 0) [
          | yes z ↦
              let begun = start-begins w p tree a is z in
              ap (λ (n : ℕ). judged a whole (short n)) begun.steps ∙ rw is (past_start begun.fine whole _)
          | no n ↦ rw is (at-start (λ z. n (sym numbered ∙ z)) whole _ _)
        ]

    -- A refused start refuses the call, whatever else is asked.
    pub refused-is : (a.number ≡ 0 → ⊥) → (whole : Bool) (short : ℕ → Bool)
        → a ≡ given_judged w p tree whole (short (length (kinds tree)))
    unfolding judged
    refused-is n whole short = rw (ne_eqb a.number 0 n) at (judged-is whole short)

-- ---- the whole call

-- The verdict on a whole call: on what it is given, then on its records.
abbrev pub call_verdict : ℕ → ℕ → List ℕ → Bool → Bool → Verdict → Verdict
call_verdict w p tree whole short last =
    first_refused (start_verdict w p tree ∷ refused_if (not whole) 6 0 ∷ refused_if short 7 0 ∷ last ∷ [])

-- What is known where the call is not refused for what it is given.
pub record Given (w p : ℕ) (tree : List ℕ) (whole short : Bool) : Type 0 where
  pub started : (start_verdict w p tree).number ≡ 0
  pub listed : whole ≡ true
  pub room : short ≡ false

-- Then the verdict on the records decides.
pub given-last : {w p : ℕ} {tree : List ℕ} {whole short : Bool} → Given w p tree whole short → (last : Verdict)
    → call_verdict w p tree whole short last ≡ first_refused (last ∷ [])
unfolding first_refused refused_if accepted
given-last {w} {p} {tree} g last = rw (eq-eqb (start_verdict w p tree).number 0 g.started, g.listed, g.room) refl

-- Whether one of them refuses.
module _ (w p : ℕ) (tree : List ℕ) where
  none-refused : (whole short : Bool) → (given_verdict w p tree whole short).number ≡ 0 → Given w p tree whole short
  unfolding given_verdict first_refused refused_if accepted
  none-refused true false z = record { started = (first-accepts (start_verdict w p tree) [] z).0; listed = refl; room = refl }
  none-refused true true z =
      absurd (omega (arith, (first-accepts (start_verdict w p tree) (record { number = 7; position = 0 } ∷ []) z).1))
  none-refused false short z =
      absurd (omega (arith, (first-accepts (start_verdict w p tree) (record { number = 6; position = 0 } ∷ []) z).1))

  one-refused : (whole short : Bool) → ((given_verdict w p tree whole short).number ≡ 0 → ⊥) → (last : Verdict)
      → call_verdict w p tree whole short last ≡ given_verdict w p tree whole short
  unfolding given_verdict first_refused refused_if accepted
  one-refused true true n last = refl
  one-refused true false n last =
      elim (ℕ_discrete (start_verdict w p tree).number 0) [
        | yes z ↦ absurd (n (rw (eq-eqb (start_verdict w p tree).number 0 z) refl))
        | no m ↦ rw (ne_eqb (start_verdict w p tree).number 0 m) refl
      ]
  one-refused false short n last = refl

-- What the answer says.
module _ (w p : ℕ) (tree : List ℕ) (whole short : Bool) (a : Accepted) (is : a ≡ given_judged w p tree whole short) where
  told : ◌≡◌ {A = Verdict} (record { number = a.number; position = a.position }) (given_verdict w p tree whole short)
  unfolding given_judged
  told = ap {B = Verdict} (λ (x : Accepted). record { number = x.number; position = x.position }) is

  number : (given_verdict w p tree whole short).number ≡ a.number
  number = sym (ap (λ (v : Verdict). v.number) told)

  pub given-refused : (a.number ≡ 0 → ⊥) → (last : Verdict)
      → call_verdict w p tree whole short last ≡ record { number = a.number; position = a.position }
  given-refused n last = one-refused w p tree whole short (λ z. n (sym number ∙ z)) last ∙ sym told

  module _ (z : a.number ≡ 0) where
    pub given : Given w p tree whole short
    given = none-refused w p tree whole short (number ∙ z)

    pub given-steps : a.steps ≡ length (kinds tree)
    unfolding given_judged
    given-steps = ap (λ (x : Accepted). x.steps) is ∙ rw (eq-eqb (given_verdict w p tree whole short).number 0 (number ∙ z)) refl
