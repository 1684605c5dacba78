-- What accepting a tree answers, in the rules' words.
use Rattle.std.specs.Prelude.{ℕ, cond, List, length, eqb, Result, Ok, Err}
use Rattle.rules.specs.Tree.{kinds, tree_verdict}
use Rattle.refusals.specs.declared.Refused.{Refused}
use Rattle.refusals.specs.Numbers.{number_of}

-- The tree's refusal and position, or its count of steps; what is not answered is 0.
pub record Accepted : Type 0 where
  pub number : ℕ
  pub position : ℕ
  pub steps : ℕ

unfoldable pub acceptance : List ℕ → Accepted
acceptance tree =
    record {
      number = (tree_verdict tree).number;
      position = (tree_verdict tree).position;
      steps = cond (eqb (tree_verdict tree).number 0) (length (kinds tree)) 0;
    }

-- It is answered by a count or a refusal.
abbrev pub accepted_of : Result ℕ Refused → Accepted
accepted_of (Ok steps) = record { number = 0; position = 0; steps = steps }
accepted_of (Err e) = record { number = number_of e.refusal; position = e.position; steps = 0 }
