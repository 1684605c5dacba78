-- A policy, a worker count and a tree, judged: each answer in the terms of the code, and what it says of the start of a run, of a
-- recording and of a replay.
use Rattle.std.specs.Prelude.{ℕ, ◌≤◌, ◌<◌, ◌≡◌, not, List, [], ◌∷◌, ◌⊎◌, length, eqb}
use Rattle.std.proofs.Math.Path.{refl}
use Rattle.std.proofs.Common.{sym, ap, ◌∙◌, inl, inr, arith}
use Rattle.std.proofs.Math.Bool.{or-true}
use Rattle.std.proofs.Math.Decide.{ℕ_discrete}
use borrow.Author.Tests.{eq-eqb, ne_eqb, le-leb, lt-leb}
use Rattle.rules.specs.Bytes.{Verdict, accepted, refused_if, first_refused}
use Rattle.rules.specs.Tree.{kinds, tree_records, tree_walk, wrong_length, tree_verdict}
use Rattle.rules.specs.Calls.{policy_verdict, count_verdict, start_verdict}
use Rattle.tree.specs.Contract.{Accepted, acceptance}
use Rattle.tree.specs.Laws.Verdicts.{first_position}
use Rattle.tree_scan.specs.Laws.Starts.{start-tree-accepts}
use Rattle.tree_scan.specs.Laws.Frames.{accepted-frame}
use Rattle.arguments.specs.Terms.{start_judged, refusal}

-- One condition alone decides.
alone : (v : Verdict) → (v.number ≡ 0 → v.position ≡ 0) → first_refused (v ∷ []) ≡ v
unfolding first_refused accepted
alone v named =
    elim (ℕ_discrete v.number 0) [
      | yes z ↦ rw (eq-eqb v.number 0 z) (λ k. record { number = sym z k; position = sym (named z) k })
      | no n ↦ rw (ne_eqb v.number 0 n) refl
    ]

tree_position : (tree : List ℕ) → (tree_verdict tree).number ≡ 0 → (tree_verdict tree).position ≡ 0
unfolding tree_verdict
tree_position tree e =
    first_position
    (refused_if (wrong_length tree) 2 0
    ∷ (tree_walk tree).verdict
    ∷ refused_if (not (eqb (tree_walk tree).state 0)) 5 (length (tree_records tree))
    ∷ [])
    e

-- ---- the count

pub count_outside : (w : ℕ) → (w < 1) ⊎ (16 < w) → count_verdict w ≡ record { number = 16; position = 0 }
unfolding count_verdict refused_if
count_outside w (inl few) = rw (lt-leb 1 w few) refl
count_outside w (inr many) = rw (le-leb 1 w (omega arith), lt-leb w 16 many) refl

pub count_within : (w : ℕ) → 1 ≤ w → w ≤ 16 → count_verdict w ≡ accepted
unfolding count_verdict refused_if
count_within w some-worker few = rw (le-leb 1 w some-worker, le-leb w 16 few) refl

-- ---- each answer

module _ (w p : ℕ) (tree : List ℕ) where
  pub start_policy : (p ≡ 1 → ⊥) → (p ≡ 2 → ⊥) → refusal 1 ≡ start_judged w p tree
  unfolding start_judged start_verdict policy_verdict first_refused refused_if
  start_policy n m = rw (ne_eqb p 1 n, ne_eqb p 2 m) refl

  -- The policy is one of the two, so the count decides,
  module _ (one_of_lem : (1 ≤ p) × (p ≤ 2)) where
    by_count : start_verdict w p tree ≡ first_refused (count_verdict w ∷ tree_verdict tree ∷ [])
    unfolding start_verdict policy_verdict first_refused refused_if accepted
    by_count =
        elim (ℕ_discrete p 1) [
          | yes e ↦ rw (eq-eqb p 1 e) refl
          | no n ↦ rw (eq-eqb p 2 (omega arith), or-true (eqb p 1)) refl
        ]

    pub start-count : (w < 1) ⊎ (16 < w) → refusal 16 ≡ start_judged w p tree
    unfolding start_judged first_refused
    start-count out = rw (by_count, count_outside w out) refl

    -- and it is from 1 to 16, so the tree does.
    module _ (few : (1 ≤ w) × (w ≤ 16)) where
      pub by-tree : start_verdict w p tree ≡ first_refused (tree_verdict tree ∷ [])
      unfolding first_refused accepted
      by-tree = by_count ∙ rw (count_within w few.0 few.1) refl

      pub start-tree : (r : Accepted) → r ≡ acceptance tree → r ≡ start_judged w p tree
      unfolding start_judged acceptance
      start-tree r e = rw (by-tree, alone (tree_verdict tree) (tree_position tree)) e

-- For the search of a proof: behind a policy and a count that are fine, the tree decides.
pub ruleset by_tree_laws = start-tree

-- ---- what the answer says

-- The start's verdict is the rules'.
pub start_judged_lem : (w p : ℕ) (tree : List ℕ) (a : Accepted) → a ≡ start_judged w p tree
    → ◌≡◌ {A = Verdict} (record { number = a.number; position = a.position }) (start_verdict w p tree)
unfolding start_judged
start_judged_lem w p tree a e = ap {B = Verdict} (λ (x : Accepted). record { number = x.number; position = x.position }) e

-- What is known once the start is accepted: n is the count of steps.
pub record Begun (w p : ℕ) (tree : List ℕ) (n : ℕ) : Type 0 where
  pub fine : (start_verdict w p tree).number ≡ 0
  pub steps : n ≡ length (kinds tree)

pub start-begins : (w p : ℕ) (tree : List ℕ) (a : Accepted) → a ≡ start_judged w p tree → a.number ≡ 0 → Begun w p tree a.steps
unfolding start_judged
start-begins w p tree a e z =
    let fine = sym (ap (λ (v : Verdict). v.number) (start_judged_lem w p tree a e)) ∙ z in
    record {
      fine = fine;
      steps = ap (λ (x : Accepted). x.steps) e ∙ rw (eq-eqb (start_verdict w p tree).number 0 fine) refl;
    }

-- The tree has some steps, and not too many.
pub begun_steps : {w p : ℕ} {tree : List ℕ} {n : ℕ} → Begun w p tree n → (1 ≤ n) × (n ≤ 4095)
begun_steps {w} {p} {tree} begun =
    let frame = accepted-frame tree (start-tree-accepts w p tree begun.fine) in
    rw begun.steps (frame.some, frame.most)
