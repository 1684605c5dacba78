-- The answers of a call, and its returns: refused by the tree, for a short buffer, or accepted.
use Rattle.std.specs.Prelude.{ℕ, ◌*◌, ◌≤◌, ◌<◌, ◌≡◌, List, Err}
use Rattle.std.proofs.Math.Path.{refl, sym, ap}
use Rattle.std.proofs.Common.{◌∙◌, arith}
use Rattle.std.proofs.Math.ListN.{length}
use borrow.Author.Tests.{eq-eqb, lt-ltb, le-ltb}
use Rattle.rules.specs.Bytes.{Verdict, accepted, refused_if, first_refused}
use Rattle.rules.specs.Tree.{kinds, weights, tree_verdict}
use Rattle.rules_dag.specs.Spans.{work, lasts, span_verdict, span_of, span_refused, span_call}
use Rattle.refusals.specs.declared.Refused.{Refused}
use Rattle.refusals.specs.Laws.Numbers.{number-some}
use Rattle.tree.specs.Contract.{Accepted, acceptance, accepted_of}
use Rattle.tree.specs.Laws.Verdicts.{first-refuses}
use Rattle.tree_scan.specs.Laws.Frames.{accepted-frame}
use Rattle.dag_chain.proofs.Laws.Times.{span-lasts}
use Rattle.dag_chain.proofs.Laws.Claim.{call_accepted, call_refused}
use Rattle.dag_span.specs.Contract.{Answers, answers, answers_of}
use Rattle.dag_walk.specs.Terms.{ChainWritten}
use Rattle.dag_span.specs.Terms.{Measured, refusal}

module _ (tree lent : List ℕ) where
  -- What a return is to meet: the call's answers, and the lent buffer as it leaves it.
  abbrev pub Meets : Answers → List ℕ → Type 0
  Meets r after = (r ≡ answers (span_call tree lent)) × (after ≡ (span_call tree lent).chain)

  -- ---- an accepted call

  -- The chain is written, and the other answers are the work and what the root lasts.
  pub measured : (tree_verdict tree).number ≡ 0 → (count : ℕ) (after : List ℕ) → ChainWritten (kinds tree) (weights tree) lent count after
      → (all longest : ℕ) → all ≡ work (weights tree) → longest ≡ lasts (kinds tree) (weights tree) 0
      → Measured tree lent (record { number = 0; position = 0; work = all; span = longest; length = count }) after
  unfolding answers span_of accepted
  measured accepts count after so all longest weighs is =
      let f = accepted-frame tree accepts in
      let root = span-lasts (kinds tree) (weights tree) f.shape f.some in
      record { answered = rw (weighs, is, so.counted, ← root) refl; left = so.listed }

  -- ---- the returns

  judged-refused : (v : Verdict) → span_verdict tree lent ≡ v → (v.number ≡ 0 → ⊥) → Meets (refusal v.number v.position) lent
  unfolding span_refused answers
  judged-refused v e n =
      let call = call_refused tree lent (λ z. n (ap (λ (x : Verdict). x.number) (sym e) ∙ z)) in
      rw (call, e) (refl, refl)

  module _ (a : Accepted) (is : a ≡ acceptance tree) where
    tree_is : ◌≡◌ {A = Verdict} (record { number = a.number; position = a.position }) (tree_verdict tree)
    unfolding acceptance
    tree_is = ap {B = Verdict} (λ (x : Accepted). record { number = x.number; position = x.position }) is

    number_is : (tree_verdict tree).number ≡ a.number
    number_is = sym (ap (λ (v : Verdict). v.number) tree_is)

    pub tree-refuses : (a.number ≡ 0 → ⊥) → Meets (refusal a.number a.position) lent
    unfolding span_verdict
    tree-refuses n =
        judged-refused (record { number = a.number; position = a.position })
        (first-refuses (tree_verdict tree) _ (λ z. n (sym number_is ∙ z)) ∙ sym tree_is) n

    module _ (z : a.number ≡ 0) where
      pub tree-accepts : (tree_verdict tree).number ≡ 0
      tree-accepts = number_is ∙ z

      pub steps-are : a.steps ≡ length (kinds tree)
      unfolding acceptance
      steps-are = ap (λ (x : Accepted). x.steps) is ∙ rw (eq-eqb (tree_verdict tree).number 0 tree-accepts) refl

      pub short-refuses : length lent < 2 * length (kinds tree) → Meets (refusal 7 0) lent
      unfolding span_verdict first_refused refused_if
      short-refuses l =
          judged-refused (record { number = 7; position = 0 })
          (rw (eq-eqb (tree_verdict tree).number 0 tree-accepts, lt-ltb (length lent) (2 * length (kinds tree)) l) refl) (λ e. omega arith)

      pub measured-meets : 2 * length (kinds tree) ≤ length lent → (r : Answers) (after : List ℕ) → Measured tree lent r after
          → Meets r after
      unfolding span_verdict first_refused refused_if accepted
      measured-meets l r after m =
          let fine : (span_verdict tree lent).number ≡ 0 =
          rw (eq-eqb (tree_verdict tree).number 0 tree-accepts, le-ltb (length lent) (2 * length (kinds tree)) l) refl in
          rw (call_accepted tree lent fine) (m.answered, m.left)

  -- What refuses the tree refuses the call, and the lent buffer stays.
  module _ (e : Refused) (is : accepted_of (Err e) ≡ acceptance tree) where
    refused-meets : Meets (answers_of (Err e)) lent
    refused-meets = tree-refuses _ is (λ z. omega (arith, number-some e.refusal))

    pub refused_answers : answers_of (Err e) ≡ answers (span_call tree lent)
    refused_answers = refused-meets.0

    pub refused_stays : lent ≡ (span_call tree lent).chain
    refused_stays = refused-meets.1
