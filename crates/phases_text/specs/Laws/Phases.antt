-- The whole text: what is printed of a refused and of an accepted replay.
use Rattle.std.specs.Prelude.{ℕ, ◌-◌, ◌*◌, ◌≤◌, ◌<◌, min, ◌≡◌, Bool, true, false, cond, take, drop, replicate, eqb}
use Rattle.std.proofs.Math.Path.{refl, sym, ap}
use Rattle.std.proofs.Common.{◌∙◌, arith, take_all}
use mathlib.Core.List.{List, [], ◌++◌}
use Rattle.std.proofs.Math.Decide.{dec_le}
use Rattle.std.proofs.Math.ListN.{length, length-replicate}
use borrow.Author.Tests.{eq-eqb, ne_eqb, lt-ltb, le-ltb}
use Rattle.rules.specs.Scheduling.{most_workers}
use Rattle.rules.specs.Bytes.{Verdict}
use Rattle.rules.specs.Tree.{most_steps, kinds}
use Rattle.rules.specs.Traces.{entry_bytes}
use Rattle.rules.specs.Calls.{written, replay_verdict, replay_of, replay_refused, replay_call, Replayed as Call}
use Rattle.rules.specs.Program.{input_policy, input_tree, input_trace, heading, phase_lines, refused_line, phases_text, most_input, printed}
use Rattle.replay_invariant.specs.Splits.{phases_of}
use Rattle.replay_invariant.proofs.Laws.Verdicts.{call_accepted, call_refused, call_number}
use Rattle.replay_invariant.proofs.Laws.Consequences.{replay_starts_lem}
use Rattle.replay_invariant.proofs.Laws.Entries.{run_of, listed_room}
use Rattle.replay.specs.Contract.{Answers, answers}
use Rattle.phases_text.specs.Contract.{most_text, text_for}
use Rattle.phases_text.specs.Report.Terms.{refusal_text}
use Rattle.phases_text.specs.Line.Terms.{lines_of, Phased}
use Rattle.phases_text.specs.Input.Terms.{Parts}
use Rattle.phases_text.specs.Laws.Verdicts.{start_steps, same_verdict}
use Rattle.phases_text.specs.Laws.Lists.{listed_lines, listed-phases}

-- What is known once replay is called: what it answers, and what it leaves in the run list that it is lent.
pub record Called (input : List ℕ) (r : Answers) (out : List ℕ) : Type 0 where
  pub list : List ℕ
  pub room : length list ≡ 4 * most_steps
  pub answered : r ≡ answers (replay_call most_workers (input_policy input) (input_tree input) (input_trace input) list)
  pub left : out ≡ (replay_call most_workers (input_policy input) (input_tree input) (input_trace input) list).list

pub parts_called : {input : List ℕ} {policy start end : ℕ} → Parts input policy start end
    → (list : List ℕ) (r : Answers) (out : List ℕ)
    → let call = replay_call most_workers policy (take (end - start) (drop start input)) (take (length input - end) (drop end input)) list in
    r ≡ answers call → out ≡ call.list → length list ≡ 4 * most_steps → Called input r out
parts_called {input} {policy} {start} {end} parts list r out a l room =
    record {
      list = list;
      room = room;
      answered = rw (parts.policy_is, parts.tree_is, parts.trace_is) at a;
      left = rw (parts.policy_is, parts.tree_is, parts.trace_is) at l;
    }

module _ {input : List ℕ} {r : Answers} {out : List ℕ} (called : Called input r out) where
  abbrev list : List ℕ
  list = called.list

  abbrev p : ℕ
  p = input_policy input

  abbrev tree : List ℕ
  tree = input_tree input

  abbrev trace : List ℕ
  trace = input_trace input

  verdict : Verdict
  verdict = replay_verdict most_workers p tree trace list

  -- The rules' run list has room too.
  same : replay_verdict most_workers p tree trace (replicate (4 * length (kinds tree)) 0) ≡ verdict
  unfolding verdict
  same =
      same_verdict most_workers p tree trace (replicate (4 * length (kinds tree)) 0) list
      (λ z. omega (arith, length-replicate {A = ℕ} (4 * length (kinds tree)) 0))
      (λ z. omega (arith, start_steps most_workers p tree z, called.room))

  number : r.number ≡ verdict.number
  unfolding answers verdict
  number = ap (λ (x : Answers). x.number) called.answered ∙ call_number most_workers p tree trace list

  text_refused : (verdict.number ≡ 0 → ⊥) → phases_text input ≡ refused_line verdict
  unfolding phases_text
  text_refused n = rw (same, ne_eqb verdict.number 0 n) refl

  text_accepted : verdict.number ≡ 0
      → phases_text input ≡ heading ++ phase_lines (phases_of most_workers p tree trace) (run_of most_workers p tree trace)
  unfolding phases_text phases_of
  text_accepted z = rw (same, eq-eqb verdict.number 0 z) refl

  -- A refused replay's text.
  pub called_refused : (r.number ≡ 0 → ⊥) → refusal_text r.number r.position ≡ phases_text input
  unfolding refusal_text answers replay_refused verdict
  called_refused n =
      let refused : verdict.number ≡ 0 → ⊥ = λ z. n (number ∙ z) in
      let is = called.answered ∙ ap {B = Answers} answers (call_refused most_workers p tree trace list refused) in
      ap (λ (x : Answers). refusal_text x.number x.position) is ∙ sym (text_refused refused)

  -- An accepted replay's.
  module _ (none : r.number ≡ 0) where
    fine : verdict.number ≡ 0
    fine = sym number ∙ none

    out-is : out ≡ written (entry_bytes (run_of most_workers p tree trace)) list
    unfolding verdict replay_of phases_of
    out-is = called.left ∙ ap (λ (c : Call). c.list) (call_accepted most_workers p tree trace list fine)

    pub called-steps : length (kinds (input_tree input)) ≤ most_steps
    unfolding verdict
    called-steps = start_steps most_workers p tree (replay_starts_lem most_workers p tree trace list fine)

    pub called-room : 4 * length (kinds (input_tree input)) ≤ length out
    unfolding verdict
    called-room = rw out-is (listed_room most_workers p tree trace list fine)

    pub called-phases : Phased (input_trace input) out (length (kinds (input_tree input)))
    unfolding verdict
    called-phases = rw out-is (listed-phases most_workers p tree trace list fine)

    pub called-listed : heading ++ lines_of (input_trace input) out (length (kinds (input_tree input))) ≡ phases_text input
    unfolding verdict
    called-listed =
        rw out-is (ap (λ (l : List ℕ). heading ++ l) (listed_lines most_workers p tree trace list fine)) ∙ sym (text_accepted fine)

-- ---- what is written to a buffer

pub text_short : (room : ℕ) (input : List ℕ) → room < most_text → [] ≡ text_for room input
unfolding text_for
text_short room input h = rw (lt-ltb room most_text h) refl

-- The first bytes of an input, as the code cuts them.
first-bytes : (most end : ℕ) (input : List ℕ) → end ≡ min most (length input) → take end input ≡ take most input
first-bytes most end input e =
    elim (dec_le most (length input)) [
      | yes l ↦
          let all : end ≡ most = omega arith in
          rw all refl
      | no n ↦ take_all end input (omega arith) ∙ sym (take_all most input (omega arith))
    ]

pub text_whole : (room end : ℕ) (input : List ℕ) → most_text ≤ room → end ≡ min most_input (length input)
    → phases_text (take end input) ≡ text_for room input
unfolding text_for printed
text_whole room end input h e = rw (le-ltb room most_text h, first-bytes most_input end input e) refl

-- No text is empty.
some : (b : Bool) (lines : List ℕ) (refusal : Verdict) → 0 < length (cond b (heading ++ lines) (refused_line refusal))
unfolding heading refused_line
some true lines refusal = omega arith
some false lines refusal = omega arith

printed-some : (input : List ℕ) → 0 < length (phases_text input)
unfolding phases_text
printed-some input =
    let tree = input_tree input in
    let refusal = replay_verdict most_workers (input_policy input) tree (input_trace input) (replicate (4 * length (kinds tree)) 0) in
    some (eqb refusal.number 0) _ refusal

pub text_some : (room : ℕ) (input : List ℕ) → most_text ≤ room → 0 < length (text_for room input)
unfolding text_for printed
text_some room input h = rw (le-ltb room most_text h) (printed-some (take most_input input))
