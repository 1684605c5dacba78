-- The parts of an input, as the code takes them: policy, tree and trace.
use Rattle.std.specs.Prelude.{ℕ, ◌+◌, ◌-◌, ◌*◌, min, ◌≡◌, refl, List, [], length, take, drop, get_or}
use Rattle.std.proofs.Common.{sym, ◌∙◌, arith, length-drop, drop_of_length-le, take_all, drop-drop}
use Rattle.std.proofs.Math.Decide.{dec_le}
use Rattle.std.proofs.Math.Seq.{take-nil}
use Rattle.rules.specs.Program.{input_policy, input_count, input_tree, input_trace}
use Rattle.phases_text.specs.Input.Terms.{Parts}

module _ (input : List ℕ) (n start end : ℕ) (s : start ≡ min 3 (length input)) (e : end ≡ min (3 + 8 * n) (length input)) where
  tree-by : take (end - start) (drop start input) ≡ take (8 * n) (drop 3 input)
  tree-by =
      elim (dec_le (length input) 3) [
        | yes l ↦
            let none : drop start input ≡ [] = drop_of_length-le input {i = start} (omega arith) in
            let past : drop 3 input ≡ [] = drop_of_length-le input {i = 3} l in
            rw (none, past) (take-nil (end - start) ∙ sym (take-nil (8 * n)))
        | no m ↦
            let at : start ≡ 3 = omega arith in
            elim (dec_le (3 + 8 * n) (length input)) [
              | yes l ↦
                  let many : end - start ≡ 8 * n = omega arith in
                  rw (many, at) refl
              | no k ↦
                  let left = length-drop 3 input in
                  rw at
                  (take_all (end - 3) (drop 3 input) (omega arith) ∙ sym (take_all (8 * n) (drop 3 input) (omega arith)))
            ]
      ]

  trace_by : take (length input - end) (drop end input) ≡ drop (8 * n) (drop 3 input)
  trace_by =
      elim (dec_le (3 + 8 * n) (length input)) [
        | yes l ↦
            let at : end ≡ 3 + 8 * n = omega arith in
            rw (drop-drop (8 * n) 3 input, at)
            (take_all (length input - (3 + 8 * n)) (drop (3 + 8 * n) input) (omega (arith, length-drop (3 + 8 * n) input)))
        | no k ↦
            let none : drop end input ≡ [] = drop_of_length-le input {i = end} (omega arith) in
            let past : drop (3 + 8 * n) input ≡ [] = drop_of_length-le input {i = 3 + 8 * n} (omega arith) in
            rw (drop-drop (8 * n) 3 input, none, past, take-nil) refl
      ]

-- A policy, and a tree of n records between two places.
pub input_parts : (input : List ℕ) (policy n start end : ℕ) → policy ≡ get_or input 0 0 → n ≡ get_or input 1 0 + 256 * get_or input 2 0
    → start ≡ min 3 (length input) → end ≡ min (3 + 8 * n) (length input) → Parts input policy start end
unfolding input_policy input_count input_tree input_trace
input_parts input policy n start end p many s e =
    let count = get_or input 1 0 + 256 * get_or input 2 0 in
    let at : end ≡ min (3 + 8 * count) (length input) = rw many at e in
    record {
      policy_is = p;
      ordered = omega arith;
      within = omega arith;
      tree_is = tree-by input count start end s at;
      trace_is = trace_by input count start end s at;
    }
