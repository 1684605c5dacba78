-- The statement, put together: the bytes that an accepted call leaves are the walk's, and the walk leads every chain of the span's weight.
use Rattle.std.specs.Prelude.{ℕ, ◌+◌, ◌*◌, ◌≤◌, ◌<◌, ◌≡◌, true, List, [], ◌∷◌, map, ◌⊎◌, take, drop}
use Rattle.std.proofs.Math.Path.{refl, sym}
use Rattle.std.proofs.Common.{◌∙◌, arith, take_at, eq-eqb, ne_eqb}
use Rattle.std.proofs.Math.Decide.{ℕ_discrete}
use Rattle.std.proofs.Math.ListN.{length}
use Rattle.rules.specs.Bytes.{little_endian, two_bytes, records}
use Rattle.rules.specs.Tree.{kinds, weights}
use Rattle.rules.specs.Calls.{written}
use Rattle.rules_dag.specs.Spans.{span, lasts, chain, chain_bytes, span_verdict, span_of, span_refused, span_call}
use Rattle.buffers.specs.Laws.Records.{wide_map, flat-length, flatten-records}
use Rattle.tree.specs.Laws.Records.{number_back, length-kinds, length-weights}
use Rattle.tree.specs.Laws.Verdicts.{first-accepts}
use Rattle.tree_scan.specs.Laws.Shape.{Inside, Shape}
use Rattle.tree_scan.specs.Laws.Frames.{Frame, end_at, size_at, end_size, accepted-frame}
use Rattle.tree_tables.specs.Terms.{weight_before}
use Rattle.dag_order.proofs.Laws.Ahead.{precedes_ahead, ahead_precedes}
use Rattle.dag_chain.specs.WorkAndSpan.{Chain, weigh, goes_before, FromStep, starts, ends, listed, WorkAndSpan}
use Rattle.dag_chain.specs.Terms.{walked, Linked}
use Rattle.dag_chain.proofs.Laws.Times.{ended, begun, ended_is, ended-most, precedes-ended, starts_with, inside-ends, inside-last}
use Rattle.dag_chain.proofs.Laws.Times.{begun-root, span-lasts}
use Rattle.dag_chain.proofs.Laws.Bounds.{linked_within, chain_bound, span-weight, weight-span, work-weight}
use Rattle.dag_chain.proofs.Laws.Walk.{Chosen, chosen}
use Rattle.dag_chain.proofs.Laws.Choice.{chain-walked}

-- ---- the bytes of a chain

-- Each step fits two bytes.
abbrev Small : List ℕ → Type 0
Small [] = Unit {0}
Small (x ∷ xs) = (x < 65536) × Small xs

steps_back : (xs : List ℕ) → Small xs → map little_endian (map two_bytes xs) ≡ xs
steps_back [] s = refl
steps_back (x ∷ xs) s = rw (number_back x s.0, steps_back xs s.1) refl

pub bytes-length : (xs : List ℕ) → length (chain_bytes xs) ≡ 2 * length xs
unfolding chain_bytes two_bytes
bytes-length xs = flat-length 2 two_bytes (λ x. refl) xs

bytes_back : (xs : List ℕ) → Small xs → map little_endian (records 2 (chain_bytes xs)) ≡ xs
unfolding chain_bytes two_bytes
bytes_back xs s = rw (flatten-records 2 (omega arith) (map two_bytes xs) (wide_map 2 two_bytes (λ x. refl) xs)) (steps_back xs s)

-- ---- chains in words and by the parts of a tree

module _ (ks ws : List ℕ) (sh : Shape (length ks) (end_at ks) (size_at ks)) where
  chain_linked : (x : ℕ) (r : List ℕ) → Chain ks (x ∷ r) → Linked ks x r
  chain_linked x [] c = c
  chain_linked x (y ∷ r) c =
      let l = chain_linked y r c.1 in
      (precedes_ahead ks sh (linked_within ks ws sh y r l) c.0, l)

  linked_chain : (x : ℕ) (r : List ℕ) → Linked ks x r → Chain ks (x ∷ r)
  linked_chain x [] l = l
  linked_chain x (y ∷ r) l =
      (ahead_precedes ks sh x y (linked_within ks ws sh y r l.1) l.0, linked_chain y r l.1)

  linked_small : (x : ℕ) (r : List ℕ) → length ks ≤ 65536 → Linked ks x r → Small (x ∷ r)
  linked_small x [] n l = (omega (arith, l), tt)
  linked_small x (y ∷ r) n l = (omega (arith, linked_within ks ws sh x (y ∷ r) l), linked_small y r n l.1)

-- ---- the call

-- By its verdict.
module _ (tree lent : List ℕ) where
  pub call_accepted : (span_verdict tree lent).number ≡ 0 → span_call tree lent ≡ span_of tree lent
  unfolding span_call
  call_accepted z = rw (eq-eqb (span_verdict tree lent).number 0 z, span_call) refl

  pub call_refused : ((span_verdict tree lent).number ≡ 0 → ⊥) → span_call tree lent ≡ span_refused (span_verdict tree lent) lent
  unfolding span_call
  call_refused n = rw (ne_eqb (span_verdict tree lent).number 0 n, span_call) refl

module _ (tree lent : List ℕ) (accepts : (span_call tree lent).verdict.number ≡ 0) where
  verdict_is : (span_verdict tree lent).number ≡ 0
  unfolding span_refused
  verdict_is =
      elim (ℕ_discrete (span_verdict tree lent).number 0) [
        | yes z ↦ z
        | no n ↦ absurd (n (rw (call_refused tree lent n) at accepts))
      ]

  frame : Frame tree
  unfolding span_verdict
  frame = accepted-frame tree (first-accepts _ _ verdict_is).0

  shape : Shape (length (kinds tree)) (end_at (kinds tree)) (size_at (kinds tree))
  shape = frame.shape

  call_is : span_call tree lent ≡ span_of tree lent
  call_is = call_accepted tree lent verdict_is

  span-is : (span_call tree lent).span ≡ span (kinds tree) (weights tree)
  unfolding span_of
  span-is = rw call_is refl

  work-is : (span_call tree lent).work ≡ weight_before (weights tree) (length (kinds tree))
  unfolding span_of
  work-is =
      let all : length (weights tree) ≡ length (kinds tree) = length-weights tree ∙ sym (length-kinds tree) in
      rw call_is (rw all at (work-weight (weights tree)))

  last-is : lasts (kinds tree) (weights tree) 0 ≡ (span_call tree lent).span
  last-is = sym (span-lasts (kinds tree) (weights tree) shape frame.some) ∙ sym span-is

  best : Chosen (kinds tree) (weights tree) shape (walked (kinds tree) (weights tree))
  best = chosen (kinds tree) (weights tree) shape frame.some

  -- The bytes are the walk's.
  front_is : take (2 * (span_call tree lent).chain_length) (span_call tree lent).chain ≡ chain_bytes (chain (kinds tree) (weights tree))
  unfolding span_of written
  front_is =
      let steps = chain (kinds tree) (weights tree) in
      rw call_is (take_at (chain_bytes steps) (drop (length (chain_bytes steps)) lent) (2 * length steps) (bytes-length steps))

  listed-is : listed tree lent ≡ walked (kinds tree) (weights tree)
  unfolding listed
  listed-is =
      let all = chain-walked (kinds tree) (weights tree) shape frame.some in
      let few : length (kinds tree) ≤ 65536 = omega (arith, frame.most) in
      let small = linked_small (kinds tree) (weights tree) shape 0 best.rest few best.linked in
      rw (front_is, all, best.starts) (bytes_back (0 ∷ best.rest) small)

  counted : length (listed tree lent) ≡ (span_call tree lent).chain_length
  unfolding span_of
  counted = rw (listed-is, call_is, chain-walked (kinds tree) (weights tree) shape frame.some) refl

  -- The steps from i to the end of i's task, with all that they spawn.
  from-inside : (i j : ℕ) → i < length (kinds tree) → FromStep (kinds tree) i j → Inside (size_at (kinds tree)) i j
  from-inside i j h w = (w.0, omega (arith, w.1, end_size (kinds tree) shape i h))

  inside-from : (i j : ℕ) → i < length (kinds tree) → Inside (size_at (kinds tree)) i j → FromStep (kinds tree) i j
  inside-from i j h w = (w.0, omega (arith, w.1, end_size (kinds tree) shape i h))

  no_heavier_lem : (steps : List ℕ) → Chain (kinds tree) steps → weigh (weights tree) steps ≤ (span_call tree lent).span
  no_heavier_lem [] c = absurd c
  no_heavier_lem (x ∷ r) c =
      let l = chain_linked (kinds tree) (weights tree) shape x r c in
      omega (arith, chain_bound (kinds tree) (weights tree) shape x r l, last-is)

  is-first : (steps : List ℕ) → Chain (kinds tree) steps → weigh (weights tree) steps ≡ (span_call tree lent).span
      → (steps ≡ listed tree lent) ⊎ (goes_before (listed tree lent) steps ≡ true)
  is-first [] c w = absurd c
  is-first (x ∷ r) c w =
      let l = chain_linked (kinds tree) (weights tree) shape x r c in
      rw listed-is (best.leads x r l (w ∙ sym last-is))

  latest_ends_lem : (j : ℕ) × (j < length (kinds tree)) × (ends tree lent j ≡ (span_call tree lent).span)
  unfolding ends ended
  latest_ends_lem =
      let top = inside-last (kinds tree) (weights tree) shape 0 frame.some in
      let first = begun-root (kinds tree) (weights tree) shape in
      (top.0, omega (arith, top.1, shape.whole), omega (arith, top.2, first, last-is))

  rest_ends_then_lem : (i : ℕ) → i < length (kinds tree)
      → (j : ℕ) × FromStep (kinds tree) i j × (ends tree lent j ≡ starts tree lent i + lasts (kinds tree) (weights tree) i)
  unfolding ends starts ended begun
  rest_ends_then_lem i h =
      let top = inside-last (kinds tree) (weights tree) shape i h in
      (top.0, inside-from i top.0 h top.1, top.2)

  pub work-and-span : WorkAndSpan tree lent
  unfolding ends starts ended begun
  work-and-span =
      record {
        not_before = λ i j h p. precedes-ended (kinds tree) (weights tree) shape h p;
        at_once = λ j h. starts_with (kinds tree) (weights tree) shape j h;
        lasting = λ j h. ended_is (kinds tree) (weights tree) j h;
        latest = λ j h. rw span-is (ended-most (kinds tree) (weights tree) shape j);
        latest_ends = latest_ends_lem;
        rest_ends = λ i j h w. inside-ends (kinds tree) (weights tree) shape i j h (from-inside i j h w);
        rest_ends_then = rest_ends_then_lem;
        counted = counted;
        linked = rw (listed-is, best.starts) (linked_chain (kinds tree) (weights tree) shape 0 best.rest best.linked);
        weighs = rw listed-is (best.weighs ∙ last-is);
        no_heavier = no_heavier_lem;
        first = is-first;
        span_at_most = rw (span-is, work-is) (span-weight (kinds tree) (weights tree) shape frame.some);
        work_at_most = rw (span-is, work-is) (weight-span (kinds tree) (weights tree) shape (length (kinds tree)) (omega arith));
      }
