-- The walk, turn by turn: what is written and the walk from the step on are together the whole walk.
use Prim.Native.Nat.{ℕ, suc, ◌+◌, ◌-◌, ◌*◌, ◌/◌, ◌%◌, ◌≤◌, ◌<◌}
use Rattle.std.specs.Prelude.{◌≡◌, refl, true, get_or}
use Rattle.std.proofs.Math.Path.{sym}
use Rattle.std.proofs.Common.{ap, ◌∙◌, length-append}
use mathlib.Core.List.{List, [], ◌∷◌, ◌++◌, flatten, append_assoc}
use native.Mathlib.Omega.{arith}
use Rattle.std.proofs.Math.ListN.{length}
use Rattle.rules.specs.Bytes.{two_bytes}
use Rattle.rules.specs.Calls.{written}
use Rattle.rules_dag.specs.Spans.{lasts, chain as chain_steps, chain_bytes}
use Rattle.buffers.specs.Terms.{event_put}
use Rattle.buffers.specs.Laws.Records.{flat-one}
use Rattle.buffers.specs.Laws.Fronts.{event_written, length-written}
use Rattle.tree_scan.specs.Laws.Shape.{Shape}
use Rattle.tree_scan.specs.Laws.Frames.{end_at, size_at}
use Rattle.dag_chain.specs.Terms.{onward, pending, walked, remains, Held, NextStep}
use Rattle.dag_chain.proofs.Laws.Walk.{remains-root, pending-root, Goes, goes_higher, goes, path-last, path-more}
use Rattle.dag_chain.proofs.Laws.Choice.{chain-walked}
use Rattle.dag_chain.proofs.Laws.Climb.{left-held, next-onward}
use Rattle.dag_chain.proofs.Laws.Claim.{bytes-length}
use Rattle.dag_walk.specs.Terms.{Walking, ChainWritten}

-- One step more, in bytes.
bytes_one : (xs : List ℕ) (x : ℕ) → chain_bytes (xs ++ (x ∷ [])) ≡ chain_bytes xs ++ (x % 256 ∷ x / 256 % 256 ∷ [])
unfolding chain_bytes two_bytes
bytes_one xs x = flat-one two_bytes xs x

module _ (ks ws : List ℕ) (sh : Shape (length ks) (end_at ks) (size_at ks)) (lent : List ℕ) (fits : 2 * length ks ≤ length lent) where
  pub walk_start : 0 < length ks → (left : ℕ) → left ≡ lasts ks ws 0 → Walking ks ws lent lent 0 left 0
  unfolding walked chain_bytes flatten written
  walk_start h left is =
      let one : length ks ≡ suc (length ks - 1) = omega arith in
      let root = remains-root ks ws sh in
      record {
        done = [];
        qs = [];
        more = length ks - 1;
        room = h;
        waiting = pending-root ks ws sh;
        rest = is ∙ sym root;
        whole = rw (← one, root) refl;
        enough = omega arith;
        counted = refl;
        few = omega arith;
        listed = refl;
      }

  -- At a step, and `after` is the buffer once the step is stored.
  module _ (chain : List ℕ) (c left count : ℕ) (w : Walking ks ws lent chain c left count) where
    pub walk-length : length chain ≡ length lent
    walk-length =
        let fit : length (chain_bytes w.done) ≤ length lent =
        omega (arith, bytes-length w.done, w.counted, w.few, w.room) in
        ap length w.listed ∙ length-written (chain_bytes w.done) lent fit

    -- There is room for the step, which is stored behind those before it.
    pub walk-room : 2 * count + 2 ≤ length chain
    walk-room = omega (arith, walk-length, w.few, w.room)

    stored : (after : List ℕ) → after ≡ event_put chain count (c % 256) (c / 256 % 256)
        → after ≡ written (chain_bytes (w.done ++ (c ∷ []))) lent
    stored after put =
        put
        ∙ rw w.listed
        (event_written (chain_bytes w.done) lent count (c % 256) (c / 256 % 256) (bytes-length w.done ∙ rw w.counted refl)
        (omega (arith, w.few, w.room))
        ∙ rw (bytes_one w.done c) refl)

    longer : length (w.done ++ (c ∷ [])) ≡ count + 1
    longer = omega (arith, length-append w.done (c ∷ []), w.counted)

    module _ (own : ℕ) (weighs : own ≡ get_or ws c 0) (after : List ℕ) (put : after ≡ event_put chain count (c % 256) (c / 256 % 256)) where
      -- Nothing is left beyond the step's own weight.
      pub walk_last : left ≤ own → ChainWritten ks ws lent (count + 1) after
      walk_last all =
          let last = path-last ks ws sh w.more c (remains ks ws c w.qs) w.qs (omega (arith, w.rest)) in
          let same : chain_steps ks ws ≡ w.done ++ (c ∷ []) =
          chain-walked ks ws sh (omega (arith, w.room)) ∙ (w.whole ∙ rw last refl) in
          record { counted = rw same (sym longer); listed = rw same (stored after put) }

      -- Something is.
      module _ (less : own < left) where
        remains-more : get_or ws c 0 < remains ks ws c w.qs
        remains-more = omega (arith, weighs, w.rest)

        pub walk-held : end_at ks c ≡ true → Held ks c
        walk-held e = left-held ks sh ws c w.room w.qs e remains-more w.waiting

        module _ (next : ℕ) (n : NextStep ks ws c next) where
          next-is : next ≡ onward ks ws c w.qs
          next-is = next-onward ks sh ws c w.room w.qs next remains-more w.waiting n

          on : Goes ks ws sh c w.qs (onward ks ws c w.qs) (pending ks c w.qs)
          on = goes ks ws sh c w.qs w.room remains-more w.waiting

          pub walk-higher : (c < next) × (next < length ks)
          walk-higher = rw next-is (goes_higher ks ws sh on, on.within)

          pub walk_turn : Walking ks ws lent after next (left - own) (count + 1)
          walk_turn =
              let up = walk-higher in
              let some : suc (w.more - 1) ≡ w.more = omega (arith, w.enough) in
              record {
                done = w.done ++ (c ∷ []);
                qs = pending ks c w.qs;
                more = w.more - 1;
                room = up.1;
                waiting = rw next-is on.waiting;
                rest = rw next-is (omega (arith, w.rest, weighs, on.rest));
                whole = rw (some, next-is, append_assoc w.done (c ∷ []) _)
                    (w.whole ∙ rw (path-more ks ws sh w.more c w.qs w.room remains-more w.waiting) refl);
                enough = omega (arith, w.enough);
                counted = sym longer;
                few = omega (arith, w.few);
                listed = stored after put;
              }
