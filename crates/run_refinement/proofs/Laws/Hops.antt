-- From step to step over the children of a task: each hop raises the ordinal by one and passes one child, so the children between two
-- steps of a task are what their ordinals differ by.
use Prim.Native.Nat.{ℕ, zero, suc, pred, ◌+◌, ◌-◌, ◌≤◌, ◌<◌}
use Rattle.std.specs.Prelude.{◌≡◌, true, false, cond, List, length, take, drop, eqb}
use Rattle.std.proofs.Math.Path.{refl}
use Rattle.std.proofs.Common.{ap, ◌∙◌, drop-cons}
use native.Mathlib.Omega.{arith}
use borrow.Author.Tests.{ne_eqb}
use Rattle.rules.specs.Tree.{kind_at, is_end, ordinal, cont}
use Rattle.tree_scan.specs.Laws.Shape.{after, Shape, child-inside, after_end, tree-ind}
use Rattle.tree_scan.specs.Laws.Frames.{end_at, size_at, cont-after}
use Rattle.tree_scan.specs.Laws.Places.{ordinal-cont}
use Rattle.run_invariant.proofs.Laws.Weights.{cont-inside}
use Rattle.run_spec.specs.Ordinals.{children_in, children_between}
use Rattle.run_refinement.specs.Tie.{Hops}

-- ---- scans

-- The children opened directly from step i to before step x, while d are open.
unfoldable scan : List ℕ → ℕ → ℕ → ℕ → ℕ
scan ks x d i = children_in d (take (x - i) (drop i ks))

scan_step : (ks : List ℕ) (x d i : ℕ) → i < x → i < length ks
    → scan ks x d i ≡ cond (end_at ks i) (scan ks x (pred d) (suc i)) (cond (eqb d 0) 1 0 + scan ks x (suc d) (suc i))
unfolding scan children_in end_at kind_at
scan_step ks x d i l h =
    let more : x - i ≡ suc (x - suc i) = omega arith in
    rw (more, drop-cons ks i 0 h) refl

module _ (ks : List ℕ) (sh : Shape (length ks) (end_at ks) (size_at ks)) where
  -- The part from i ends the innermost of the open children, and opens none directly.
  Skips : ℕ → Type 0
  Skips i = (x d : ℕ) → i + size_at ks i ≤ x → scan ks x (suc d) i ≡ scan ks x d (i + size_at ks i)

  skips_end : (i : ℕ) → i < length ks → end_at ks i ≡ true → Skips i
  unfolding Skips
  skips_end i h e x d l =
      let next : i + size_at ks i ≡ suc i = omega (arith, (sh.at i h).leaf e) in
      rw next (scan_step ks x (suc d) i (omega arith) h ∙ rw e refl)

  skips_parts : (i : ℕ) → i < length ks → end_at ks i ≡ false → Skips (suc i) → Skips (after (size_at ks) i) → Skips i
  unfolding Skips after
  skips_parts i h e child rest x d l =
      let same = after_end sh i h e in
      let here : scan ks x (suc d) i ≡ scan ks x (suc (suc d)) (suc i) =
      scan_step ks x (suc d) i (omega arith) h ∙ rw (e, ne_eqb (suc d) 0 (λ z. absurd (omega arith))) (omega arith) in
      rw (← same) (here ∙ (child x (suc d) (omega arith) ∙ rest x d (omega arith)))

  skips : (i : ℕ) → i < length ks → Skips i
  skips = tree-ind sh Skips skips_end skips_parts

  -- ---- hops

  -- One hop more.
  pub hops_more : (k a q : ℕ) → Hops ks k a q → q < length ks → is_end (kind_at ks q) ≡ false → Hops ks (suc k) a (cont ks q)
  hops_more zero a q h l e = rw h (l, e, refl)
  hops_more (suc k) a q h l e = (h.0, h.1, hops_more k (cont ks a) q h.2 l e)

  hops_order : (k a x : ℕ) → Hops ks k a x → a ≤ x
  hops_order zero a x h = omega arith
  hops_order (suc k) a x h = omega (arith, cont-inside ks sh a h.0 h.1, hops_order k (cont ks a) x h.2)

  -- Each hop adds one to the ordinal.
  pub hops_ordinal : (k a x : ℕ) → Hops ks k a x → ordinal ks x ≡ ordinal ks a + k
  unfolding end_at
  hops_ordinal zero a x h = rw h (omega arith)
  hops_ordinal (suc k) a x h = omega (arith, hops_ordinal k (cont ks a) x h.2, ordinal-cont ks sh a h.0 h.1)

  -- As many children are opened directly on the way.
  hop-scan : (a x : ℕ) → a < length ks → end_at ks a ≡ false → cont ks a ≤ x → scan ks x 0 a ≡ 1 + scan ks x 0 (cont ks a)
  unfolding Skips after
  hop-scan a x h e l =
      let at = cont-after ks a h in
      let child = skips (suc a) (child-inside sh a h e) x 0 (omega arith) in
      rw at (scan_step ks x 0 a (omega arith) h ∙ rw e (ap (λ (n : ℕ). 1 + n) child))

  hops_scan : (k a x : ℕ) → Hops ks k a x → scan ks x 0 a ≡ k
  unfolding scan children_in end_at
  hops_scan zero a x h =
      let none : x - a ≡ 0 = omega arith in
      rw none refl
  hops_scan (suc k) a x h =
      let l = hops_order k (cont ks a) x h.2 in
      omega (arith, hop-scan a x h.0 h.1 l, hops_scan k (cont ks a) x h.2)

  pub hops_children : (k a x : ℕ) → Hops ks k a x → children_between ks a x ≡ k
  unfolding children_between scan
  hops_children = hops_scan
