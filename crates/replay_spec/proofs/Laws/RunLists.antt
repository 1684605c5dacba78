-- The records of all phases by labels are the rules' run list, and are at most one for each step.
use Prim.Native.Nat.{ℕ, zero, suc, ◌+◌, ◌≤◌, ◌<◌}
use Rattle.std.specs.Prelude.{◌≡◌, refl, get_or}
use Rattle.std.proofs.Math.Path.{sym, ap}
use Rattle.std.proofs.Common.{◌∙◌, length-append}
use Rattle.std.proofs.Math.Bool.{cond}
use mathlib.Core.List.{List, [], ◌∷◌, map, flatten, zip_with}
use native.Mathlib.Omega.{arith}
use Rattle.std.proofs.Math.ListN.{length}
use Rattle.rules.specs.Bytes.{count, sum}
use Rattle.rules.specs.Scheduling.{Phase, phase_at, Entry}
use Rattle.rules.specs.Traces.{covers, running_order, run_list}
use Rattle.tree.specs.Laws.Counts.{length-count}
use Rattle.tree_scan.specs.Laws.Shape.{Shape}
use Rattle.tree_scan.specs.Laws.Frames.{end_at, size_at}
use Rattle.run_invariant.proofs.Laws.Counts.{sum_ones}
use Rattle.replay_invariant.specs.Invariant.{Split}
use Rattle.replay_invariant.specs.Terms.{Labels}
use Rattle.replay_invariant.proofs.Laws.Order.{order_sum}
use Rattle.replay_invariant.proofs.Laws.Parts.{covered-sum}
use Rattle.replay_spec.specs.Orders.{phase_order, in_phase}
use Rattle.replay_spec.proofs.Laws.Orders.{length-in_phase, order_labelled}
use Rattle.replay_spec.specs.Lists.{listed}

-- ---- lists of phases, by places

-- A list of numbered phases, from number a on, place by place.
zip_count : {B : Type 0} (f : ℕ → Phase → B) (g : ℕ → B) (l : List Phase) (a : ℕ)
    → ((j : ℕ) → j < length l → g (a + j) ≡ f (a + j) (phase_at l j))
    → map g (count a (length l)) ≡ zip_with f (count a (length l)) l
unfolding zip_with count phase_at
zip_count f g [] a e = refl
zip_count f g (ph ∷ l) a e =
    let here : a + 0 ≡ a = omega arith in
    let first = rw here at (e 0 (omega arith)) in
    let rest = zip_count f g l (suc a) (λ j h.
    let next : a + suc j ≡ suc a + j = omega arith in
    rw next at (e (suc j) (omega arith))) in
    rw (first, rest) refl

-- The first k phases and phase k are some of all.
first_sum : (f : Phase → ℕ) (g : ℕ → ℕ) (l : List Phase) (a k : ℕ) → k < length l
    → ((j : ℕ) → j < length l → g (a + j) ≡ f (phase_at l j)) → sum g (count a k) + f (phase_at l k) ≤ sum f l
unfolding sum count phase_at
first_sum f g [] a k h e = absurd (omega arith)
first_sum f g (ph ∷ l) a zero h e = omega arith
first_sum f g (ph ∷ l) a (suc k) h e =
    let here : a + 0 ≡ a = omega arith in
    let first = rw here at (e 0 (omega arith)) in
    let rest = first_sum f g l (suc a) k (omega arith) (λ j b.
    let next : a + suc j ≡ suc a + j = omega arith in
    rw next at (e (suc j) (omega arith))) in
    omega arith

length-flat : {A : Type 0} (f : ℕ → List A) (l : List ℕ) → length (flatten (map f l)) ≡ sum (λ j. length (f j)) l
unfolding flatten sum
length-flat f [] = refl
length-flat f (j ∷ l) = omega (arith, length-append (f j) (flatten (map f l)), length-flat f l)

module _ (p : ℕ) (ks : List ℕ) (some-step : 1 ≤ length ks) (sh : Shape (length ks) (end_at ks) (size_at ks)) (phs : List Phase)
    (split : Split p ks phs) (labels : List ℕ) (shown : Labels ks phs labels) where
  pub listed-is : (firsts : List ℕ) → ((k : ℕ) → k < length phs → get_or firsts k 0 ≡ (phase_at phs k).first)
      → listed p ks labels firsts (length phs) ≡ run_list p ks phs
  unfolding listed run_list in_phase
  listed-is firsts begins =
      let order = order_labelled p ks some-step sh phs split labels shown in
      ap (λ (l : List (List Entry)). flatten l)
      (zip_count (λ k ph. map (λ i. record { phase = k; step = i }) (running_order p ks ph))
      (λ k. in_phase k (phase_order p ks labels k (get_or firsts k 0))) phs 0 (λ j l.
      let here : 0 + j ≡ j = omega arith in
      rw (here, begins j l, order j l) refl))

  -- The first k phases' records, and phase k's, are together at most one for each step.
  pub orders_fit : (firsts : List ℕ) → ((k : ℕ) → k < length phs → get_or firsts k 0 ≡ (phase_at phs k).first)
      → (k : ℕ) → k < length phs
      → length (listed p ks labels firsts k) + length (running_order p ks (phase_at phs k)) ≤ length ks
  unfolding listed
  orders_fit firsts begins k h =
      let order = order_labelled p ks some-step sh phs split labels shown in
      let run : ℕ → List ℕ = λ j. phase_order p ks labels j (get_or firsts j 0) in
      let covered : Phase → ℕ = λ ph. sum (λ j. cond (covers ks ph j) 1 0) (count 0 (length ks)) in
      let size : (j : ℕ) → j < length phs → length (running_order p ks (phase_at phs j)) ≡ covered (phase_at phs j) =
      λ j l. sym (sum_ones (running_order p ks (phase_at phs j))) ∙ order_sum p ks sh (phase_at phs j) (split.cuts j l) (λ x. 1) in
      let one : (j : ℕ) → j < length phs → length (in_phase (0 + j) (run (0 + j))) ≡ covered (phase_at phs j) = λ j l.
      let here : 0 + j ≡ j = omega arith in
      rw (here, length-in_phase, begins j l, order j l) (size j l) in
      omega (
        arith,
        length-flat (λ j. in_phase j (run j)) (count 0 k),
        first_sum covered (λ j. length (in_phase j (run j))) phs 0 k h one,
        size k h,
        covered-sum ks sh p some-step phs split (λ x. 1),
        sum_ones (count 0 (length ks)),
        length-count (length ks) 0,
      )
