-- Parts of the tree and the phases that cover them.
use Prim.Native.Nat.{ℕ, zero, suc, ◌+◌, ◌≤◌, ◌<◌}
use Rattle.std.specs.Prelude.{◌≡◌, Bool, ◌&&◌, not, ◌||◌, length, ltb, eqb}
use Rattle.std.proofs.Math.Path.{refl}
use Rattle.std.proofs.Common.{sym, ap, ◌∙◌, eqb-true}
use Rattle.std.proofs.Math.Bool.{true, false, cond}
use mathlib.Core.List.{List, [], ◌∷◌}
use Rattle.std.proofs.Math.Logic.{inl, inr, ⊎_elim}
use Rattle.std.proofs.Math.Decide.{ℕ_discrete, dec_le}
use native.Mathlib.Omega.{arith}
use Rattle.rules.specs.Bytes.{count, any, sum}
use Rattle.rules.specs.Tree.{kind_at, is_end, task_end, cont}
use Rattle.rules.specs.Scheduling.{pushes_child, holds, pushes, Phase, phase_at}
use Rattle.rules.specs.Traces.{from_step, covers}
use Rattle.tree_scan.specs.Laws.Shape.{Shape}
use Rattle.tree_scan.specs.Laws.Frames.{end_at, size_at}
use Rattle.run_invariant.specs.Invariant.{self, Pushed}
use Rattle.run_invariant.proofs.Laws.Counts.{and_both, Has, has_sum, no_members, sum_none, any_sum, any_one, not_so, one-true}
use Rattle.run_invariant.proofs.Laws.Counts.{sum_alike, sum_plus, sum_place, sum_two, sum_some}
use Rattle.run_invariant.proofs.Laws.Weights.{span, end_within, cont-inside, nested_end, inside-from, from-inside, span-one}
use Rattle.run_invariant.proofs.Laws.Weights.{span_in, span-inside, span-self, self_same, pushed_within}
use Rattle.run_invariant.proofs.Laws.Moves.{robbed}
use Rattle.replay_invariant.specs.Invariant.{Cut, Split}
use Rattle.replay_invariant.specs.Terms.{PartOf}

-- ---- sums and tests

module _ {A : Type 0} where
  -- What passes a test nowhere or once adds nothing or x once.
  sum_test : (t : A → Bool) (x : ℕ) (l : List A)
      → (sum (λ a. cond (t a) 1 0) l ≡ 0 → sum (λ a. cond (t a) x 0) l ≡ 0)
      × (sum (λ a. cond (t a) 1 0) l ≡ 1 → sum (λ a. cond (t a) x 0) l ≡ x)
  unfolding sum
  sum_test t x [] = (λ e. refl, λ e. absurd (omega arith))
  sum_test t x (a ∷ l) = by (t a) (sum_test t x l)
    where
      n : ℕ
      n = sum (λ y. cond (t y) 1 0) l

      m : ℕ
      m = sum (λ y. cond (t y) x 0) l

      by : (b : Bool) → (n ≡ 0 → m ≡ 0) × (n ≡ 1 → m ≡ x)
          → (cond b 1 0 + n ≡ 0 → cond b x 0 + m ≡ 0) × (cond b 1 0 + n ≡ 1 → cond b x 0 + m ≡ x)
      by true h = (λ e. absurd (omega arith), λ e. omega (arith, h.0 (omega arith)))
      by false h = (λ e. omega (arith, h.0 (omega arith)), λ e. omega (arith, h.1 (omega arith)))

self-some : (s i : ℕ) → 1 ≤ self s i → i ≡ s
unfolding self
self-some s i h = eqb-true i s (one-true (eqb i s) h)

-- At one step: what is not stolen of it and what is are together what there is.
rest_counts : (first : Bool) (gone : ℕ) → gone ≤ cond first 1 0 → cond (first && not (ltb 0 gone)) 1 0 + gone ≡ cond first 1 0
rest_counts false gone h = omega arith
rest_counts true zero h = refl
rest_counts true (suc n) h =
    let none : n ≡ 0 = omega arith in
    rw none refl

less_one : (x y z : Bool) → x && not (y || z) ≡ x && not y && not z
less_one false y z = refl
less_one true true z = refl
less_one true false z = refl

-- Once a step is stolen, the part from it is not covered.
pub covers-robbed : (ks : List ℕ) (ph : Phase) (s j : ℕ) → covers ks (robbed ph s) j ≡ covers ks ph j && not (from_step ks s j)
unfolding covers
covers-robbed ks ph s j =
    rw (any_one (λ x. from_step ks x j) ph.stolen s)
    (less_one (from_step ks ph.first j) (any (λ x. from_step ks x j) ph.stolen) (from_step ks s j))

-- ---- parts

-- What `phase_at` gives past the last phase.
abbrev pub no_phase : Phase
no_phase = record { worker = 0; first = 0; stolen = [] }

module _ (ks : List ℕ) (sh : Shape (length ks) (end_at ks) (size_at ks)) where
  -- A part stands past its opening step, and all of it before the end of that step's task.
  pub part_inside : (q x : ℕ) → PartOf ks q x → (q < x) × (x < task_end ks q) × (task_end ks x ≤ task_end ks q) × (x < length ks)
  part_inside q x part =
      let c = cont-inside ks sh q part.0 part.1 in
      let place : (q < x) × (x < task_end ks q) = ⊎_elim (λ e. omega arith) (λ e. omega arith) part.2 in
      omega (arith, nested_end ks sh q x part.0 (omega arith) place.1, end_within ks sh q part.0)

  -- A step past q that has one of q's parts is that part.
  past_same : (q x : ℕ) → PartOf ks q x → (s : ℕ) → q < s → s ≤ x → x < task_end ks s → s ≡ x
  unfolding cont
  past_same q x part s past l u =
      let c = cont-inside ks sh q part.0 part.1 in
      ⊎_elim (λ e. omega arith) (λ e.
      elim (ℕ_discrete s x) [
        | yes same ↦ same
        | no n ↦ absurd (omega (arith, nested_end ks sh (suc q) s (omega arith) past (omega arith)))
      ]) part.2

  -- The part from another step that has x has x's opening step too.
  pub entered : (q x : ℕ) → PartOf ks q x → (s : ℕ) → s < length ks → s ≤ x → x < task_end ks s → (s ≡ x → ⊥)
      → (s ≤ q) × (q < task_end ks s)
  entered q x part s h l u n =
      elim (dec_le s q) [
        | yes b ↦ (b, omega (arith, part_inside q x part))
        | no m ↦ absurd (n (past_same q x part s (omega arith) l u))
      ]

  -- So a step is a part of one opening step only.
  pub part_once : (q r x : ℕ) → PartOf ks q x → PartOf ks r x → q ≡ r
  part_once q r x a b =
      let i = part_inside q x a in
      let o = part_inside r x b in
      omega (
        arith,
        entered q x a r b.0 (omega arith) o.1 (omega arith),
        entered r x b q a.0 (omega arith) i.1 (omega arith),
      )

  pub holds_part : (p q : ℕ) → q < length ks → is_end (kind_at ks q) ≡ false → PartOf ks q (holds p ks q)
  unfolding holds
  holds_part p q h e =
      elim (pushes_child p (kind_at ks q)) as (λ b. PartOf ks q (cond b (cont ks q) (suc q))) [
        | true ↦ (h, e, inr refl)
        | false ↦ (h, e, inl refl)
      ]

  pub pushes_part : (p q : ℕ) → q < length ks → is_end (kind_at ks q) ≡ false → PartOf ks q (pushes p ks q)
  unfolding pushes
  pushes_part p q h e =
      elim (pushes_child p (kind_at ks q)) as (λ b. PartOf ks q (cond b (suc q) (cont ks q))) [
        | true ↦ (h, e, inl refl)
        | false ↦ (h, e, inr refl)
      ]

  parts_differ : (p q : ℕ) → q < length ks → is_end (kind_at ks q) ≡ false → holds p ks q ≡ pushes p ks q → ⊥
  unfolding holds pushes
  parts_differ p q h e =
      let c = cont-inside ks sh q h e in
      elim (pushes_child p (kind_at ks q)) as (λ b. cond b (cont ks q) (suc q) ≡ cond b (suc q) (cont ks q) → ⊥) [
        | true ↦ λ s. omega arith
        | false ↦ λ s. omega arith
      ]

  -- What running a step holds was pushed by no step.
  pub held_unpushed : (p q : ℕ) → q < length ks → is_end (kind_at ks q) ≡ false → Pushed p ks (holds p ks q) → ⊥
  held_unpushed p q h e by =
      let part : PartOf ks by.0 (holds p ks q) = rw by.3 (pushes_part p by.0 by.1 by.2) in
      let same = part_once q by.0 (holds p ks q) (holds_part p q h e) part in
      parts_differ p q h e (by.3 ∙ ap (λ (r : ℕ). pushes p ks r) (sym same))

  -- ---- one phase

  module _ (p : ℕ) (ph : Phase) (cut : Cut p ks ph) where
    -- What a phase covers and what is stolen from it are together the part from its first step.
    pub covers-counts : (j : ℕ) → cond (covers ks ph j) 1 0 + sum (span ks j) ph.stolen ≡ span ks j ph.first
    unfolding covers span
    covers-counts j =
        rw (any_sum (λ s. from_step ks s j) ph.stolen)
        (rest_counts (from_step ks ph.first j) (sum (span ks j) ph.stolen) (cut.apart j))

    covered-from : (j : ℕ) → covers ks ph j ≡ true → from_step ks ph.first j ≡ true
    unfolding covers
    covered-from j c = (and_both (from_step ks ph.first j) (not (any (λ s. from_step ks s j) ph.stolen)) c).0

    -- A covered step is in the part from the first step, and in no part stolen.
    pub covered-inside : (j : ℕ) → covers ks ph j ≡ true → (ph.first ≤ j) × (j < task_end ks ph.first) × (j < length ks)
    covered-inside j c =
        omega (arith, from-inside ks ph.first j (covered-from j c), end_within ks sh ph.first cut.begins)

    -- Each step is counted once there, so it is not covered and stolen.
    never_both : (j s : ℕ) → covers ks ph j ≡ true → Has ph.stolen s → from_step ks s j ≡ true → ⊥
    never_both j s c m t =
        let counts = covers-counts j in
        omega (
          arith,
          rw c at counts,
          has_sum (span ks j) s ph.stolen m,
          span-one ks j s t,
          span-one ks j ph.first (covered-from j c),
        )

    pub covered-kept : (j s : ℕ) → covers ks ph j ≡ true → Has ph.stolen s → from_step ks s j ≡ false
    covered-kept j s c m = not_so (from_step ks s j) (never_both j s c m)

    pub covered-by : (j : ℕ) → ph.first ≤ j → j < task_end ks ph.first
        → ((s : ℕ) → Has ph.stolen s → from_step ks s j ≡ false) → covers ks ph j ≡ true
    unfolding covers
    covered-by j l u kept = rw (inside-from ks ph.first j l u, no_members (λ s. from_step ks s j) ph.stolen kept)

    stolen-within : (s : ℕ) → Has ph.stolen s → s < length ks
    stolen-within s m = pushed_within ks sh p s (cut.pushed s m)

    -- A stolen part is inside the part from the first step, and its step is another: so it begins later.
    stolen-past : (s : ℕ) → Has ph.stolen s → ph.first < s
    stolen-past s m =
        let own = span-self ks sh s (stolen-within s m) in
        let inside = span-inside ks s ph.first (omega (arith, has_sum (span ks s) s ph.stolen m, cut.apart s)) in
        let n = cut.later s m in
        omega arith

    -- It covers its first step; and of an opening step that it covers the part that is held, and the pushed one exactly where
    -- that is not stolen.
    pub first-covered : covers ks ph ph.first ≡ true
    first-covered =
        covered-by ph.first (omega arith) (end_within ks sh ph.first cut.begins).0 (λ s m.
        not_so (from_step ks s ph.first) (λ t. omega (arith, from-inside ks s ph.first t, stolen-past s m)))

    part-covered : (x y : ℕ) → covers ks ph x ≡ true → PartOf ks x y → (Has ph.stolen y → ⊥) → covers ks ph y ≡ true
    part-covered x y c part free =
        let here = covered-inside x c in
        let place = part_inside x y part in
        covered-by y (omega arith) (omega (arith, nested_end ks sh ph.first x cut.begins here.0 here.1)) (λ s m.
        not_so (from_step ks s y) (λ t.
        let has = from-inside ks s y t in
        let up = entered x y part s (stolen-within s m) has.0 has.1 (λ e. free (rw e at m)) in
        never_both x s c m (inside-from ks s x up.0 up.1)))

    pub held-covered : (x : ℕ) → covers ks ph x ≡ true → is_end (kind_at ks x) ≡ false → covers ks ph (holds p ks x) ≡ true
    held-covered x c e =
        let h = (covered-inside x c).2 in
        part-covered x (holds p ks x) c (holds_part p x h e) (λ m. held_unpushed p x h e (cut.pushed (holds p ks x) m))

    pub pushed-covered : (x : ℕ) → covers ks ph x ≡ true → is_end (kind_at ks x) ≡ false
        → (Has ph.stolen (pushes p ks x) → ⊥) → covers ks ph (pushes p ks x) ≡ true
    pushed-covered x c e free = part-covered x (pushes p ks x) c (pushes_part p x (covered-inside x c).2 e) free

    -- Of a stolen part it covers nothing.
    pub stolen-uncovered : (s j : ℕ) → Has ph.stolen s → from_step ks s j ≡ true → covers ks ph j ≡ false
    stolen-uncovered s j m t = not_so (covers ks ph j) (λ c. never_both j s c m t)

  -- ---- all phases

  module _ (p : ℕ) (some-step : 1 ≤ length ks) (phs : List Phase) (split : Split p ks phs) where
    -- Each step is covered by one phase.
    pub covered_once : (j : ℕ) → j < length ks → sum (λ ph. cond (covers ks ph j) 1 0) phs ≡ 1
    unfolding phase_at size_at
    covered_once j h =
        omega (
          arith,
          sum_alike (λ ph. cond (covers ks ph j) 1 0 + sum (span ks j) ph.stolen) (λ ph. span ks j ph.first) no_phase phs
              (λ k b. covers-counts p (phase_at phs k) (split.cuts k b) j),
          sum_plus _ (λ ph. cond (covers ks ph j) 1 0) (λ ph. sum (span ks j) ph.stolen) (λ ph. refl) phs,
          split.begun (span ks j),
          span_in ks j 0 (omega arith) (omega (arith, sh.whole)),
        )

    pub covering : (j : ℕ) → j < length ks → (k : ℕ) × (k < length phs) × (covers ks (phase_at phs k) j ≡ true)
    unfolding phase_at
    covering j h =
        let at = sum_some (λ ph. cond (covers ks ph j) 1 0) no_phase phs (omega (arith, covered_once j h)) in
        (at.0, at.1, one-true (covers ks (phase_at phs at.0) j) at.2)

    pub same-phase : (j k m : ℕ) → j < length ks → k < length phs → m < length phs → covers ks (phase_at phs k) j ≡ true
        → covers ks (phase_at phs m) j ≡ true → k ≡ m
    unfolding phase_at
    same-phase j k m h a b c d =
        elim (ℕ_discrete k m) [
          | yes e ↦ e
          | no n ↦
              let two = sum_two (λ ph. cond (covers ks ph j) 1 0) no_phase phs k m a b n in
              absurd (omega (arith, rw (c, d) at two, covered_once j h))
        ]

    -- Over an interval of steps: each is added by one phase.
    interval-sum : (f : ℕ → ℕ) (n a : ℕ) → a + n ≤ length ks
        → sum (λ ph. sum (λ j. cond (covers ks ph j) (f j) 0) (count a n)) phs ≡ sum f (count a n)
    unfolding sum count
    interval-sum f zero a h = sum_none (λ ph. 0) no_phase phs (λ i. refl)
    interval-sum f (suc n) a h =
        omega (
          arith,
          sum_plus _ (λ ph. cond (covers ks ph a) (f a) 0) (λ ph. sum (λ j. cond (covers ks ph j) (f j) 0) (count (suc a) n))
              (λ ph. refl) phs,
          (sum_test (λ ph. covers ks ph a) (f a) phs).1 (covered_once a (omega arith)),
          interval-sum f n (suc a) (omega arith),
        )

    -- The phases' sums, over what they cover, are the sum over all steps.
    pub covered-sum : (f : ℕ → ℕ)
        → sum (λ ph. sum (λ j. cond (covers ks ph j) (f j) 0) (count 0 (length ks))) phs ≡ sum f (count 0 (length ks))
    covered-sum f = interval-sum f (length ks) 0 (omega arith)

    begun-some : (k s : ℕ) → k < length phs → Has (phase_at phs k).stolen s → 1 ≤ sum (λ ph. self s ph.first) phs
    unfolding phase_at
    begun-some k s b m =
        omega (
          arith,
          self_same s,
          has_sum (self s) s (phase_at phs k).stolen m,
          sum_place (λ ph. sum (self s) ph.stolen) no_phase phs k b,
          split.begun (self s),
        )

    -- A step that was stolen begins a phase.
    pub stolen-begins : (k s : ℕ) → k < length phs → Has (phase_at phs k).stolen s
        → (m : ℕ) × (m < length phs) × ((phase_at phs m).first ≡ s)
    unfolding phase_at
    stolen-begins k s b m =
        let at = sum_some (λ ph. self s ph.first) no_phase phs (begun-some k s b m) in
        (at.0, at.1, self-some s (phase_at phs at.0).first at.2)
