-- Running a phase alone by labels is the rules' running order.
use Prim.Native.Nat.{ℕ, zero, suc, ◌≤◌, ◌<◌}
use Rattle.std.specs.Prelude.{◌≡◌, Bool, not, length, eqb}
use Rattle.std.proofs.Math.Path.{refl, sym}
use Rattle.std.proofs.Common.{◌∙◌, true≢false}
use Rattle.std.proofs.Math.Bool.{true, false}
use mathlib.Core.List.{List, [], ◌∷◌}
use Rattle.std.proofs.Math.Decide.{ℕ_discrete}
use Rattle.std.proofs.lemmas.List.{length-map}
use Rattle.rules.specs.Bytes.{any}
use Rattle.rules.specs.Tree.{kind_at, is_end}
use Rattle.rules.specs.Scheduling.{holds, pushes, pop, after_run, Phase, phase_at}
use Rattle.rules.specs.Traces.{from_step, covers, run_alone, running_order}
use Rattle.tree_scan.specs.Laws.Shape.{Shape}
use Rattle.tree_scan.specs.Laws.Frames.{end_at, size_at}
use Rattle.run_invariant.proofs.Laws.Counts.{Has, has_head, has_cases, has_none, has_tail}
use Rattle.run_invariant.proofs.Laws.Weights.{from-self, pushed_within}
use Rattle.replay_invariant.specs.Invariant.{Split}
use Rattle.replay_invariant.proofs.Laws.Labels.{label-drops}
use Rattle.replay_invariant.proofs.Laws.Parts.{covered-inside, first-covered, held-covered, pushed-covered, stolen-uncovered}
use Rattle.replay_spec.specs.Labels.{dropped}
use Rattle.replay_spec.proofs.Laws.Dropping.{free_stays, own_stays, other_dropped}
use Rattle.replay_spec.specs.Orders.{phase_order, in_phase}
use Rattle.replay_invariant.specs.Terms.{free, label_of, Labels}

pub length-in_phase : (k : ℕ) (steps : List ℕ) → length (in_phase k steps) ≡ length steps
unfolding in_phase
length-in_phase k steps = length-map steps _

-- ---- a step that runs

after_same : (gone missing : ℕ → Bool) (p : ℕ) (ks : List ℕ) (x : ℕ) (deque : List ℕ)
    → (is_end (kind_at ks x) ≡ false → gone (pushes p ks x) ≡ missing (pushes p ks x))
    → after_run gone p ks x deque ≡ after_run missing p ks x deque
unfolding after_run
after_same gone missing p ks x deque same = by (is_end (kind_at ks x)) refl
  where
    by : (b : Bool) → is_end (kind_at ks x) ≡ b → after_run gone p ks x deque ≡ after_run missing p ks x deque
    by true e = rw e refl
    by false e = rw (e, same e) refl

module _ (p : ℕ) (ks : List ℕ) (some-step : 1 ≤ length ks) (sh : Shape (length ks) (end_at ks) (size_at ks)) (phs : List Phase)
    (split : Split p ks phs) (labels : List ℕ) (shown : Labels ks phs labels) where
  -- A step that a phase pushes stays with it where it covers it.
  pub stays_covered : (k x : ℕ) → k < length phs → covers ks (phase_at phs k) x ≡ true → is_end (kind_at ks x) ≡ false
      → covers ks (phase_at phs k) (pushes p ks x) ≡ not (dropped labels (pushes p ks x) k)
  stays_covered k x h c e =
      let y = pushes p ks x in
      let drops = label-drops p ks some-step sh phs split labels shown k x h c e in
      elim (ℕ_discrete (label_of labels y) free) [
        | yes f ↦ rw (free_stays labels y k f) (drops.0 f)
        | no n ↦ elim (ℕ_discrete (label_of labels y) k) [
          | yes own ↦ rw (own_stays labels y k own) (drops.1.0 own)
          | no m ↦ rw (other_dropped labels y k n m) (drops.1.1 n m)
        ]
      ]

  module _ (k : ℕ) (h : k < length phs) where
    abbrev ph : Phase
    ph = phase_at phs k

    abbrev stolen : ℕ → Bool
    stolen x = any (eqb x) ph.stolen

    -- Where a step is pushed, it is stolen where it is dropped.
    stolen-dropped : (x : ℕ) → covers ks ph x ≡ true → is_end (kind_at ks x) ≡ false
        → stolen (pushes p ks x) ≡ dropped labels (pushes p ks x) k
    stolen-dropped x c e = by (stolen y) refl (dropped labels y k) refl
      where
        y : ℕ
        y = pushes p ks x

        own : from_step ks y y ≡ true
        own = from-self ks sh y (pushed_within ks sh p y (x, (covered-inside ks sh p ph (split.cuts k h) x c).2, e, refl))

        by : (b : Bool) → stolen y ≡ b → (d : Bool) → dropped labels y k ≡ d → b ≡ d
        by true s true d = refl
        by false s false d = refl
        by true s false d =
            let gone = stolen-uncovered ks sh p ph (split.cuts k h) y y s own in
            absurd (true≢false (sym (rw d at (stays_covered k x h c e)) ∙ gone))
        by false s true d =
            let kept = pushed-covered ks sh p ph (split.cuts k h) x c e (λ m. true≢false (sym m ∙ s)) in
            absurd (true≢false (sym kept ∙ (rw d at (stays_covered k x h c e))))

    -- After a covered step, what is pending is covered.
    next-covered : (x : ℕ) (deque : List ℕ) → covers ks ph x ≡ true → ((y : ℕ) → Has deque y → covers ks ph y ≡ true)
        → (next : List ℕ) × (after_run stolen p ks x deque ≡ pop next) × ((y : ℕ) → Has next y → covers ks ph y ≡ true)
    unfolding after_run pop
    next-covered x deque c behind = by (is_end (kind_at ks x)) refl (stolen (pushes p ks x)) refl
      where
        on : is_end (kind_at ks x) ≡ false → (rest : List ℕ) → ((y : ℕ) → Has rest y → covers ks ph y ≡ true)
            → (y : ℕ) → Has (holds p ks x ∷ rest) y → covers ks ph y ≡ true
        on e rest cs y m =
            has_cases y (holds p ks x) rest m (λ s. rw s (held-covered ks sh p ph (split.cuts k h) x c e)) (cs y)

        by : (b : Bool) → is_end (kind_at ks x) ≡ b → (d : Bool) → stolen (pushes p ks x) ≡ d
            → (next : List ℕ) × (after_run stolen p ks x deque ≡ pop next) × ((y : ℕ) → Has next y → covers ks ph y ≡ true)
        by true e d s = (deque, rw e refl, behind)
        by false e true s = (holds p ks x ∷ deque, rw (e, s) refl, on e deque behind)
        by false e false s =
            let kept = pushed-covered ks sh p ph (split.cuts k h) x c e (λ m. true≢false (sym m ∙ s)) in (
              holds p ks x ∷ pushes p ks x ∷ deque,
              rw (e, s) refl,
              on e (pushes p ks x ∷ deque) (λ y m. has_cases y (pushes p ks x) deque m (λ t. rw t kept) (behind y)),
            )

    -- Both ways of running go on alike.
    runs_same : (m : ℕ) (stack : List ℕ) → ((x : ℕ) → Has stack x → covers ks ph x ≡ true)
        → run_alone (λ y. dropped labels y k) p ks m (pop stack) ≡ run_alone stolen p ks m (pop stack)
    unfolding run_alone pop
    runs_same zero stack cs = refl
    runs_same (suc m) [] cs = refl
    runs_same (suc m) (x ∷ deque) cs =
        let c = cs x (has_head x deque) in
        let next = next-covered x deque c (λ y m. cs y (has_tail y x deque m)) in
        let alike = after_same (λ y. dropped labels y k) stolen p ks x deque (λ e. sym (stolen-dropped x c e)) in
        rw (alike, next.1, runs_same m next.0 next.2) refl

  pub order_labelled : (k : ℕ) → k < length phs
      → phase_order p ks labels k (phase_at phs k).first ≡ running_order p ks (phase_at phs k)
  unfolding phase_order running_order pop
  order_labelled k h =
      let c = first-covered ks sh p (phase_at phs k) (split.cuts k h) in
      runs_same k h (length ks) ((phase_at phs k).first ∷ [])
      (λ x m. has_cases x (phase_at phs k).first [] m (λ s. rw s c) (λ t. has_none x t))
