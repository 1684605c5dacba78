-- What follows for the run list, and the theorem for every accepted trace.
use Prim.Native.Nat.{ℕ, zero, suc, ◌+◌, ◌≤◌, ◌<◌}
use Rattle.std.specs.Prelude.{◌≡◌, Bool, true, false, eqb}
use Rattle.std.proofs.Math.Path.{refl, ap}
use Rattle.std.proofs.Common.{◌∙◌, sym, eq-eqb, ne_eqb}
use Rattle.std.proofs.Math.Bool.{cond}
use mathlib.Core.List.{List, [], ◌∷◌, ◌++◌, map, flatten, zip_with, append-nil}
use Rattle.std.proofs.Math.Option.{some}
use Rattle.std.proofs.Math.Decide.{ℕ_discrete, dec_lt}
use native.Mathlib.Omega.{arith}
use Rattle.std.proofs.Math.ListN.{length}
use Rattle.rules.specs.Bytes.{records, count, any, sum}
use Rattle.rules.specs.Tree.{kinds}
use Rattle.rules.specs.Scheduling.{after_run, Phase, phase_at, Entry}
use Rattle.rules.specs.Traces.{covers, run_alone, running_order, run_list}
use Rattle.rules.specs.Calls.{start_verdict, replay_verdict}
use Rattle.tree.specs.Laws.Counts.{length-count}
use Rattle.tree.specs.Laws.Verdicts.{cond_same, first-accepts}
use Rattle.tree_scan.specs.Laws.Starts.{start-tree-accepts, admitted_policy}
use Rattle.tree_scan.specs.Laws.Shape.{Shape}
use Rattle.tree_scan.specs.Laws.Frames.{end_at, size_at, Frame, accepted-frame}
use Rattle.run_invariant.specs.Invariant.{log_of, self, frontier_end}
use Rattle.run_invariant.proofs.Laws.Counts.{sum_ones, sum_same, sum_below, sum_alike, sum_missed, sum_self}
use Rattle.run_invariant.proofs.Laws.Weights.{sum_append}
use Rattle.run_invariant.proofs.Laws.Moves.{log_append}
use Rattle.replay_invariant.specs.Invariant.{Cut, Split}
use Rattle.replay_invariant.specs.Splits.{phases_of, Splits}
use Rattle.replay_invariant.proofs.Laws.Parts.{covered-inside, covered_once, covered-sum, no_phase}
use Rattle.replay_invariant.proofs.Laws.Always.{always_split}
use Rattle.replay_invariant.proofs.Laws.Order.{order_sum, order_interval}

-- ---- the run list, phase by phase

-- The records of phase m with these steps.
unfoldable pub entries : ℕ → List ℕ → List Entry
entries m l = map (λ i. record { phase = m; step = i }) l

entries_own : (m k : ℕ) → m ≡ k → (l : List ℕ) → log_of k (entries m l) ≡ l
unfolding entries log_of
entries_own m k e [] = refl
entries_own m k e (x ∷ l) = rw (eq-eqb m k e) (ap (λ (r : List ℕ). x ∷ r) (entries_own m k e l))

entries_other : (m k : ℕ) → (m ≡ k → ⊥) → (l : List ℕ) → log_of k (entries m l) ≡ []
unfolding entries log_of
entries_other m k n [] = refl
entries_other m k n (x ∷ l) = rw (ne_eqb m k n) (entries_other m k n l)

entries_sum : (f : ℕ → ℕ) (m : ℕ) (l : List ℕ) → sum (λ e. f e.step) (entries m l) ≡ sum f l
unfolding entries sum
entries_sum f m [] = refl
entries_sum f m (x ∷ l) = omega (arith, entries_sum f m l)

module _ (p : ℕ) (ks : List ℕ) where
  -- The run list of phases numbered from a on.
  unfoldable pub list_from : ℕ → List Phase → List Entry
  list_from a [] = []
  list_from a (ph ∷ phs) = entries a (running_order p ks ph) ++ list_from (suc a) phs

  list_from_lem : (a : ℕ) (phs : List Phase)
      → flatten (zip_with (λ k ph. entries k (running_order p ks ph)) (count a (length phs)) phs) ≡ list_from a phs
  unfolding list_from flatten zip_with count
  list_from_lem a [] = refl
  list_from_lem a (ph ∷ phs) = ap (λ (l : List Entry). entries a (running_order p ks ph) ++ l) (list_from_lem (suc a) phs)

  pub list_is : (phs : List Phase) → run_list p ks phs ≡ list_from 0 phs
  unfolding run_list entries
  list_is phs = list_from_lem 0 phs

  from-none : (a k : ℕ) (phs : List Phase) → ((m : ℕ) → m < length phs → a + m ≡ k → ⊥) → log_of k (list_from a phs) ≡ []
  unfolding list_from log_of
  from-none a k [] n = refl
  from-none a k (ph ∷ phs) n =
      log_append k (entries a (running_order p ks ph)) (list_from (suc a) phs)
      ∙ rw (entries_other a k (λ e. n 0 (omega arith) (omega arith)) (running_order p ks ph))
      (from-none (suc a) k phs (λ m h e. n (suc m) (omega arith) (omega arith)))

  from_parts : (a k m : ℕ) (phs : List Phase) → m < length phs → a + m ≡ k
      → log_of k (list_from a phs) ≡ running_order p ks (phase_at phs m)
  unfolding list_from phase_at
  from_parts a k m [] h e = absurd (omega arith)
  from_parts a k zero (ph ∷ phs) h e =
      log_append k (entries a (running_order p ks ph)) (list_from (suc a) phs)
      ∙ rw (entries_own a k (omega arith) (running_order p ks ph), from-none (suc a) k phs (λ m l s. omega arith))
      (append-nil (running_order p ks ph))
  from_parts a k (suc m) (ph ∷ phs) h e =
      log_append k (entries a (running_order p ks ph)) (list_from (suc a) phs)
      ∙ rw (entries_other a k (λ s. omega arith) (running_order p ks ph)) (from_parts (suc a) k m phs (omega arith) (omega arith))

  from_sum : (f : ℕ → ℕ) (a : ℕ) (phs : List Phase)
      → sum (λ e. f e.step) (list_from a phs) ≡ sum (λ ph. sum f (running_order p ks ph)) phs
  unfolding list_from sum
  from_sum f a [] = refl
  from_sum f a (ph ∷ phs) =
      omega (
        arith,
        sum_append (λ (e : Entry). f e.step) (entries a (running_order p ks ph)) (list_from (suc a) phs),
        entries_sum f a (running_order p ks ph),
        from_sum f (suc a) phs,
      )

-- The run list's records with phase k are that phase's.
pub list_parts : (p : ℕ) (ks : List ℕ) (phs : List Phase) (k : ℕ) → k < length phs
    → log_of k (run_list p ks phs) ≡ running_order p ks (phase_at phs k)
list_parts p ks phs k h = rw (list_is p ks phs) (from_parts p ks 0 k k phs h (omega arith))

pub list_none : (p : ℕ) (ks : List ℕ) (phs : List Phase) (k : ℕ) → length phs ≤ k → log_of k (run_list p ks phs) ≡ []
list_none p ks phs k h = rw (list_is p ks phs) (from-none p ks 0 k phs (λ m l e. omega arith))

-- ---- one running order

alone-begins : (gone : ℕ → Bool) (p : ℕ) (ks : List ℕ) (m i : ℕ) (deque : List ℕ) → 1 ≤ m
    → (rest : List ℕ) × (run_alone gone p ks m (record { held = some i; deque = deque }) ≡ i ∷ rest)
unfolding run_alone
alone-begins gone p ks zero i deque h = absurd (omega arith)
alone-begins gone p ks (suc m) i deque h = (run_alone gone p ks m (after_run gone p ks i deque), refl)

order_begins : (p : ℕ) (ks : List ℕ) (ph : Phase) → 1 ≤ length ks → (rest : List ℕ) × (running_order p ks ph ≡ ph.first ∷ rest)
unfolding running_order
order_begins p ks ph h = alone-begins (λ x. any (eqb x) ph.stolen) p ks (length ks) ph.first [] h

-- Picking j and testing it is testing and picking j.
picks_self : (c : ℕ → Bool) (j i : ℕ) → cond (c i) (self j i) 0 ≡ cond (eqb j i) (cond (c i) 1 0) 0
unfolding self
picks_self c j i =
    elim (ℕ_discrete j i) [
      | yes e ↦ rw (eq-eqb j i e, eq-eqb i j (sym e)) refl
      | no n ↦ rw (ne_eqb j i n, ne_eqb i j (λ e. n (sym e))) (cond_same (c i) 0)
    ]

-- Of the numbers of an interval a test picks j or nothing.
picks_none : (c : ℕ → Bool) (j m a : ℕ) → ((i : ℕ) → i < m → a + i ≡ j → ⊥)
    → sum (λ i. cond (c i) (self j i) 0) (count a m) ≡ 0
picks_none c j m a n = sum_same _ _ (picks_self c j) (count a m) ∙ sum_missed (λ i. cond (c i) 1 0) j m a n

picks : (c : ℕ → Bool) (j m a : ℕ) → a ≤ j → j < a + m → sum (λ i. cond (c i) (self j i) 0) (count a m) ≡ cond (c j) 1 0
picks c j m a l u = sum_same _ _ (picks_self c j) (count a m) ∙ sum_self (λ i. cond (c i) 1 0) j m a l u

order_exactly : (p : ℕ) (ks : List ℕ) → Shape (length ks) (end_at ks) (size_at ks) → (ph : Phase) → Cut p ks ph → (j : ℕ)
    → sum (self j) (running_order p ks ph) ≡ cond (covers ks ph j) 1 0
order_exactly p ks sh ph cut j =
    elim (dec_lt j (length ks)) [
      | yes h ↦ order_sum p ks sh ph cut (self j) ∙ picks (covers ks ph) j (length ks) 0 (omega arith) (omega arith)
      | no n ↦ order_sum p ks sh ph cut (self j)
          ∙ (picks_none (covers ks ph) j (length ks) 0 (λ i h e. n (omega arith)) ∙ by n (covers ks ph j) refl)
    ]
  where
    by : (j < length ks → ⊥) → (b : Bool) → covers ks ph j ≡ b → ◌≡◌ {A = ℕ} 0 (cond b 1 0)
    by n true c = absurd (n (covered-inside ks sh p ph cut j c).2)
    by n false c = refl

module _ (p : ℕ) (ks : List ℕ) (some-step : 1 ≤ length ks) (sh : Shape (length ks) (end_at ks) (size_at ks)) (phs : List Phase)
    (split : Split p ks phs) where
  -- A running order begins with the phase's first step.
  pub order_first : (k : ℕ) → k < length phs
      → (rest : List ℕ) × (running_order p ks (phase_at phs k) ≡ (phase_at phs k).first ∷ rest)
  order_first k h = order_begins p ks (phase_at phs k) some-step

  -- A sum over the run list is one over all steps of the tree, each once.
  list_sum : (f : ℕ → ℕ) → sum (λ e. f e.step) (run_list p ks phs) ≡ sum f (count 0 (length ks))
  unfolding phase_at
  list_sum f =
      rw (list_is p ks phs)
      (from_sum p ks f 0 phs
      ∙ (sum_alike (λ ph. sum f (running_order p ks ph)) (λ ph. sum (λ j. cond (covers ks ph j) (f j) 0) (count 0 (length ks)))
      no_phase phs (λ k h. order_sum p ks sh (phase_at phs k) (split.cuts k h) f)
      ∙ covered-sum ks sh p some-step phs split f))

  pub list_length : length (run_list p ks phs) ≡ length ks
  list_length =
      omega (arith, sum_ones (run_list p ks phs), list_sum (λ j. 1), sum_ones (count 0 (length ks)), length-count (length ks) 0)

  -- No phase is without a step, so there are at most as many phases as steps.
  pub phases_most : length phs ≤ length ks
  unfolding sum phase_at
  phases_most =
      let steps : Phase → ℕ = λ ph. sum (λ j. 1) (running_order p ks ph) in
      let some : (k : ℕ) → 1 ≤ steps (phase_at phs k) = λ k. rw (order_begins p ks (phase_at phs k) some-step).1 (omega arith) in
      omega (
        arith,
        sum_ones phs,
        sum_below (λ ph. 1) steps no_phase phs some,
        from_sum p ks (λ j. 1) 0 phs,
        sum_ones (list_from p ks 0 phs),
        ap length (list_is p ks phs),
        list_length,
      )

  pub list_once : (j : ℕ) → j < length ks → sum (λ e. self j e.step) (run_list p ks phs) ≡ 1
  list_once j h = list_sum (self j) ∙ picks (λ i. true) j (length ks) 0 (omega arith) (omega arith)

  pub list_within : (j : ℕ) → length ks ≤ j → sum (λ e. self j e.step) (run_list p ks phs) ≡ 0
  list_within j h = list_sum (self j) ∙ picks_none (λ i. true) j (length ks) 0 (λ i l e. omega arith)

-- ---- accepted traces

pub replay_starts_lem : (w p : ℕ) (tree trace list : List ℕ) → (replay_verdict w p tree trace list).number ≡ 0
    → (start_verdict w p tree).number ≡ 0
unfolding replay_verdict
replay_starts_lem w p tree trace list e = (first-accepts _ _ e).0

-- What replay accepts has a tree that is accepted, and phases that split it.
pub replay_frame : (w p : ℕ) (tree trace list : List ℕ) → (replay_verdict w p tree trace list).number ≡ 0 → Frame tree
replay_frame w p tree trace list e = accepted-frame tree (start-tree-accepts w p tree (replay_starts_lem w p tree trace list e))

pub replay_split : (w p : ℕ) (tree trace list : List ℕ) → (replay_verdict w p tree trace list).number ≡ 0
    → Split p (kinds tree) (phases_of w p tree trace)
unfolding phases_of
replay_split w p tree trace list e =
    let frame = replay_frame w p tree trace list e in
    always_split p (admitted_policy w p tree (replay_starts_lem w p tree trace list e)) (kinds tree) frame.some frame.shape w
    (records 4 trace)

pub splits : (w p : ℕ) (tree trace list : List ℕ) → (replay_verdict w p tree trace list).number ≡ 0 → Splits w p tree trace
splits w p tree trace list e =
    let ks = kinds tree in
    let frame : Frame tree = replay_frame w p tree trace list e in
    let sh = frame.shape in
    let phs = phases_of w p tree trace in
    let split : Split p ks phs = replay_split w p tree trace list e in
    record {
      covered = covered_once ks sh p frame.some phs split;
      many = list_length p ks frame.some sh phs split;
      once = list_once p ks frame.some sh phs split;
      parts = list_parts p ks phs;
      exactly = λ k h. order_exactly p ks sh (phase_at phs k) (split.cuts k h);
      interval = λ f k h.
          let cut = split.cuts k h in
          (frontier_end ks (phase_at phs k), cut.interval f, order_interval p ks sh (phase_at phs k) cut f);
    }
