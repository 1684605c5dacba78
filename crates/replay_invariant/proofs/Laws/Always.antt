-- The phases of every trace that is read, up to the first record that is refused, split the tree.
use Prim.Native.Nat.{ℕ, zero, suc, ◌+◌, ◌≤◌, ◌<◌}
use Rattle.std.specs.Prelude.{◌≡◌, Bool, true, false, cond, ◌⊎◌, length, get_or, set, eqb}
use Rattle.std.proofs.Math.Path.{refl}
use Rattle.std.proofs.Common.{sym, ap, ◌∙◌, zero-add, length-set}
use Rattle.std.proofs.Math.Bool.{or-true}
use mathlib.Core.List.{List, [], ◌∷◌, ◌++◌}
use Rattle.std.proofs.Math.Option.{Option, none, some}
use Rattle.std.proofs.Math.Decide.{ℕ_discrete, dec_lt}
use native.Mathlib.Omega.{arith}
use borrow.Author.Tests.{eqb-true, eq-eqb, ne_eqb, le-leb, lt-leb}
use Rattle.rules.specs.Bytes.{sum, walk}
use Rattle.rules.specs.Scheduling.{work_first, help_first, Phase, first_phases, phase_at, begin}
use Rattle.rules.specs.Traces.{latest_phase, number_allowed, stolen_step, record_number, judge_read, judge_trace_record, next_phases}
use Rattle.rules.specs.Traces.{replay_walk}
use Rattle.tree_scan.specs.Laws.Shape.{Shape}
use Rattle.tree_scan.specs.Laws.Frames.{end_at, size_at}
use Rattle.run_invariant.proofs.Laws.Weights.{pushed_within}
use Rattle.run_invariant.proofs.Laws.Moves.{robbed, sum_one, sum_set, begin-length, begin_new, begin-robbed, begin_other}
use Rattle.replay_invariant.specs.Invariant.{Taken, Split}
use Rattle.replay_invariant.proofs.Laws.Reads.{allowed_taken, cut-robbed, cut-fresh}

-- ---- latest phases

-- Phase i + m of phases counted from i is one of worker w.
abbrev Own : ℕ → ℕ → List Phase → ℕ → Type 0
Own w i phs k = (m : ℕ) × (k ≡ i + m) × (m < length phs) × ((phase_at phs m).worker ≡ w)

latest_from : (w i k : ℕ) (phs : List Phase) → latest_phase w i phs ≡ some k → Own w i phs k
unfolding latest_phase phase_at
latest_from w i k [] e = let z : ◌≡◌ {A = ℕ} 0 1 = cc in absurd (omega arith)
latest_from w i k (ph ∷ phs) e = by (latest_phase w (suc i) phs) refl (λ l. latest_from w (suc i) k phs l)
  where
    here : (b : Bool) → eqb ph.worker w ≡ b → cond b (some i) none ≡ some k → Own w i (ph ∷ phs) k
    here true t l =
        let same : i ≡ k = cc in
        (0, omega arith, omega arith, eqb-true ph.worker w t)
    here false t l = let z : ◌≡◌ {A = ℕ} 0 1 = cc in absurd (omega arith)

    by : (o : Option ℕ) → latest_phase w (suc i) phs ≡ o → (latest_phase w (suc i) phs ≡ some k → Own w (suc i) phs k)
        → Own w i (ph ∷ phs) k
    by (some later) l rest =
        let x = rest (l ∙ (rw l at e)) in
        (suc x.0, omega (arith, x.1), omega (arith, x.2), x.3)
    by none l rest = here (eqb ph.worker w) refl (rw l at e)

-- A worker's latest phase is one of its own.
pub latest_own : (w : ℕ) (phs : List Phase) (k : ℕ) → latest_phase w 0 phs ≡ some k
    → (k < length phs) × ((phase_at phs k).worker ≡ w)
latest_own w phs k e =
    let x = latest_from w 0 k phs e in
    let same : k ≡ x.0 = omega (arith, x.1) in
    rw same (x.2, x.3)

-- What is found of phases counted from i, the first of them of worker o, from what is found behind it.
found : ℕ → ℕ → ℕ → Option ℕ → Option ℕ
found w i o (some later) = some later
found w i o none = cond (eqb o w) (some i) none

latest_cons : (w i : ℕ) (ph : Phase) (phs : List Phase)
    → latest_phase w i (ph ∷ phs) ≡ found w i ph.worker (latest_phase w (suc i) phs)
unfolding latest_phase found
latest_cons w i ph phs = by (latest_phase w (suc i) phs) refl
  where
    by : (o : Option ℕ) → latest_phase w (suc i) phs ≡ o
        → latest_phase w i (ph ∷ phs) ≡ found w i ph.worker (latest_phase w (suc i) phs)
    by none e = rw (e, latest_phase) refl
    by (some later) e = rw (e, latest_phase) refl

latest_set : (w i k : ℕ) (phs : List Phase) (x : Phase) → x.worker ≡ (phase_at phs k).worker
    → latest_phase w i (set phs k x) ≡ latest_phase w i phs
unfolding phase_at
latest_set w i k [] x e = refl
latest_set w i zero (ph ∷ phs) x e = rw (latest_cons w i x phs, e) (sym (latest_cons w i ph phs))
latest_set w i (suc k) (ph ∷ phs) x e =
    rw (latest_cons w i ph (set phs k x), latest_set w (suc i) k phs x e) (sym (latest_cons w i ph phs))

latest_one : (w i : ℕ) (phs : List Phase) (x : Phase)
    → latest_phase w i (phs ++ (x ∷ [])) ≡ cond (eqb x.worker w) (some (i + length phs)) (latest_phase w i phs)
unfolding latest_phase found
latest_one w i [] x =
    let same : i + 0 ≡ i = omega arith in
    rw same refl
latest_one w i (ph ∷ phs) x =
    rw (latest_cons w i ph (phs ++ (x ∷ [])), latest_one w (suc i) phs x, latest_cons w i ph phs)
    (by (eqb x.worker w) (latest_phase w (suc i) phs))
  where
    by : (b : Bool) (o : Option ℕ)
        → found w i ph.worker (cond b (some (suc i + length phs)) o)
        ≡ cond b (some (i + suc (length phs))) (found w i ph.worker o)
    by true o =
        let same : suc i + length phs ≡ i + suc (length phs) = omega arith in
        ap {B = Option ℕ} some same
    by false o = refl

-- A thief's new phase becomes its latest; other workers' stay.
pub latest_begin : (w t k s : ℕ) (phs : List Phase) → k < length phs
    → (t ≡ w → latest_phase w 0 (begin phs t k s) ≡ some (length phs))
    × ((t ≡ w → ⊥) → latest_phase w 0 (begin phs t k s) ≡ latest_phase w 0 phs)
unfolding begin
latest_begin w t k s phs h =
    let old = set phs k (robbed (phase_at phs k) s) in
    let new : Phase = record { worker = t; first = s; stolen = [] } in (
      λ e. latest_one w 0 old new ∙ rw (eq-eqb t w e, length-set, zero-add) refl,
      λ n. latest_one w 0 old new ∙ rw (ne_eqb t w n) (latest_set w 0 k phs (robbed (phase_at phs k) s) refl),
    )

-- ---- one record

-- A record that is not refused: what it says.
pub record Read (w p : ℕ) (ks : List ℕ) (phs : List Phase) (r : List ℕ) : Type 0 where
  pub thief : get_or r 0 0 < w
  pub victim : get_or r 1 0 < w
  pub other : get_or r 0 0 ≡ get_or r 1 0 → ⊥
  pub from : ℕ
  pub latest : latest_phase (get_or r 1 0) 0 phs ≡ some from
  pub allowed : number_allowed p ks (phase_at phs from) (record_number r) ≡ true

judge_allows : (p : ℕ) (ks : List ℕ) (phs : List Phase) (victim number : ℕ) → judge_read p ks phs victim number ≡ 0
    → (k : ℕ) × (latest_phase victim 0 phs ≡ some k) × (number_allowed p ks (phase_at phs k) number ≡ true)
unfolding judge_read
judge_allows p ks phs victim number j = by (latest_phase victim 0 phs) refl
  where
    allowed : (k : ℕ) (b : Bool) → number_allowed p ks (phase_at phs k) number ≡ b → ◌≡◌ {A = ℕ} (cond b 0 15) 0
        → number_allowed p ks (phase_at phs k) number ≡ true
    allowed k true e z = e
    allowed k false e z = absurd (omega arith)

    by : (o : Option ℕ) → latest_phase victim 0 phs ≡ o
        → (k : ℕ) × (latest_phase victim 0 phs ≡ some k) × (number_allowed p ks (phase_at phs k) number ≡ true)
    by none e = absurd (omega (arith, rw (e, judge_read) at j))
    by (some k) e = (k, e, allowed k (number_allowed p ks (phase_at phs k) number) refl (rw (e, judge_read) at j))

module _ (w p : ℕ) (ks : List ℕ) (phs : List Phase) (r : List ℕ) where
  thief-below : judge_trace_record w p ks phs r ≡ 0 → get_or r 0 0 < w
  unfolding judge_trace_record
  thief-below j =
      elim (dec_lt (get_or r 0 0) w) [
        | yes h ↦ h
        | no n ↦ absurd (omega (arith, rw (le-leb w (get_or r 0 0) (omega arith)) at j))
      ]

  victim-below : judge_trace_record w p ks phs r ≡ 0 → get_or r 1 0 < w
  unfolding judge_trace_record
  victim-below j =
      elim (dec_lt (get_or r 1 0) w) [
        | yes h ↦ h
        | no n ↦ absurd (omega (arith, rw (le-leb w (get_or r 1 0) (omega arith), or-true) at j))
      ]

  judged-pair : judge_trace_record w p ks phs r ≡ 0
      → cond (eqb (get_or r 0 0) (get_or r 1 0)) 13 (judge_read p ks phs (get_or r 1 0) (record_number r)) ≡ 0
  unfolding judge_trace_record
  judged-pair j = rw (lt-leb w (get_or r 0 0) (thief-below j), lt-leb w (get_or r 1 0) (victim-below j)) at j

  judged_other : judge_trace_record w p ks phs r ≡ 0 → get_or r 0 0 ≡ get_or r 1 0 → ⊥
  judged_other j e = omega (arith, rw (eq-eqb (get_or r 0 0) (get_or r 1 0) e) at (judged-pair j))

  judged_rest : judge_trace_record w p ks phs r ≡ 0 → judge_read p ks phs (get_or r 1 0) (record_number r) ≡ 0
  judged_rest j = rw (ne_eqb (get_or r 0 0) (get_or r 1 0) (judged_other j)) at (judged-pair j)

  pub judged-read : judge_trace_record w p ks phs r ≡ 0 → Read w p ks phs r
  judged-read j =
      let x = judge_allows p ks phs (get_or r 1 0) (record_number r) (judged_rest j) in
      record {
        thief = thief-below j;
        victim = victim-below j;
        other = judged_other j;
        from = x.0;
        latest = x.1;
        allowed = x.2;
      }

  pub read_next : (x : Read w p ks phs r)
      → next_phases p ks phs r ≡ begin phs (get_or r 0 0) x.from (stolen_step p ks (phase_at phs x.from) (record_number r))
  unfolding next_phases
  read_next x = rw (x.latest, next_phases) refl

-- ---- all records

module _ (p : ℕ) (either : (p ≡ work_first) ⊎ (p ≡ help_first)) (ks : List ℕ) (some-step : 1 ≤ length ks)
    (sh : Shape (length ks) (end_at ks) (size_at ks)) where
  pub first-split : Split p ks first_phases
  unfolding first_phases phase_at sum
  first-split =
      record {
        cuts = λ k h.
            let zero : k ≡ 0 = omega arith in
            rw zero (cut-fresh ks sh p 0 0 (omega arith));
        begun = λ f. omega arith;
      }

  begin-begun : (phs : List Phase) → Split p ks phs → (t k s : ℕ) → k < length phs → (f : ℕ → ℕ)
      → sum (λ ph. f ph.first) (begin phs t k s) ≡ f 0 + sum (λ ph. sum f ph.stolen) (begin phs t k s)
  unfolding begin phase_at sum
  begin-begun phs split t k s h f =
      let old = phase_at phs k in
      let none : Phase = record { worker = 0; first = 0; stolen = [] } in
      let new : Phase = record { worker = t; first = s; stolen = [] } in
      omega (
        arith,
        split.begun f,
        sum_one (λ (ph : Phase). f ph.first) (set phs k (robbed old s)) new,
        sum_one (λ (ph : Phase). sum f ph.stolen) (set phs k (robbed old s)) new,
        sum_set (λ (ph : Phase). f ph.first) phs k (robbed old s) none h,
        sum_set (λ (ph : Phase). sum f ph.stolen) phs k (robbed old s) none h,
        sum_one f old.stolen s,
      )

  pub begin-split : (phs : List Phase) → Split p ks phs → (t k s : ℕ) → k < length phs → Taken p ks (phase_at phs k) s
      → Split p ks (begin phs t k s)
  begin-split phs split t k s h taken =
      record {
        cuts = λ j l. let more = begin-length phs t k s in elim (ℕ_discrete j (length phs)) [
          | yes e ↦ rw (e, begin_new phs t k s) (cut-fresh ks sh p t s (pushed_within ks sh p s taken.pushed))
          | no n ↦ elim (ℕ_discrete j k) [
            | yes e ↦ rw (e, begin-robbed phs t k s h) (cut-robbed ks sh p (phase_at phs k) s (split.cuts k h) taken)
            | no m ↦ rw (begin_other phs t k s j (omega arith) m) (split.cuts j (omega arith))
          ]
        ];
        begun = begin-begun phs split t k s h;
      }

  pub read_keeps : (w : ℕ) (phs : List Phase) (r : List ℕ) → Split p ks phs → judge_trace_record w p ks phs r ≡ 0
      → Split p ks (next_phases p ks phs r)
  read_keeps w phs r split j =
      let x = judged-read w p ks phs r j in
      let k = x.from in
      let within = (latest_own (get_or r 1 0) phs k x.latest).0 in
      rw (read_next w p ks phs r x)
      (begin-split phs split (get_or r 0 0) k (stolen_step p ks (phase_at phs k) (record_number r)) within
      (allowed_taken ks sh p either (phase_at phs k) (split.cuts k within) (record_number r) x.allowed))

  walk_split : (w i : ℕ) (phs : List Phase) (rs : List (List ℕ)) → Split p ks phs
      → Split p ks (walk (judge_trace_record w p ks) (next_phases p ks) i phs rs).state
  unfolding walk
  walk_split w i phs [] split = split
  walk_split w i phs (r ∷ rs) split =
      elim (ℕ_discrete (judge_trace_record w p ks phs r) 0) [
        | yes e ↦ rw (eq-eqb (judge_trace_record w p ks phs r) 0 e)
            (walk_split w (suc i) (next_phases p ks phs r) rs (read_keeps w phs r split e))
        | no n ↦ rw (ne_eqb (judge_trace_record w p ks phs r) 0 n) split
      ]

  pub always_split : (w : ℕ) (rs : List (List ℕ)) → Split p ks (replay_walk w p ks rs).state
  unfolding replay_walk
  always_split w rs = walk_split w 0 first_phases rs first-split
