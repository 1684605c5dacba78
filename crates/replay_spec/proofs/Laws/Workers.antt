-- What `replay_steal::workers::judge_workers` answers by the table of the workers' latest phases, case by case, and that it is
-- what the rules say of a record before they look at its number.
use Rattle.std.specs.Prelude.{ℕ, ◌≤◌, ◌<◌, ◌≡◌, Bool, true, false, cond, ◌||◌, List, length, set, eqb}
use Rattle.std.proofs.Math.Path.{refl}
use Rattle.std.proofs.Common.{sym, arith, get_or-set_same, get_or-set_other}
use Rattle.std.proofs.Math.Option.{Option, none, some}
use Rattle.std.proofs.Math.Decide.{ℕ_discrete}
use Rattle.std.proofs.Math.ListN.{get_or}
use Rattle.std.proofs.Math.Dec.{leb}
use borrow.Author.Tests.{leb-false, eqb-true, eqb-false, lt-leb, eq-eqb, ne_eqb}
use Rattle.rules.specs.Scheduling.{most_workers, Phase, phase_at, begin}
use Rattle.rules.specs.Traces.{latest_phase, number_allowed, record_number, judge_read, judge_trace_record}
use Rattle.tree.specs.Laws.Verdicts.{or_none}
use Rattle.policy.specs.Contract.{worker_limit}
use Rattle.policy.proofs.Laws.Workers.{limit_is, first_far, second_far, far_eight}
use Rattle.replay_invariant.specs.Terms.{free}
use Rattle.replay_invariant.proofs.Laws.Always.{latest_own, latest_begin}
use Rattle.replay_spec.specs.Workers.{judged_workers}

-- A worker's latest phase, by the table.
abbrev pub LatestShown : Option ℕ → ℕ → Type 0
LatestShown none x = x ≡ free
LatestShown (some k) x = x ≡ k

-- The table shows all workers' latest phases.
abbrev pub Latest : List Phase → List ℕ → Type 0
Latest phs latest = (w : ℕ) → w < most_workers → LatestShown (latest_phase w 0 phs) (get_or latest w 0)

-- ---- each answer

module _ (c : ℕ) (latest : List ℕ) (thief victim : ℕ) where
  pub thief-refused : leb (worker_limit c) thief ≡ true → 8 ≡ judged_workers c latest thief victim
  unfolding judged_workers
  thief-refused e = far_eight _ _ (first_far c thief victim e)

  pub victim-refused : leb (worker_limit c) victim ≡ true → 8 ≡ judged_workers c latest thief victim
  unfolding judged_workers
  victim-refused e = far_eight _ _ (second_far c thief victim e)

  module _ (t : leb (worker_limit c) thief ≡ false) (v : leb (worker_limit c) victim ≡ false) where
    pub same-refused : thief ≡ victim → 13 ≡ judged_workers c latest thief victim
    unfolding judged_workers
    same-refused e = rw (t, v, eq-eqb thief victim e) refl

    -- Two workers: the table decides.
    by-table : (thief ≡ victim → ⊥) → judged_workers c latest thief victim ≡ cond (eqb (get_or latest victim 0) free) 14 0
    unfolding judged_workers
    by-table n = rw (t, v, ne_eqb thief victim n) refl

    pub unseen-refused : (thief ≡ victim → ⊥) → get_or latest victim 0 ≡ free → 14 ≡ judged_workers c latest thief victim
    unseen-refused n e = rw (by-table n, eq-eqb (get_or latest victim 0) free e) refl

    pub none-refused : (thief ≡ victim → ⊥) → (get_or latest victim 0 ≡ free → ⊥) → 0 ≡ judged_workers c latest thief victim
    none-refused n m = rw (by-table n, ne_eqb (get_or latest victim 0) free m) refl

-- ---- what no refusal says

refused_none : (out many same unseen : Bool) → ◌≡◌ {A = ℕ} (cond (out || many) 8 (cond same 13 (cond unseen 14 0))) 0
    → (out ≡ false) × (many ≡ false) × (same ≡ false) × (unseen ≡ false)
refused_none true many same unseen e = absurd (omega arith)
refused_none false true same unseen e = absurd (omega arith)
refused_none false false true unseen e = absurd (omega arith)
refused_none false false false true e = absurd (omega arith)
refused_none false false false false e = (refl, refl, refl, refl)

-- A count up to sixteen, as a start accepts it, is the limit.
pub fine_workers : (c : ℕ) → c ≤ most_workers → (latest : List ℕ) (thief victim : ℕ) → judged_workers c latest thief victim ≡ 0
    → (thief < c) × (victim < c) × (thief ≡ victim → ⊥) × (get_or latest victim 0 ≡ free → ⊥)
unfolding judged_workers
fine_workers c most latest thief victim e =
    let judged = rw (limit_is c most) at e in
    let by = refused_none (leb c thief) (leb c victim) (eqb thief victim) (eqb (get_or latest victim 0) free) judged in (
      leb-false c thief by.0,
      leb-false c victim by.1,
      eqb-false thief victim by.2,
      eqb-false (get_or latest victim 0) free by.3,
    )

-- ---- the rules

-- A refusal by the workers is decided before the number, which is `rest`.
refused-first : (out same unseen : Bool) (rest : ℕ) → (out ≡ false → unseen ≡ true → rest ≡ 14)
    → (◌≡◌ {A = ℕ} (cond out 8 (cond same 13 (cond unseen 14 0))) 0 → ⊥)
    → ◌≡◌ {A = ℕ} (cond out 8 (cond same 13 rest)) (cond out 8 (cond same 13 (cond unseen 14 0)))
refused-first true same unseen rest f n = refl
refused-first false true unseen rest f n = refl
refused-first false false true rest f n = f refl refl
refused-first false false false rest f n = absurd (n refl)

module _ (phs : List Phase) (latest : List ℕ) (shown : Latest phs latest) where
  -- A worker's latest phase, where the table has one.
  pub latest_some : (w : ℕ) → w < most_workers → (get_or latest w 0 ≡ free → ⊥) → latest_phase w 0 phs ≡ some (get_or latest w 0)
  latest_some w h n = by (latest_phase w 0 phs) refl (shown w h)
    where
      by : (o : Option ℕ) → latest_phase w 0 phs ≡ o → LatestShown o (get_or latest w 0)
          → latest_phase w 0 phs ≡ some (get_or latest w 0)
      by none e x = absurd (n x)
      by (some k) e x = rw x e

  -- Where it has none, there is none.
  latest_none : length phs ≤ free → (w : ℕ) → w < most_workers → get_or latest w 0 ≡ free → latest_phase w 0 phs ≡ none
  latest_none few w h f = by (latest_phase w 0 phs) refl (shown w h)
    where
      by : (o : Option ℕ) → latest_phase w 0 phs ≡ o → LatestShown o (get_or latest w 0) → latest_phase w 0 phs ≡ none
      by none e x = e
      by (some k) e x = absurd (omega (arith, (latest_own w phs k e).0))

  -- A thief's new phase goes into the table.
  pub latest_next : (t k s : ℕ) → t < length latest → k < length phs → Latest (begin phs t k s) (set latest t (length phs))
  latest_next t k s l h w b =
      elim (ℕ_discrete w t) [
        | yes e ↦ rw ((latest_begin w t k s phs h).0 (sym e), e) (get_or-set_same latest t (length phs) 0 l)
        | no n ↦ rw ((latest_begin w t k s phs h).1 (λ e. n (sym e)), get_or-set_other latest t w (length phs) 0 n) (shown w b)
      ]

  -- A record of a run with a count up to sixteen.
  module _ (c p : ℕ) (most : c ≤ most_workers) (ks r : List ℕ) where
    pub judged-stop : length phs ≤ free → (judged_workers c latest (get_or r 0 0) (get_or r 1 0) ≡ 0 → ⊥)
        → judge_trace_record c p ks phs r ≡ judged_workers c latest (get_or r 0 0) (get_or r 1 0)
    unfolding judge_trace_record judged_workers judge_read
    judged-stop few n =
        let thief = get_or r 0 0 in
        let victim = get_or r 1 0 in
        rw (limit_is c most)
        (refused-first (leb c thief || leb c victim) (eqb thief victim) (eqb (get_or latest victim 0) free)
        (judge_read p ks phs victim (record_number r)) (λ out unseen.
        let h = leb-false c victim (or_none (leb c thief) (leb c victim) out).1 in
        let none = latest_none few victim (omega arith) (eqb-true (get_or latest victim 0) free unseen) in
        rw (none, judge_read) refl) (rw (limit_is c most) at n))

    -- Where the workers are not refused, the number decides.
    pub judged-on : judged_workers c latest (get_or r 0 0) (get_or r 1 0) ≡ 0
        → judge_trace_record c p ks phs r
        ≡ cond (number_allowed p ks (phase_at phs (get_or latest (get_or r 1 0) 0)) (record_number r)) 0 15
    unfolding judge_trace_record judge_read
    judged-on e =
        let thief = get_or r 0 0 in
        let victim = get_or r 1 0 in
        let f = fine_workers c most latest thief victim e in
        let known = latest_some victim (omega (arith, f.1)) f.3 in
        rw (lt-leb c thief f.0, lt-leb c victim f.1, ne_eqb thief victim f.2, known, judge_read) refl
