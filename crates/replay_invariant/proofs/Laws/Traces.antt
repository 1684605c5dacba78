-- The trace of a run replays to the run's own phases.
use Prim.Native.Nat.{ℕ, zero, suc, ◌+◌, ◌-◌, ◌/◌, ◌≤◌, ◌<◌}
use Rattle.std.specs.Prelude.{◌≡◌, Bool, ◌||◌, ◌⊎◌, length, get_or}
use Rattle.std.proofs.Math.Path.{refl, ap}
use Rattle.std.proofs.Common.{sym, ◌∙◌, true≢false}
use Rattle.std.proofs.Math.Bool.{true, false, cond, or-true}
use mathlib.Core.List.{List, [], ◌∷◌, ◌++◌, map, flatten, drop_last}
use Rattle.std.proofs.Math.Logic.{⊎_elim}
use Rattle.std.proofs.Math.Option.{Option, none, some}
use Rattle.std.proofs.Math.Decide.{ℕ_discrete, dec_lt}
use native.Mathlib.Omega.{arith}
use Rattle.std.proofs.Math.ListN.{length-set}
use Rattle.std.proofs.lemmas.List.{length-replicate}
use Rattle.std.proofs.Math.Dec.{eqb}
use borrow.Author.Tests.{lt-ltb, le-ltb, le-leb, lt-leb, eq-eqb, ne_eqb, eqb-false}
use Rattle.rules.specs.Bytes.{records, cut, two_bytes, any, sum, accepted, Walked, walk}
use Rattle.rules.specs.Tree.{kind_at, is_async, is_finish, is_end, task, ordinal, task_end, cont}
use Rattle.rules.specs.Scheduling.{work_first, help_first, pushes_child, pushes, Phase, first_phases, phase_at, begin, Steal, Run}
use Rattle.rules.specs.Scheduling.{idle_worker, start, worker_at, holds_step, is_run, oldest, steal, judge_event, next_run}
use Rattle.rules.specs.Traces.{trace_number, trace_bytes, from_step, covers, latest_phase, last_stolen, frontier, child_count, task_step}
use Rattle.rules.specs.Traces.{ordinal_allowed, starts_async, follows_finish, serial_allowed, number_allowed, stolen_step, record_number}
use Rattle.rules.specs.Traces.{judge_read, judge_trace_record, next_phases, replay_walk}
use Rattle.rules.specs.Calls.{event_call, after_events}
use Rattle.tree.specs.Laws.Records.{number_back}
use Rattle.tree_scan.specs.Laws.Shape.{Shape}
use Rattle.tree_scan.specs.Laws.Frames.{end_at, size_at}
use Rattle.tree_scan.specs.Laws.Places.{ordinal-cont, finish_cont, ordinal_most}
use Rattle.run_invariant.specs.Invariant.{self, log_of, Pushed, PhaseFacts, Invariant}
use Rattle.run_invariant.proofs.Laws.Counts.{count_all, any_sum}
use Rattle.run_invariant.proofs.Laws.Weights.{span, end_within, span_weighs, span-some, span_most, span_in, span-inside, span-self}
use Rattle.run_invariant.proofs.Laws.Phase.{first-pushes, held_within, oldest_pushed, oldest_within, oldest-last}
use Rattle.run_invariant.proofs.Laws.Moves.{get_or_alike, map-one, some_holds, holds-some, onward, ran, run_is, ran_here, ran_other}
use Rattle.run_invariant.proofs.Laws.Moves.{enriched, lightened, steal-thief, steal_other, steal-victim, victim-rich, first_within}
use Rattle.run_invariant.proofs.Laws.Moves.{second_within, run_held, event_runs, event_steals, sum_one, rich-holds, held_facts}
use Rattle.run_invariant.proofs.Laws.Always.{start_invariant, event_keeps}
use Rattle.run_invariant.proofs.Laws.Consequences.{oldest-frontier}
use Rattle.replay_invariant.proofs.Laws.Tasks.{step_of, task_step_lem, at_most_count}
use Rattle.replay_invariant.proofs.Laws.Always.{latest_begin}

-- ---- the trace's records

-- A steal's record.
unfoldable traced : ℕ → List ℕ → Steal → List ℕ
traced p ks s = s.thief ∷ s.victim ∷ two_bytes (trace_number p ks s.step)

records_four : (a b c d : ℕ) (rest : List ℕ) → records 4 (a ∷ b ∷ c ∷ d ∷ rest) ≡ (a ∷ b ∷ c ∷ d ∷ []) ∷ records 4 rest
unfolding records cut
records_four a b c d rest =
    let more : length (a ∷ b ∷ c ∷ d ∷ rest) / 4 ≡ suc (length rest / 4) = omega arith in
    rw more refl

trace_records : (p : ℕ) (ks : List ℕ) (steals : List Steal) → records 4 (trace_bytes p ks steals) ≡ map (traced p ks) steals
unfolding trace_bytes traced two_bytes flatten records cut
trace_records p ks [] = refl
trace_records p ks (s ∷ steals) =
    records_four _ _ _ _ (trace_bytes p ks steals)
    ∙ ap (λ (l : List (List ℕ)). traced p ks s ∷ l) (trace_records p ks steals)

-- One record more, at the end of an accepted walk.
module _ {R S : Type 0} (judge : S → R → ℕ) (next : S → R → S) where
  walk_one : (rs : List R) (i : ℕ) (s t : S) (r : R)
      → walk judge next i s rs ≡ record { verdict = accepted; state = t } → judge t r ≡ 0
      → walk judge next i s (rs ++ (r ∷ [])) ≡ record { verdict = accepted; state = next t r }
  unfolding walk accepted
  walk_one [] i s t r e j =
      let same : s ≡ t = ap (λ (x : Walked S). x.state) e in
      rw (same, eq-eqb (judge t r) 0 j) refl
  walk_one (q ∷ rs) i s t r e j =
      elim (ℕ_discrete (judge s q) 0) [
        | yes z ↦
            let rest = rw (eq-eqb (judge s q) 0 z) at e in
            rw (eq-eqb (judge s q) 0 z) (walk_one rs (suc i) (next s q) t r rest j)
        | no n ↦
            let bad = rw (ne_eqb (judge s q) 0 n) at e in
            absurd (n (ap (λ (x : Walked S). x.verdict.number) bad))
      ]

-- ---- a record that is accepted

module _ (w p : ℕ) (ks : List ℕ) (phs : List Phase) (t v number k : ℕ) (small : number < 65536)
    (latest : latest_phase v 0 phs ≡ some k) where
  judged : number_allowed p ks (phase_at phs k) number ≡ true → judge_read p ks phs v number ≡ 0
  unfolding judge_read
  judged allowed = rw (judge_read, latest, allowed) refl

  read-accepts : t < w → v < w → (t ≡ v → ⊥) → number_allowed p ks (phase_at phs k) number ≡ true
      → judge_trace_record w p ks phs (t ∷ v ∷ two_bytes number) ≡ 0
  unfolding judge_trace_record record_number
  read-accepts lt lv n allowed = rw (lt-leb w t lt, lt-leb w v lv, ne_eqb t v n, number_back number small) (judged allowed)

  read-begins : next_phases p ks phs (t ∷ v ∷ two_bytes number) ≡ begin phs t k (stolen_step p ks (phase_at phs k) number)
  unfolding next_phases record_number
  read-begins = rw (next_phases, latest, number_back number small) refl

-- ---- steps

module _ (ks : List ℕ) (sh : Shape (length ks) (end_at ks) (size_at ks)) where
  number_small : (p x : ℕ) → length ks ≤ 4095 → x < length ks → trace_number p ks x < 65536
  unfolding trace_number
  number_small p x few h = by (eqb p work_first)
    where
      by : (b : Bool) → cond b (ordinal ks x) x < 65536
      by true = omega (arith, ordinal_most ks sh x h)
      by false = omega arith

  -- Of two steps of a task, the later has the greater ordinal.
  ordinal_rises : (x y : ℕ) → x < y → y < length ks → task ks x ≡ task ks y → ordinal ks x < ordinal ks y
  ordinal_rises x y l h same =
      elim (dec_lt (ordinal ks x) (ordinal ks y)) [
        | yes less ↦ less
        | no n ↦
            let few : ordinal ks x ≤ child_count ks (task ks y) = rw same at (at_most_count ks sh x (omega arith)) in
            let back : task_step ks (task ks y) (ordinal ks x) ≡ x = rw same at (step_of ks sh x (omega arith)) in
            absurd (omega (arith, task_step_lem ks sh y (ordinal ks x) h (omega arith) few))
      ]

  -- Help-first pushes the first step of an async child, or the step after a finish child.
  serial_rule : (p q : ℕ) → p ≡ help_first → q < length ks → is_end (kind_at ks q) ≡ false → (1 ≤ kind_at ks q) × (kind_at ks q ≤ 3)
      → starts_async ks (pushes p ks q) || follows_finish ks (pushes p ks q) ≡ true
  unfolding pushes pushes_child starts_async follows_finish is_end is_async is_finish end_at
  serial_rule p q help h e kind = rw help (by (eqb (kind_at ks q) 1) refl)
    where
      by : (b : Bool) → eqb (kind_at ks q) 1 ≡ b
          → starts_async ks (pushes help_first ks q) || follows_finish ks (pushes help_first ks q) ≡ true
      by true a = rw (a, a) refl
      by false a =
          let finish : kind_at ks q ≡ 2 = omega (arith, eqb-false (kind_at ks q) 1 a, eqb-false (kind_at ks q) 3 e) in
          rw (a, follows_finish, finish_cont ks sh q h e, eq-eqb (kind_at ks q) 2 finish) (or-true (starts_async ks (cont ks q)))

-- ---- what is stolen from a phase

module _ (p : ℕ) (ks : List ℕ) (sh : Shape (length ks) (end_at ks) (size_at ks)) (ph : Phase) (log : List ℕ) (i : ℕ)
    (deque : List ℕ) (f : PhaseFacts p ks ph log (i ∷ deque)) (rich : length deque ≡ 0 → ⊥) where
  abbrev loot : ℕ
  loot = oldest deque

  loot_within : loot < length ks
  loot_within = oldest_within p ks sh i deque rich f.chain

  loot_pushed : Pushed p ks loot
  loot_pushed = oldest_pushed p ks sh i deque rich f.chain

  -- The parts from the held step, from the oldest of the deque and from what was stolen before are apart.
  apart : (j : ℕ) → span ks j i + span ks j loot + sum (span ks j) ph.stolen ≤ span ks j ph.first
  unfolding sum
  apart j =
      let last = oldest-last deque rich in
      let parts = f.cover (span ks j) (self j) (span_weighs ks sh j) in
      omega (arith, rw last at parts, sum_one (span ks j) (drop_last deque) loot)

  loot-later : ph.first < loot
  loot-later =
      let from = span-inside ks loot ph.first (omega (arith, apart loot, span-self ks sh loot loot_within)) in
      elim (ℕ_discrete ph.first loot) [
        | yes e ↦
            let same : span ks i ph.first ≡ span ks i loot = ap (span ks i) e in
            absurd (omega (arith, apart i, span-self ks sh i (held_within p ks sh i deque f.chain)))
        | no n ↦ omega arith
      ]

  loot_covered : (j : ℕ) → loot ≤ j → j < task_end ks loot → covers ks ph j ≡ true
  unfolding covers span
  loot_covered j l u =
      let here = span_in ks j loot l u in
      let first = span-some ks j ph.first (omega (arith, apart j)) in
      let none_left : sum (span ks j) ph.stolen ≤ 0 = omega (arith, apart j, span_most ks j ph.first) in
      let kept : any (λ s. from_step ks s j) ph.stolen ≡ false =
      any_sum (λ s. from_step ks s j) ph.stolen ∙ le-ltb 0 (sum (span ks j) ph.stolen) none_left in
      rw (first, kept) refl

  serial_allowed_lem : p ≡ help_first → ((x : ℕ) → x < length ks → (1 ≤ kind_at ks x) × (kind_at ks x ≤ 3))
      → serial_allowed ks ph loot ≡ true
  unfolding serial_allowed
  serial_allowed_lem e kind =
      let by = loot_pushed in
      let rule = serial_rule ks sh p by.0 e by.1 by.2 (kind by.0 by.1) in
      let inside = end_within ks sh loot loot_within in
      rw (lt-ltb loot (length ks) loot_within, rw (← by.3) at rule, ne_eqb loot ph.first (omega (arith, loot-later)))
      (count_all (covers ks ph) (task_end ks loot - loot) loot (λ j l u. loot_covered j l (omega arith)))

  ordinal_allowed_lem : p ≡ work_first → task ks loot ≡ frontier ks ph → ordinal_allowed ks ph (ordinal ks loot) ≡ true
  unfolding ordinal_allowed frontier end_at
  ordinal_allowed_lem e same = by (last_stolen ph.stolen) refl
    where
      pushed : 1 ≤ ordinal ks loot
      pushed =
          let by = loot_pushed in
          let named : loot ≡ cont ks by.0 = by.3 ∙ first-pushes p ks by.0 e in
          omega (arith, ap (ordinal ks) named, ordinal-cont ks sh by.0 by.1 by.2)

      few : ordinal ks loot ≤ child_count ks (frontier ks ph)
      few = rw same at (at_most_count ks sh loot loot_within)

      by : (o : Option ℕ) → last_stolen ph.stolen ≡ o → ordinal_allowed ks ph (ordinal ks loot) ≡ true
      by none z =
          let first : task ks ph.first ≡ task ks loot = sym (rw (frontier, z) at same) in
          let rises = ordinal_rises ks sh ph.first loot loot-later loot_within first in
          rw (le-leb 1 (ordinal ks loot) pushed, le-leb (ordinal ks loot) (child_count ks (frontier ks ph)) few, z)
          (lt-ltb (ordinal ks ph.first) (ordinal ks loot) rises)
      by (some s) z =
          rw (le-leb 1 (ordinal ks loot) pushed, le-leb (ordinal ks loot) (child_count ks (frontier ks ph)) few, z) refl

-- ---- the run

-- Kinds are 1 to 3: help-first, a step of another kind would push one that no rule lets be stolen.
module _ (p : ℕ) (either : (p ≡ work_first) ⊎ (p ≡ help_first)) (ks : List ℕ) (some-step : 1 ≤ length ks) (few : length ks ≤ 4095)
    (sh : Shape (length ks) (end_at ks) (size_at ks)) (kind : (i : ℕ) → i < length ks → (1 ≤ kind_at ks i) × (kind_at ks i ≤ 3)) where
  -- A worker that holds a step is in its latest phase.
  abbrev Latest : Run → Type 0
  Latest s = (v : ℕ) → holds_step (worker_at s v) ≡ true → latest_phase v 0 s.phases ≡ some (worker_at s v).phase

  module _ (s : Run) (inv : Invariant p ks s) (v : ℕ) (rich : length (worker_at s v).hand.deque ≡ 0 → ⊥) where
    abbrev phase_of : Phase
    phase_of = phase_at s.phases (worker_at s v).phase

    victim-holds : holds_step (worker_at s v) ≡ true
    victim-holds = rich-holds s v (inv.workers v) rich

    facts : (i : ℕ) × PhaseFacts p ks phase_of (log_of (worker_at s v).phase s.log) (i ∷ (worker_at s v).hand.deque)
    facts =
        let held = holds-some (worker_at s v) victim-holds in
        (held.0, held_facts p ks s inv v held.0 held.1)

    taken-within : oldest (worker_at s v).hand.deque < length ks
    taken-within = loot_within p ks sh phase_of _ facts.0 _ facts.1 rich

  -- A step that a steal takes: its number keeps the policy's rule, and names it.
  pub stolen_allowed : (s : Run) → Invariant p ks s → (v : ℕ) → (length (worker_at s v).hand.deque ≡ 0 → ⊥)
      → number_allowed p ks (phase_at s.phases (worker_at s v).phase) (trace_number p ks (oldest (worker_at s v).hand.deque))
      ≡ true
  unfolding number_allowed trace_number
  stolen_allowed s inv v rich =
      let now = facts s inv v rich in
      ⊎_elim
      (λ e. rw e (ordinal_allowed_lem p ks sh _ _ now.0 _ now.1 rich e (oldest-frontier p ks some-step sh s inv e v rich)))
      (λ e. rw e (serial_allowed_lem p ks sh _ _ now.0 _ now.1 rich e kind)) either

  pub stolen-named : (s : Run) → Invariant p ks s → (v : ℕ) → (length (worker_at s v).hand.deque ≡ 0 → ⊥)
      → stolen_step p ks (phase_at s.phases (worker_at s v).phase) (trace_number p ks (oldest (worker_at s v).hand.deque))
      ≡ oldest (worker_at s v).hand.deque
  unfolding stolen_step trace_number
  stolen-named s inv v rich =
      ⊎_elim
      (λ e.
      let same = oldest-frontier p ks some-step sh s inv e v rich in
      rw (e, ← same) (step_of ks sh (oldest (worker_at s v).hand.deque) (taken-within s inv v rich)))
      (λ e. rw e refl) either

  -- What the events keep: as many workers, each in its latest phase, and a trace that is accepted and leads to the run's
  -- phases.
  record Traced (w : ℕ) (s : Run) : Type 0 where
    crew : length s.workers ≡ w
    latest : Latest s
    replay : replay_walk w p ks (map (traced p ks) s.steals) ≡ record { verdict = accepted; state = s.phases }

  start_latest : (n : ℕ) → Latest (start (suc n))
  unfolding start worker_at latest_phase first_phases holds_step idle_worker
  start_latest n zero h = refl
  start_latest n (suc v) h = absurd (true≢false (sym (rw (get_or_alike n v idle_worker) at h)))

  start-traced : (w : ℕ) → 1 ≤ w → Traced w (start w)
  unfolding start replay_walk walk
  start-traced zero h = absurd (omega arith)
  start-traced (suc n) h = record { crew = simp (length-set, length-replicate); latest = start_latest n; replay = refl }

  module _ (w : ℕ) (s : Run) (inv : Invariant p ks s) (tr : Traced w s) where
    ran-traced : (v i : ℕ) → v < length s.workers → (worker_at s v).hand.held ≡ some i → Traced w (ran p ks s v i)
    unfolding ran onward
    ran-traced v i h held = record { crew = simp length-set tr.crew; latest = latest; replay = tr.replay }
      where
        latest : Latest (ran p ks s v i)
        latest x g =
            elim (ℕ_discrete x v) [
              | yes same ↦ rw (same, ran_here p ks s v i h) (tr.latest v (some_holds (worker_at s v) i held))
              | no n ↦ rw (ran_other p ks s v i x n) (tr.latest x (rw (ran_other p ks s v i x n) at g))
            ]

    module _ (t v : ℕ) (lt : t < length s.workers) (lv : v < length s.workers) (n : t ≡ v → ⊥)
        (rich : length (worker_at s v).hand.deque ≡ 0 → ⊥) where
      stolen-latest : Latest (steal s t v)
      unfolding steal enriched lightened
      stolen-latest x g =
          let holds = victim-holds s inv v rich in
          let taken = oldest (worker_at s v).hand.deque in
          let begun = latest_begin x t (worker_at s v).phase taken s.phases ((inv.workers v).phase holds) in
          elim (ℕ_discrete x t) [
            | yes same ↦ rw (same, steal-thief s t v lt) (rw same at (begun.0 (sym same)))
            | no a ↦ elim (ℕ_discrete x v) [
              | yes same ↦ rw (same, steal-victim s t v n lv) (rw same at (begun.1 (omega arith)) ∙ tr.latest v holds)
              | no b ↦ rw (steal_other s t v x a b)
                  (begun.1 (omega arith) ∙ tr.latest x (rw (steal_other s t v x a b) at g))
            ]
          ]

      stolen-replay : replay_walk w p ks (map (traced p ks) (steal s t v).steals)
          ≡ record { verdict = accepted; state = (steal s t v).phases }
      unfolding steal replay_walk traced
      stolen-replay =
          let taken = oldest (worker_at s v).hand.deque in
          let number = trace_number p ks taken in
          let latest = tr.latest v (victim-holds s inv v rich) in
          let small = number_small ks sh p taken few (taken-within s inv v rich) in
          let allowed = stolen_allowed s inv v rich in
          let thief : t < w = omega (arith, tr.crew) in
          let victim : v < w = omega (arith, tr.crew) in
          let judged = read-accepts w p ks s.phases t v number _ small latest thief victim n allowed in
          let next = read-begins w p ks s.phases t v number _ small latest in
          let walked = walk_one (judge_trace_record w p ks) (next_phases p ks) _ 0 first_phases s.phases _ tr.replay judged in
          rw map-one (rw (next, stolen-named s inv v rich) at walked)

      stolen-traced : Traced w (steal s t v)
      unfolding steal
      stolen-traced = record { crew = simp length-set tr.crew; latest = stolen-latest; replay = stolen-replay }

    next-traced : (e : List ℕ) → judge_event ks s e ≡ 0 → Traced w (next_run p ks s e)
    unfolding next_run is_run
    next-traced e j =
        let first = first_within ks s e j in
        elim (ℕ_discrete (get_or e 0 0) (get_or e 1 0)) [
          | yes same ↦
              let held = run_held ks s (get_or e 0 0) (event_runs ks s e j same) in
              rw (eq-eqb (get_or e 0 0) (get_or e 1 0) same, run_is p ks s (get_or e 0 0) held.0 held.1)
              (ran-traced (get_or e 0 0) held.0 first held.1)
          | no n ↦ rw (ne_eqb (get_or e 0 0) (get_or e 1 0) n)
              (stolen-traced (get_or e 0 0) (get_or e 1 0) first (second_within ks s e j) n
              (victim-rich s (get_or e 0 0) (get_or e 1 0) (event_steals ks s e j n)))
        ]

    event-traced : (e : List ℕ) → Traced w (event_call p ks s e).state
    unfolding event_call
    event-traced e =
        elim (ℕ_discrete (judge_event ks s e) 0) [
          | yes j ↦ rw (eq-eqb (judge_event ks s e) 0 j) (next-traced e j)
          | no n ↦ rw (ne_eqb (judge_event ks s e) 0 n) tr
        ]

  events_traced : (w : ℕ) (s : Run) → Invariant p ks s → Traced w s → (es : List (List ℕ)) → Traced w (after_events p ks s es)
  unfolding after_events
  events_traced w s inv tr [] = tr
  events_traced w s inv tr (e ∷ es) =
      events_traced w (event_call p ks s e).state (event_keeps p ks some-step sh s inv e) (event-traced w s inv tr e) es

  -- Whatever the scheduler does: every record of the trace is accepted, and the phases are the run's.
  pub trace_replays : (w : ℕ) → 1 ≤ w → (es : List (List ℕ))
      → replay_walk w p ks (records 4 (trace_bytes p ks (after_events p ks (start w) es).steals))
      ≡ record { verdict = accepted; state = (after_events p ks (start w) es).phases }
  trace_replays w h es =
      rw (trace_records p ks (after_events p ks (start w) es).steals)
      (events_traced w (start w) (start_invariant p ks some-step sh w h) (start-traced w h) es).replay
