-- What the worker count decides, sentence by sentence: the start by cases of policy and count, single events and idle workers by the
-- laws of any state, loads by who has a phase.
use Rattle.std.specs.Prelude.{ℕ, ◌^◌, ◌≤◌, ◌<◌, ◌≡◌, Bool, true, false, cond, ◌||◌, List, [], ◌∷◌, ◌⊎◌, length, get_or, replicate, eqb, leb}
use Rattle.std.proofs.Math.Path.{refl}
use Rattle.std.proofs.Common.{sym, ap, ◌∙◌, arith, eq-eqb, ne_eqb}
use Rattle.std.proofs.Math.Option.{Option, none, some}
use Rattle.std.proofs.Math.Decide.{ℕ_discrete}
use Rattle.std.specs.Int.Count.{count_trailing_zeros}
use Rattle.rules.specs.Bytes.{records, accepted, first_refused}
use Rattle.rules.specs.Tree.{kinds, weights, tree_verdict}
use Rattle.rules.specs.Scheduling.{most_workers, Phase, Run, worker_at, waits, is_run, judge_run, holds_step, judge_steal, judge_event}
use Rattle.rules.specs.Traces.{record_number, judge_trace_record, replay_walk, loads}
use Rattle.rules.specs.Calls.{policy_verdict, count_verdict, start_verdict, Recorded, record_walk, record_verdict, record_of, record_refused}
use Rattle.rules.specs.Calls.{record_call, Replayed, replay_verdict, replay_of, replay_refused, replay_call}
use Rattle.tree.specs.Laws.Verdicts.{cond_of, number_by_lem, neither, first-accepts, first-refuses, first_passes}
use Rattle.tree_scan.specs.Laws.Starts.{start_workers}
use Rattle.arguments.specs.Laws.Starts.{count_outside, count_within}
use Rattle.policy.specs.declared.Setup.{Setup}
use Rattle.policy.specs.Contract.{worker_limit}
use Rattle.policy.proofs.Laws.Workers.{limit_most}
use Rattle.run_invariant.proofs.Laws.Moves.{get_or_alike}
use Rattle.run_invariant.proofs.Laws.Crew.{recorded-many}
use Rattle.run_spec.specs.Outcomes.{Outcome, Ran, Stole, Refused}
use Rattle.run_spec.specs.Moves.{fresh, refused}
use Rattle.run_spec.proofs.Laws.Idle.{lowest_set, set_below}
use Rattle.run_state.specs.declared.RunState.{RunState}
use Rattle.run_state.specs.Contract.{fields, start_answer, event_answer, idle_answer}
use Rattle.run_refinement.proofs.Laws.AnyState.{event_setup, far_move, near_move}
use Rattle.replay_invariant.proofs.Laws.Verdicts.{read_other}
use Rattle.loads.proofs.Laws.Loads.{loads-length}
use Rattle.loads.proofs.Laws.Unused.{Unused, unused_loads, recorded-unused, replayed-unused}
use Rattle.agreement.specs.Agreement.{refusal_of}
use Rattle.agreement.specs.WorkerCount.{names_none, WorkerCount}

-- ---- the start

module _ (p : ℕ) (tree : List ℕ) (w : ℕ) where
  policy_first_lem : ((policy_verdict p).number ≡ 0 → ⊥) → start_verdict w p tree ≡ policy_verdict p
  unfolding start_verdict
  policy_first_lem n = first-refuses (policy_verdict p) (count_verdict w ∷ tree_verdict tree ∷ []) n

  start_outside : (policy_verdict p).number ≡ 0 → (w < 1) ⊎ (most_workers < w)
      → start_verdict w p tree ≡ record { number = 16; position = 0 }
  unfolding start_verdict
  start_outside z out =
      let sixteen = count_outside w out in
      first_passes (policy_verdict p) (count_verdict w ∷ tree_verdict tree ∷ []) z
      ∙ first-refuses (count_verdict w) (tree_verdict tree ∷ []) (rw sixteen (omega arith))
      ∙ sixteen

  start_within : 1 ≤ w → w ≤ most_workers → start_verdict w p tree ≡ first_refused (policy_verdict p ∷ tree_verdict tree ∷ [])
  unfolding start_verdict first_refused accepted
  start_within some-worker few = rw (count_within w some-worker few) refl

  start_stores : (start_verdict w p tree).number ≡ 0 → (start_answer w p tree).state.workers ≡ w
  unfolding start_answer fresh
  start_stores z = rw z refl

  record_starts_lem : (events log trace : List ℕ) → ((start_verdict w p tree).number ≡ 0 → ⊥)
      → record_verdict w p tree events log trace ≡ start_verdict w p tree
  unfolding record_verdict
  record_starts_lem events log trace n = first-refuses (start_verdict w p tree) _ n

  replay_starts_lem : (trace list : List ℕ) → ((start_verdict w p tree).number ≡ 0 → ⊥)
      → replay_verdict w p tree trace list ≡ start_verdict w p tree
  unfolding replay_verdict
  replay_starts_lem trace list n = first-refuses (start_verdict w p tree) _ n

-- ---- single events

not-refused : (o : Outcome) → (o ≡ Refused 8 → ⊥) → eqb (refusal_of o) 8 ≡ false
unfolding refusal_of
not-refused (Ran phase step) n = refl
not-refused (Stole number) n = refl
not-refused (Refused number) n = ne_eqb number 8 (λ e. n (ap Refused e))

event_eight : (tree : List ℕ) (s : RunState) (a b : ℕ)
    → eqb (refusal_of (event_answer s tree a b).outcome) 8 ≡ names_none (worker_limit s.workers) a b
unfolding event_answer names_none refusal_of refused
event_eight tree s a b = by (leb limit a || leb limit b) refl
  where
    limit : ℕ
    limit = worker_limit s.workers

    by : (far : Bool) → leb limit a || leb limit b ≡ far
        → eqb (refusal_of (event_answer s tree a b).outcome) 8 ≡ (leb limit a || leb limit b)
    by true far = rw (far_move (fields s) tree a b far, far) refl
    by false near = not-refused _ (near_move (fields s) tree a b near) ∙ sym near

event_keeps : (tree : List ℕ) (s : RunState) (a b : ℕ) → (event_answer s tree a b).state.workers ≡ s.workers
unfolding event_answer
event_keeps tree s a b = ap (λ (setup : Setup). setup.workers) (event_setup (fields s) tree a b)

-- ---- walks

run_other : (ks : List ℕ) (r : Run) (w : ℕ) → judge_run ks r w ≡ 8 → ⊥
unfolding judge_run
run_other ks r w = by (worker_at r w).hand.held refl
  where
    by : (o : Option ℕ) → (worker_at r w).hand.held ≡ o → judge_run ks r w ≡ 8 → ⊥
    by none h = rw (h, judge_run) (omega arith)
    by (some i) h = rw (h, judge_run) (neither 8 (waits ks r.log i) 10 0 (omega arith) (omega arith))

steal_other : (r : Run) (t v : ℕ) → judge_steal r t v ≡ 8 → ⊥
unfolding judge_steal
steal_other r t v =
    neither 8 (holds_step (worker_at r t)) 11 _ (omega arith)
    (neither 8 (eqb (length (worker_at r v).hand.deque) 0) 12 0 (omega arith) (omega arith))

event_walked : (ks : List ℕ) (r : Run) (e : List ℕ)
    → eqb (judge_event ks r e) 8 ≡ names_none (length r.workers) (get_or e 0 0) (get_or e 1 0)
unfolding judge_event names_none
event_walked ks r e = number_by_lem 8 _ _ (neither 8 (is_run e) _ _ (run_other ks r (get_or e 0 0)) (steal_other r (get_or e 0 0) (get_or e 1 0)))

record_walked : (p : ℕ) (ks : List ℕ) (w : ℕ) (phs : List Phase) (r : List ℕ)
    → eqb (judge_trace_record w p ks phs r) 8 ≡ names_none w (get_or r 0 0) (get_or r 1 0)
unfolding judge_trace_record names_none
record_walked p ks w phs r =
    number_by_lem 8 _ _ (neither 8 (eqb (get_or r 0 0) (get_or r 1 0)) 13 _ (omega arith)
    (read_other 8 (omega arith) (omega arith) (omega arith) p ks phs (get_or r 1 0) (record_number r)))

-- ---- the idle workers

idle_below_lem : (s : RunState) → (idle_answer s).set < 2 ^ worker_limit s.workers
unfolding idle_answer
idle_below_lem s = set_below s.held (worker_limit s.workers) 0

idle_none_lem : (s : RunState) → (idle_answer s).set ≡ 0 → (idle_answer s).lowest ≡ most_workers
unfolding idle_answer count_trailing_zeros
idle_none_lem s z = rw z at (sym (lowest_set s.held (worker_limit s.workers) (limit_most s.workers)))

-- ---- loads

-- What a call tells of the loads of some phases, where its refusal is a number, 0 for none.
module _ (tree : List ℕ) (number : ℕ) (phs : List Phase) where
  abbrev pub told : List ℕ
  told = cond (eqb number 0) (loads most_workers (kinds tree) (weights tree) phs) (replicate most_workers 0)

  told-many : length told ≡ most_workers
  told-many =
      elim (ℕ_discrete number 0) [
        | yes z ↦ rw (eq-eqb number 0 z) (loads-length most_workers (kinds tree) (weights tree) phs)
        | no n ↦ rw (ne_eqb number 0 n) refl
      ]

  told_beyond : (u : ℕ) → (number ≡ 0 → Unused u phs) → get_or told u 0 ≡ 0
  told_beyond u free =
      elim (ℕ_discrete number 0) [
        | yes z ↦ rw (eq-eqb number 0 z) (unused_loads (kinds tree) (weights tree) u phs (free z))
        | no n ↦ rw (ne_eqb number 0 n) (get_or_alike most_workers u 0)
      ]

module _ (w p : ℕ) (tree : List ℕ) where
  module _ (events log trace : List ℕ) where
    abbrev pub recording : ℕ
    recording = (record_verdict w p tree events log trace).number

    abbrev pub recorded : List Phase
    recorded = (record_walk w p (kinds tree) (records 2 events)).state.phases

    pub record-told : (record_call w p tree events log trace).loads ≡ told tree recording recorded
    unfolding record_call record_of record_refused
    record-told = cond_of (λ (r : Recorded). r.loads) (eqb recording 0) _ _

    record-many : length (record_call w p tree events log trace).loads ≡ most_workers
    record-many = rw record-told (told-many tree recording recorded)

    record-beyond : (u : ℕ) → w ≤ u → get_or (record_call w p tree events log trace).loads u 0 ≡ 0
    unfolding record_verdict
    record-beyond u beyond =
        rw record-told (told_beyond tree recording recorded u (λ z.
        recorded-unused u w p (kinds tree) (start_workers w p tree (first-accepts _ _ z).0).0 beyond (records 2 events)))

  module _ (trace list : List ℕ) where
    abbrev pub replaying : ℕ
    replaying = (replay_verdict w p tree trace list).number

    abbrev pub replayed : List Phase
    replayed = (replay_walk w p (kinds tree) (records 4 trace)).state

    pub replay-told : (replay_call w p tree trace list).loads ≡ told tree replaying replayed
    unfolding replay_call replay_of replay_refused
    replay-told = cond_of (λ (r : Replayed). r.loads) (eqb replaying 0) _ _

    replay-many : length (replay_call w p tree trace list).loads ≡ most_workers
    replay-many = rw replay-told (told-many tree replaying replayed)

    replay-beyond : (u : ℕ) → w ≤ u → get_or (replay_call w p tree trace list).loads u 0 ≡ 0
    unfolding replay_verdict
    replay-beyond u beyond =
        rw replay-told (told_beyond tree replaying replayed u (λ z.
        replayed-unused u w p (kinds tree) (start_workers w p tree (first-accepts _ _ z).0).0 beyond (records 4 trace)))

pub counted : (p : ℕ) (tree : List ℕ) → WorkerCount p tree
counted p tree =
    record {
      policy_first = policy_first_lem p tree;
      outside = start_outside p tree;
      within = start_within p tree;
      record_starts = record_starts_lem p tree;
      replay_starts = replay_starts_lem p tree;
      stored = start_stores p tree;
      kept = event_keeps tree;
      record_kept = λ w. recorded-many w p (kinds tree);
      eight = event_eight tree;
      eight_recorded = event_walked (kinds tree);
      eight_replayed = record_walked p (kinds tree);
      idle_below = idle_below_lem;
      idle_none = idle_none_lem;
      record_loads = λ w. record-many w p tree;
      record_beyond = λ w. record-beyond w p tree;
      replay_loads = λ w. replay-many w p tree;
      replay_beyond = λ w. replay-beyond w p tree;
    }
