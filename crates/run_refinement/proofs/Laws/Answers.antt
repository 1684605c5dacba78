-- A run's and a steal's move on a state that shows a run, case by case: both are as the rules say.
use Rattle.std.specs.Prelude.{ℕ, ◌<◌, ◌≡◌, Bool, cond, get_or, eqb, ltb}
use Rattle.std.proofs.Math.Path.{refl, ap}
use Rattle.std.proofs.Common.{◌∙◌, arith}
use Rattle.std.proofs.Math.Bool.{true, false}
use mathlib.Core.List.{List, [], ◌∷◌}
use Rattle.std.proofs.Math.Option.{Option, none, some}
use Rattle.std.proofs.Math.Decide.{ℕ_discrete}
use Rattle.std.proofs.Math.ListN.{length}
use borrow.Author.Tests.{lt-ltb, le-ltb, le-leb, lt-leb, ne_eqb}
use Rattle.rules.specs.Tree.{kinds, ordinal}
use Rattle.rules.specs.Scheduling.{work_first, most_workers, pushes, Run, worker_at, waits, judge_run, run_step, holds_step, judge_steal}
use Rattle.rules.specs.Scheduling.{oldest, steal}
use Rattle.run_spec.specs.Deques.{oldest_mark}
use Rattle.run_spec.specs.Running.{run_number}
use Rattle.trace.specs.Contract.{number_by}
use Rattle.run_spec.specs.Stealing.{steal_number}
use Rattle.run_spec.specs.Outcomes.{Outcome, Ran, Stole}
use Rattle.run_spec.specs.Moves.{Fields, Move, move_of, refused, ran_fields, run_move, taken_ordinal, robbed_fields, steal_move}
use Rattle.run_refinement.specs.Tie.{Shows, held_step}
use Rattle.run_refinement.proofs.Laws.Scans.{waits-shown}
use Rattle.run_refinement.proofs.Laws.Moves.{Known, Stolen, below_most, not_far, held_none, held-some, run-shows}
use Rattle.run_refinement.proofs.Laws.Moves.{nothing-found, steal-shows}

-- Where nothing but one test can refuse, the move goes by that test.
by_test : (s : Fields) (b : Bool) (m : ℕ) (x : Move) → (m ≡ 0 → ⊥)
    → cond (eqb (cond b m 0) 0) x (refused (cond b m 0) s) ≡ cond b (refused m s) x
by_test s true m x n = rw (ne_eqb m 0 n) refl
by_test s false m x n = refl

-- Only work-first asks for the ordinal.
number_alike : (p a b x : ℕ) → (p ≡ work_first → a ≡ b) → number_by p a x ≡ number_by p b x
unfolding number_by
number_alike p a b x same = elim (ℕ_discrete p 1) [ yes e ↦ rw (same e) refl | no n ↦ rw (ne_eqb p 1 n) refl ]

-- A move on the state s, and the rules' number, word and next run: both refuse with that number, or both accept.
pub data Agrees (p : ℕ) (ks : List ℕ) (s : Fields) (move : Move) (number : ℕ) (word : Outcome) (next : Run) : Type 0 where
  refuses : (number ≡ 0 → ⊥) → move ≡ refused number s → Agrees p ks s move number word next
  accepts : number ≡ 0 → move.outcome ≡ word → Shows p ks move.after next → Agrees p ks s move number word next

module _ {p : ℕ} (tree : List ℕ) {s : Fields} {r : Run} (known : Known p (kinds tree) s r) where
  -- A run by worker w.
  module _ (w : ℕ) (here : w < s.setup.workers) where
    few : w < most_workers
    few = below_most known here

    idle-move : (worker_at r w).hand.held ≡ none → run_move s tree w ≡ refused 9 s
    unfolding run_move run_number
    idle-move e =
        let n = length (kinds tree) in
        rw (
          not_far known w here,
          le-ltb 4095 n known.most,
          held_none known w few e,
          le-leb n 65535 (omega (arith, known.most)),
        ) refl

    held_move : (i : ℕ) → (worker_at r w).hand.held ≡ some i
        → run_move s tree w
        ≡ cond (waits (kinds tree) r.log i) (refused 10 s)
        (move_of (Ran (record { 0 = get_or s.phase w 0 }) (record { 0 = i })) (ran_fields s (kinds tree) w i))
    unfolding run_move run_number
    held_move i e =
        let n = length (kinds tree) in
        let held = held-some known w i here e in
        let waiting = waits-shown (kinds tree) s.place r.log known.shows.unrun i held.1 in
        rw (not_far known w here, le-ltb 4095 n known.most, held.0, lt-leb n i held.1, waiting)
        (by_test s (waits (kinds tree) r.log i) 10 _ (omega arith))

    abbrev pub RunAgrees : Type 0
    RunAgrees =
        Agrees p (kinds tree) s (run_move s tree w) (judge_run (kinds tree) r w)
        (Ran (record { 0 = (worker_at r w).phase }) (record { 0 = held_step (worker_at r w) })) (run_step p (kinds tree) r w)

    run_by : (i : ℕ) → (worker_at r w).hand.held ≡ some i → (b : Bool) → waits (kinds tree) r.log i ≡ b → RunAgrees
    unfolding judge_run held_step
    run_by i e true h = rw (held_move i e, h, e, judge_run, h) (refuses (omega arith) refl)
    run_by i e false h =
        rw (held_move i e, h)
        (accepts (rw (e, judge_run, h) refl) (rw ((known.shows.hands w few).latest, e, held_step) refl) (run-shows known w i here e))

    pub run-agrees : RunAgrees
    unfolding judge_run
    run-agrees = by (worker_at r w).hand.held refl
      where
        by : (o : Option ℕ) → (worker_at r w).hand.held ≡ o → RunAgrees
        by none e = rw (idle-move e, e, judge_run) (refuses (omega arith) refl)
        by (some i) e = run_by i e (waits (kinds tree) r.log i) refl

  -- A steal by t from v.
  module _ (t v : ℕ) (thief-here : t < s.setup.workers) (here : v < s.setup.workers) (other : t ≡ v → ⊥) where
    steal-move : (found : Option ℕ) → oldest_mark s.place v (get_or s.low v 0) (length (kinds tree)) ≡ found
        → steal_move s tree t v
        ≡ cond (ltb (get_or s.held t 0) (length (kinds tree))) (refused 11 s)
        (elim found [
          | none ↦ refused 12 s
          | some q ↦
              let taken = pushes s.setup.policy (kinds tree) q in
              move_of (Stole (number_by s.setup.policy (taken_ordinal s (kinds tree) v q) taken)) (robbed_fields s (kinds tree) t v q)
        ])
    unfolding steal_move steal_number
    steal-move found e =
        let n = length (kinds tree) in
        rw (not_far known t thief-here, not_far known v here, le-ltb 4095 n known.most, e)
        (by_test s (ltb (get_or s.held t 0) n) 11 _ (omega arith))

    abbrev pub StealAgrees : Type 0
    StealAgrees =
        Agrees p (kinds tree) s (steal_move s tree t v) (judge_steal r t v)
        (Stole (number_by p (ordinal (kinds tree) (oldest (worker_at r v).hand.deque)) (oldest (worker_at r v).hand.deque)))
        (steal r t v)

    steal-busy : (j : ℕ) → (worker_at r t).hand.held ≡ some j → StealAgrees
    unfolding judge_steal holds_step
    steal-busy j e =
        let held = held-some known t j thief-here e in
        rw (steal-move _ refl, held.0, lt-ltb j (length (kinds tree)) held.1, e, holds_step) (refuses (omega arith) refl)

    not-busy : (worker_at r t).hand.held ≡ none → ltb (get_or s.held t 0) (length (kinds tree)) ≡ false
    not-busy e = rw (held_none known t (below_most known thief-here) e) (le-ltb 65535 (length (kinds tree)) (omega (arith, known.most)))

    steal-taken : (worker_at r t).hand.held ≡ none → (length (worker_at r v).hand.deque ≡ 0 → ⊥) → (q : ℕ)
        → Stolen p (kinds tree) s r t v q → StealAgrees
    unfolding judge_steal holds_step
    steal-taken e full q stolen =
        rw (steal-move (some q) stolen.found, not-busy e)
        (accepts (rw (e, holds_step, ne_eqb (length (worker_at r v).hand.deque) 0 full) refl)
        (rw stolen.taken
        (ap (λ (x : ℕ). Stole (number_by x (taken_ordinal s (kinds tree) v q) (pushes x (kinds tree) q))) known.shows.policy
        ∙ ap Stole (number_alike p (taken_ordinal s (kinds tree) v q) _ (pushes p (kinds tree) q) stolen.numbered)))
        stolen.next)

    steal-by : (worker_at r t).hand.held ≡ none → (deque : List ℕ) → (worker_at r v).hand.deque ≡ deque → StealAgrees
    unfolding judge_steal holds_step
    steal-by e [] d =
        rw (steal-move none (nothing-found known v here d), not-busy e, e, holds_step, d) (refuses (omega arith) refl)
    steal-by e (x ∷ xs) d =
        let full : length (worker_at r v).hand.deque ≡ 0 → ⊥ = rw d (omega arith) in
        let stolen = steal-shows known t v thief-here here other e full in
        steal-taken e full stolen.0 stolen.1

    pub steal-agrees : StealAgrees
    steal-agrees = by (worker_at r t).hand.held refl
      where
        by : (o : Option ℕ) → (worker_at r t).hand.held ≡ o → StealAgrees
        by none e = steal-by e (worker_at r v).hand.deque refl
        by (some j) e = steal-busy j e
