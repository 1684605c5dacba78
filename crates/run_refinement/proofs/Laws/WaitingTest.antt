-- The waiting test: its answer by any test of steps, by the places of a state and by the log of a run, and that the two agree on every
-- state that events lead to.
use Rattle.std.specs.Prelude.{ℕ, ◌≤◌, ◌<◌, ◌≡◌, Bool, cond, not, List, length}
use Rattle.std.proofs.Math.Path.{refl}
use Rattle.std.proofs.Common.{sym, ap, ◌∙◌, true≢false, arith}
use Rattle.std.proofs.Math.Bool.{not-not}
use Rattle.std.proofs.Math.Option.{Option, none, some, none-ne-some}
use Rattle.std.proofs.Math.Decide.{dec_le}
use Rattle.std.proofs.lemmas.Bool.{not-true}
use Rattle.rules.specs.Bytes.{highest}
use Rattle.rules.specs.Tree.{finish_before, kinds}
use Rattle.rules.specs.Scheduling.{Entry, worker_at, has_run, waits, awaited, judge_run}
use Rattle.rules.specs.Calls.{start_verdict}
use Rattle.tree.specs.Laws.Highest.{nothing, highest-is, highest_fails, fails_highest}
use Rattle.tree_scan.specs.Laws.Starts.{start-tree-accepts}
use Rattle.tree_scan.specs.Laws.Frames.{accepted-frame}
use Rattle.run_invariant.proofs.Laws.Moves.{held_facts}
use Rattle.run_invariant.proofs.Laws.Phase.{held_within}
use Rattle.run_invariant.proofs.Laws.Waiting.{waits-awaited}
use Rattle.run_spec.specs.Deques.{unrun_mark, marked}
use Rattle.run_spec.specs.Running.{waits_for, awaits}
use Rattle.run_spec.proofs.Laws.Waiting.{waits-awaits}
use Rattle.run_refinement.specs.Follows.{ruled, reached}
use Rattle.run_refinement.specs.WaitingTest.{OfChild, TestAnswer, answered, WaitingTest}
use Rattle.run_refinement.proofs.Laws.Scans.{awaits-shown}
use Rattle.run_refinement.proofs.Laws.Follows.{follows}

-- ---- any test

-- A step of a finish child that is found has its place.
of_child_lem : (ks : List ℕ) (i first j : ℕ) → finish_before ks i ≡ some first → first ≤ j → j < i → OfChild ks i j
of_child_lem ks i first j e l u = record { first = first; child = e; from = omega arith; before = omega arith }

-- The child is the one that is found.
child-from : (ks : List ℕ) (i first j : ℕ) → finish_before ks i ≡ some first → OfChild ks i j → first ≤ j
child-from ks i first j e of =
    let same : some first ≡ some of.first = sym e ∙ of.child in
    let is : first ≡ of.first = cc in
    omega (arith, of.from)

module _ (ks : List ℕ) (i : ℕ) (unrun ran : ℕ → Bool) (opposite : (j : ℕ) → ran j ≡ not (unrun j)) where
  -- No finish child: no step is waited for.
  none_answers : finish_before ks i ≡ none → TestAnswer ks i ran none
  none_answers e =
      let no-child : (k : ℕ) → OfChild ks i k → ⊥ = λ k of. none-ne-some of.first (sym e ∙ of.child) in
      record {
        of_child = λ j f. absurd (none-ne-some j f);
        unrun = λ j f. absurd (none-ne-some j f);
        highest = λ j f k of. absurd (no-child k of);
        none_then = λ f k of. absurd (no-child k of);
        none_only = λ f. refl;
      }

  child-answers : (first : ℕ) → finish_before ks i ≡ some first → TestAnswer ks i ran (highest unrun first i)
  child-answers first e =
      record {
        of_child = λ j f. let is = highest-is unrun first i j f in of_child_lem ks i first j e is.from is.before;
        unrun = λ j f. opposite j ∙ ap not (highest-is unrun first i j f).passes;
        highest = λ j f k of not_yet. elim (dec_le k j) [
          | yes l ↦ l
          | no n ↦
              let passed = (highest-is unrun first i j f).above k (omega arith) of.before in
              absurd (true≢false (sym (opposite k ∙ ap not passed) ∙ not_yet))
        ];
        none_then = λ f k of. opposite k ∙ ap not (highest_fails unrun first i f k (child-from ks i first k e of) of.before);
        none_only = λ all. fails_highest unrun first i
            (λ j l u. not-true (unrun j) (sym (opposite j) ∙ all j (of_child_lem ks i first j e l u)));
      }

-- ---- the places of a state, and the log of a run

by_places_lem : (ks place : List ℕ) (i : ℕ) → TestAnswer ks i (λ j. not (marked place unrun_mark j)) (awaits ks place i)
unfolding awaits
by_places_lem ks place i = by (finish_before ks i) refl
  where
    by : (o : Option ℕ) → finish_before ks i ≡ o → TestAnswer ks i (λ j. not (marked place unrun_mark j)) (awaits ks place i)
    by none e = rw (awaits, e) (none_answers ks i (marked place unrun_mark) (λ j. not (marked place unrun_mark j)) (λ j. refl) e)
    by (some first) e =
        rw (awaits, e) (child-answers ks i (marked place unrun_mark) (λ j. not (marked place unrun_mark j)) (λ j. refl) first e)

by_log_lem : (ks : List ℕ) (log : List Entry) (i : ℕ) → TestAnswer ks i (has_run log) (awaited ks log i)
unfolding awaited
by_log_lem ks log i = by (finish_before ks i) refl
  where
    by : (o : Option ℕ) → finish_before ks i ≡ o → TestAnswer ks i (has_run log) (awaited ks log i)
    by none e = rw (awaited, e) (none_answers ks i (λ j. not (has_run log j)) (has_run log) (λ j. sym (not-not (has_run log j))) e)
    by (some first) e =
        rw (awaited, e) (child-answers ks i (λ j. not (has_run log j)) (has_run log) (λ j. sym (not-not (has_run log j))) first e)

-- ---- waiting

answered-some : (o : Option ℕ) → not (nothing o) ≡ answered o
unfolding nothing answered
answered-some none = refl
answered-some (some j) = refl

waits_places_lem : (ks place : List ℕ) (i : ℕ) → waits_for ks place i ≡ answered (awaits ks place i)
waits_places_lem ks place i = waits-awaits ks place i ∙ answered-some (awaits ks place i)

waits_log_lem : (ks : List ℕ) (log : List Entry) (i : ℕ) → waits ks log i ≡ answered (awaited ks log i)
waits_log_lem ks log i = waits-awaited ks log i ∙ answered-some (awaited ks log i)

-- ---- after any events

module _ (w p : ℕ) (tree : List ℕ) (accepts : (start_verdict w p tree).number ≡ 0) (es : List (List ℕ)) where
  same_word : (i : ℕ) → i < length (kinds tree)
      → awaits (kinds tree) (reached w p tree es).place i ≡ awaited (kinds tree) (ruled w p tree es).log i
  same_word i h =
      awaits-shown (kinds tree) (reached w p tree es).place (ruled w p tree es).log (follows w p tree accepts es).shows.unrun i h

  ten-word : (u i : ℕ) → (worker_at (ruled w p tree es) u).hand.held ≡ some i
      → judge_run (kinds tree) (ruled w p tree es) u ≡ cond (answered (awaits (kinds tree) (reached w p tree es).place i)) 10 0
  unfolding judge_run
  ten-word u i e =
      let frame = accepted-frame tree (start-tree-accepts w p tree accepts) in
      let facts = held_facts p (kinds tree) (ruled w p tree es) (follows w p tree accepts es).invariant u i e in
      let deque = (worker_at (ruled w p tree es) u).hand.deque in
      let within = held_within p (kinds tree) frame.shape i deque facts.chain in
      rw (e, judge_run, waits_log_lem (kinds tree) (ruled w p tree es).log i, same_word i within) refl

pub waiting : WaitingTest
waiting =
    record {
      by_places = by_places_lem;
      by_log = by_log_lem;
      waits_places = waits_places_lem;
      waits_log = waits_log_lem;
      same = same_word;
      ten = ten-word;
    }
