-- Waiting: "A step that follows the end of a finish child may run only when all steps of that child and its descendants have run.
-- Until then its holder waits and is not idle."
use Rattle.std.specs.Prelude.{ℕ, suc, ◌-◌, ◌≤◌, ◌<◌, ◌≡◌, Bool, true, false, ◌||◌, not, List, [], ◌∷◌, ◌++◌, length}
use Rattle.std.proofs.Math.Path.{refl}
use Rattle.std.proofs.Common.{sym, ap, ◌∙◌, arith, eqb-true, ne_eqb}
use Rattle.std.proofs.Math.Bool.{not-not}
use Rattle.std.proofs.Math.Option.{Option, none, some}
use Rattle.std.proofs.Math.Dec.{eqb}
use Rattle.std.proofs.lemmas.Bool.{not-false}
use Rattle.rules.specs.Bytes.{count, all}
use Rattle.rules.specs.Tree.{kind_at, is_finish, is_end, cont, finish_before}
use Rattle.rules.specs.Scheduling.{Entry, Run, worker_at, has_run, waits, awaited, judge_run, holds_step}
use Rattle.tree.specs.Laws.Highest.{nothing, all_highest}
use Rattle.tree_scan.specs.Laws.Shape.{Shape}
use Rattle.tree_scan.specs.Laws.Frames.{end_at, size_at}
use Rattle.tree_scan.specs.Laws.Places.{finish_child_lem, finish_cont}
use Rattle.run_invariant.specs.Invariant.{Waited}
use Rattle.run_invariant.proofs.Laws.Counts.{any_one, all_count, count_all}

pub finish_opens : (k : ℕ) → is_finish k ≡ true → is_end k ≡ false
unfolding is_finish is_end
finish_opens k f =
    let two = eqb-true k 2 f in
    ne_eqb k 3 (omega arith)

module _ (ks : List ℕ) (sh : Shape (length ks) (end_at ks) (size_at ks)) (log : List Entry) where
  -- The step after a finish child waits while not all steps between it and the step that opens the child have run.
  pub waits_finish : (q : ℕ) → q < length ks → end_at ks q ≡ false → is_finish (kind_at ks q) ≡ true
      → waits ks log (cont ks q) ≡ not (all (has_run log) (count (suc q) (cont ks q - suc q)))
  unfolding waits
  waits_finish q h o f = rw (finish_cont ks sh q h o, f, waits) refl

  -- The finish child that step q opens has, with its descendants, the steps from q + 1 to before its continuation. The
  -- continuation waits until the last of these has run, by whichever worker.
  pub waits_until : (q : ℕ) → q < length ks → end_at ks q ≡ false → is_finish (kind_at ks q) ≡ true → waits ks log (cont ks q) ≡ false
      → (j : ℕ) → suc q ≤ j → j < cont ks q → has_run log j ≡ true
  waits_until q h o f w j l u =
      let ran = not-false (all (has_run log) (count (suc q) (cont ks q - suc q))) (sym (waits_finish q h o f) ∙ w) in
      all_count (has_run log) (cont ks q - suc q) (suc q) ran j l (omega arith)

  pub waits_no_longer : (q : ℕ) → q < length ks → end_at ks q ≡ false → is_finish (kind_at ks q) ≡ true
      → ((j : ℕ) → suc q ≤ j → j < cont ks q → has_run log j ≡ true) → waits ks log (cont ks q) ≡ false
  waits_no_longer q h o f r =
      let ran = count_all (has_run log) (cont ks q - suc q) (suc q) (λ j l u. r j l (omega arith)) in
      waits_finish q h o f ∙ ap not ran

  -- No other step ever waits: not step 0, no first step of a child, no step after an async child.
  pub first_never_waits : waits ks log 0 ≡ false
  unfolding waits finish_before
  first_never_waits = refl

  pub child_never_waits : (q : ℕ) → q < length ks → end_at ks q ≡ false → waits ks log (suc q) ≡ false
  unfolding waits
  child_never_waits q h o = rw (finish_child_lem ks sh q o, waits) refl

  pub async_never_waits : (q : ℕ) → q < length ks → end_at ks q ≡ false → is_finish (kind_at ks q) ≡ false → waits ks log (cont ks q) ≡ false
  unfolding waits
  async_never_waits q h o f = rw (finish_cont ks sh q h o, f, waits) refl

-- A step waits exactly where there is a step that it waits for.
pub waits-awaited : (ks : List ℕ) (log : List Entry) (i : ℕ) → waits ks log i ≡ not (nothing (awaited ks log i))
unfolding waits awaited nothing
waits-awaited ks log i = by (finish_before ks i) refl
  where
    by : (o : Option ℕ) → finish_before ks i ≡ o → waits ks log i ≡ not (nothing (awaited ks log i))
    by none e = rw (waits, awaited, e) refl
    by (some first) e =
        rw (waits, awaited, e)
        (ap not (all_highest (λ j. not (has_run log j)) (has_run log) (λ j. sym (not-not (has_run log j))) first i))

-- The holder of a step that waits is not idle, and may not run it.
pub waiting_refused : (ks : List ℕ) (s : Run) (w i : ℕ) → (worker_at s w).hand.held ≡ some i → waits ks s.log i ≡ true
    → (holds_step (worker_at s w) ≡ true) × (judge_run ks s w ≡ 10)
unfolding holds_step judge_run
waiting_refused ks s w i e t = (rw (e, holds_step) refl, rw (e, t, judge_run) refl)

-- The holder of a step that does not wait may run it.
pub free-accepted : (ks : List ℕ) (s : Run) (w i : ℕ) → (worker_at s w).hand.held ≡ some i → waits ks s.log i ≡ false
    → judge_run ks s w ≡ 0
unfolding judge_run
free-accepted ks s w i e t = rw (e, t, judge_run) refl

-- ---- logs

-- What has run stays so, and the step run now has run.
module _ (log : List Entry) (e : Entry) where
  pub run_more : (j : ℕ) → has_run (log ++ (e ∷ [])) j ≡ has_run log j || eqb e.step j
  unfolding has_run
  run_more j = any_one (λ x. eqb x.step j) log e

  pub run_stays : (j : ℕ) → has_run log j ≡ true → has_run (log ++ (e ∷ [])) j ≡ true
  run_stays j h = run_more j ∙ rw h refl

-- What does not wait will not wait later.
pub stays_free : (ks : List ℕ) (log : List Entry) (e : Entry) (i : ℕ) → waits ks log i ≡ false → waits ks (log ++ (e ∷ [])) i ≡ false
unfolding waits
stays_free ks log e i free = by (finish_before ks i) refl
  where
    by : (o : Option ℕ) → finish_before ks i ≡ o → waits ks (log ++ (e ∷ [])) i ≡ false
    by none o = rw (o, waits) refl
    by (some first) o =
        let ran = not-false (all (has_run log) (count first (i - first))) (rw (o, waits) at free) in
        rw (o, waits) (ap not (count_all (has_run (log ++ (e ∷ []))) (i - first) first
        (λ j l u. run_stays log e j (all_count (has_run log) (i - first) first ran j l u))))

-- Running a step that does not wait keeps to the rule: whatever follows a finish child has run after the child.
pub waited-more : (ks : List ℕ) (sh : Shape (length ks) (end_at ks) (size_at ks)) (log : List Entry) (e : Entry)
    → waits ks log e.step ≡ false → Waited ks log → Waited ks (log ++ (e ∷ []))
unfolding end_at
waited-more ks sh log e free old q h f ran j l u = run_stays log e j (by (has_run log (cont ks q)) refl)
  where
    by : (b : Bool) → has_run log (cont ks q) ≡ b → has_run log j ≡ true
    by true r = old q h f r j l u
    by false r =
        let now : eqb e.step (cont ks q) ≡ true = rw r at (sym (run_more log e (cont ks q)) ∙ ran) in
        let same = eqb-true e.step (cont ks q) now in
        waits_until ks sh log q h (finish_opens (kind_at ks q) f) f (rw same at free) j l u
