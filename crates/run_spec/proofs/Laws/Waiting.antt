-- Whether all steps of a block have run, as a loop finds it; what a walk backwards over blocks passes and where it stops; and the
-- step that a step waits for, by the finish child before it.
use Rattle.std.specs.Prelude.{Some, None}
use Rattle.tree.specs.Steps.{maybe_step}
use Rattle.std.specs.Prelude.{ℕ, suc, ◌+◌, ◌-◌, ◌≤◌, ◌<◌, ◌≡◌, true, false, ◌&&◌, ◌||◌, List, length, get_or, eqb, leb}
use Rattle.std.proofs.Math.Path.{refl}
use Rattle.std.proofs.Common.{sym, ap, ◌∙◌, true≢false, add-one, arith, eq-eqb, ne_eqb, leb-false}
use Rattle.std.proofs.Math.Bool.{not}
use Rattle.std.proofs.Math.Option.{Option, none, some}
use Rattle.std.proofs.Math.Decide.{ℕ_discrete}
use Rattle.rules.specs.Bytes.{all}
use Rattle.rules.specs.Tree.{finish_before}
use Rattle.tree.specs.declared.Step.{Step}
use Rattle.tree.specs.Laws.Steps.{found_at, found_nothing}
use Rattle.tree.specs.Laws.Verdicts.{or_none}
use Rattle.tree.specs.Laws.Counts.{count_low, count_none}
use Rattle.tree.specs.Laws.Highest.{nothing, all_highest, upper_none, upper_some}
use Rattle.run_spec.specs.Deques.{unrun_mark, marked, newest_mark}
use Rattle.run_spec.specs.Running.{all_run, waits_for, awaits}
use Rattle.run_spec.specs.Terms.{WaitsAtLow}

-- The steps from j on have all run where step j has and all behind it have.
run_turn : (place : List ℕ) (j end : ℕ) → j < end
    → all_run place j end ≡ not (eqb (get_or place j 0) 17) && all_run place (suc j) end
unfolding all_run all
run_turn place j end h = rw (count_low j end h) refl

run_done : (place : List ℕ) (j end : ℕ) → end ≤ j → all_run place j end ≡ true
unfolding all_run all
run_done place j end h = rw (count_none j end h) refl

-- As a loop has it that counts the steps that have not run and stands at step j.
pub record Counted (place : List ℕ) (first end j unrun : ℕ) : Type 0 where
  pub few : unrun ≤ j - first
  pub from : first ≤ j
  pub none_yet : unrun ≡ 0 → all_run place j end ≡ all_run place first end
  pub some-found : (unrun ≡ 0 → ⊥) → false ≡ all_run place first end

module _ (place : List ℕ) (first end : ℕ) where
  pub counted_start : Counted place first end first 0
  counted_start = record { few = omega arith; from = omega arith; none_yet = λ e. refl; some-found = λ n. absurd (n refl) }

  module _ (j unrun : ℕ) (h : j < end) (so_far : Counted place first end j unrun) where
    pub counted-unrun : get_or place j 0 ≡ 17 → Counted place first end (j + 1) (unrun + 1)
    counted-unrun e =
        record {
          few = omega (arith, so_far.few, so_far.from);
          from = omega (arith, so_far.from);
          none_yet = λ z. absurd (omega arith);
          some-found = λ n. elim (ℕ_discrete unrun 0) [
            | yes z ↦ rw (← so_far.none_yet z, run_turn place j end h, eq-eqb (get_or place j 0) 17 e) refl
            | no m ↦ so_far.some-found m
          ];
        }

    pub counted-run : (get_or place j 0 ≡ 17 → ⊥) → Counted place first end (j + 1) unrun
    counted-run n =
        record {
          few = omega (arith, so_far.few, so_far.from);
          from = omega (arith, so_far.from);
          none_yet = λ z. rw add-one (sym (run_turn place j end h ∙ rw (ne_eqb (get_or place j 0) 17 n) refl) ∙ so_far.none_yet z);
          some-found = so_far.some-found;
        }

  pub counted-done : (j unrun : ℕ) → end ≤ j → Counted place first end j unrun → eqb unrun 0 ≡ all_run place first end
  counted-done j unrun h counted =
      elim (ℕ_discrete unrun 0) [
        | yes z ↦ eq-eqb unrun 0 z ∙ sym (run_done place j end h) ∙ counted.none_yet z
        | no n ↦ ne_eqb unrun 0 n ∙ counted.some-found n
      ]

-- ---- blocks

-- All have run exactly where none is found that has not.
all_run-none : (place : List ℕ) (first end : ℕ) → all_run place first end ≡ nothing (newest_mark place unrun_mark first end)
unfolding all_run marked
all_run-none place first end =
    all_highest (marked place unrun_mark) (λ j. not (eqb (get_or place j 0) unrun_mark)) (λ j. refl) first end

-- The block from `low` to before `end`, of the steps from `first` on.
module _ (place : List ℕ) (first low end : ℕ) (h : first ≤ low) (l : low ≤ end) where
  -- A block that has all run is passed.
  pub block_run : all_run place low end ≡ true → newest_mark place unrun_mark first low ≡ newest_mark place unrun_mark first end
  unfolding nothing
  block_run ran = by (newest_mark place unrun_mark low end) refl
    where
      by : (o : Option ℕ) → newest_mark place unrun_mark low end ≡ o
          → newest_mark place unrun_mark first low ≡ newest_mark place unrun_mark first end
      by none e = upper_none (marked place unrun_mark) first low h end l e
      by (some j) e = absurd (true≢false (sym ran ∙ all_run-none place low end ∙ rw e refl))

  -- In another stands the step that is looked for.
  pub block_unrun : all_run place low end ≡ false → newest_mark place unrun_mark low end ≡ newest_mark place unrun_mark first end
  unfolding nothing
  block_unrun not-all = by (newest_mark place unrun_mark low end) refl
    where
      by : (o : Option ℕ) → newest_mark place unrun_mark low end ≡ o
          → newest_mark place unrun_mark low end ≡ newest_mark place unrun_mark first end
      by none e = absurd (true≢false (sym (all_run-none place low end ∙ rw e refl) ∙ not-all))
      by (some j) e = upper_some (marked place unrun_mark) first low h end j l e

-- ---- waiting

module _ (ks place : List ℕ) (i : ℕ) where
  pub awaits-found : (first : Step) → maybe_step (finish_before ks i) ≡ Some first → newest_mark place unrun_mark first.0 i ≡ awaits ks place i
  unfolding awaits
  awaits-found first e = rw (awaits, found_at (finish_before ks i) _ refl first e) refl

  pub awaits-nothing : maybe_step (finish_before ks i) ≡ None → none ≡ awaits ks place i
  unfolding awaits
  awaits-nothing e = rw (awaits, found_nothing (finish_before ks i) _ refl e) refl

  -- A step waits exactly where there is a step that it waits for.
  pub waits-awaits : waits_for ks place i ≡ not (nothing (awaits ks place i))
  unfolding waits_for awaits nothing
  waits-awaits = by (finish_before ks i) refl
    where
      by : (o : Option ℕ) → finish_before ks i ≡ o → waits_for ks place i ≡ not (nothing (awaits ks place i))
      by none e = rw (waits_for, awaits, e) refl
      by (some first) e = rw (waits_for, awaits, e) (ap not (all_run-none place first i))

  pub waits_for-some : (j : ℕ) → awaits ks place i ≡ some j → waits_for ks place i ≡ true
  unfolding nothing
  waits_for-some j e = waits-awaits ∙ rw e refl

  pub waits_for-none : awaits ks place i ≡ none → waits_for ks place i ≡ false
  unfolding nothing
  waits_for-none e = waits-awaits ∙ rw e refl

-- ---- only at `low`

-- A held step that the table has and that is not at `low` does not wait.
pub waits-at_low : (ks openers place held low : List ℕ) (w : ℕ) → WaitsAtLow ks openers place held low w
    → (i : ℕ) → i ≡ get_or held w 0 → (from : ℕ) → from ≡ get_or low w 0 → leb (length openers) i || eqb i from ≡ false
    → waits_for ks place i ≡ false
waits-at_low ks openers place held low w asked i holding from e no-wait =
    let both = or_none (leb (length openers) i) (eqb i from) no-wait in
    let apart : i ≡ from → ⊥ = λ same. true≢false (sym (eq-eqb i from same) ∙ both.1) in
    rw holding (asked (rw (← holding) (leb-false (length openers) i both.0)) (rw (← holding, ← e) apart))
