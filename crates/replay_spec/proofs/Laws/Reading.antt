-- The code's way of reading a steal is the rules': by labels instead of what phases cover, and work-first by a walk over
-- continuations instead of ordinals and counts of children.
use Rattle.std.specs.Prelude.{Some, None}
use Rattle.tree.specs.Steps.{MaybeStep}
use Rattle.std.specs.Prelude.{ℕ, ◌+◌, ◌-◌, ◌≤◌, ◌<◌, ◌≡◌, Bool, true, false, cond, ◌&&◌, ◌||◌, List, ◌⊎◌, length, get_or, eqb, ltb, leb}
use Rattle.std.proofs.Math.Path.{refl}
use Rattle.std.proofs.Common.{sym, ◌∙◌, true≢false, inl, inr, ⊎_elim}
use Rattle.std.proofs.Math.Bool.{not}
use Rattle.std.proofs.Math.Option.{Option, none, some, none-ne-some}
use Rattle.std.proofs.Math.Decide.{ℕ_discrete, dec_le}
use native.Mathlib.Omega.{arith}
use borrow.Author.Tests.{le-leb, lt-leb, eq-eqb, ne_eqb}
use Rattle.rules.specs.Bytes.{count, all}
use Rattle.rules.specs.Tree.{task, ordinal, task_end}
use Rattle.rules.specs.Scheduling.{work_first, help_first, Phase, phase_at}
use Rattle.rules.specs.Traces.{covers, frontier, child_count, task_step, ordinal_allowed, starts_async, follows_finish, serial_allowed}
use Rattle.rules.specs.Traces.{number_allowed, stolen_step}
use Rattle.tree_scan.specs.Laws.Shape.{Shape}
use Rattle.tree_scan.specs.Laws.Frames.{end_at, size_at}
use Rattle.tree_tables.specs.Terms.{Openers}
use Rattle.run_invariant.proofs.Laws.Counts.{and_both, count_all}
use Rattle.replay_invariant.specs.Invariant.{Split}
use Rattle.replay_invariant.proofs.Laws.Tasks.{hopped-is}
use Rattle.replay_invariant.specs.Terms.{free, label_of, Labels, Climb, labelled, PartOf}
use Rattle.replay_invariant.proofs.Laws.Reads.{Based, based_allowed, allowed_taken}
use Rattle.replay_invariant.proofs.Laws.Labels.{label-covers, taken_free, taken-label}
use Rattle.trace.specs.Contract.{number_by}
use Rattle.replay_spec.specs.Naming.{step_named, named}
use Rattle.replay_spec.proofs.Laws.Naming.{only-some, named-within}
use Rattle.replay_spec.specs.Labels.{Claimed}
use Rattle.replay_spec.specs.Reading.{Reading}

-- ---- the step that a number names

-- Help-first, whether a step can have been pushed.
abbrev pushable : List ℕ → ℕ → Bool
pushable ks s = ltb s (length ks) && (starts_async ks s || follows_finish ks s)

module _ (ks : List ℕ) (sh : Shape (length ks) (end_at ks) (size_at ks)) (ph : Phase) (base at number : ℕ) where
  -- Work-first: past the base's ordinal, the walk finds the step of the number in the base's task.
  first-named : base < length ks → ordinal ks base ≡ at → at < number
      → named work_first ks base at number
      ≡ cond (leb number (child_count ks (task ks base))) (some (task_step ks (task ks base) number)) none
  unfolding named step_named number_by
  first-named h o l =
      let on : ordinal ks base + (number - at) ≡ number = omega arith in
      rw (lt-leb number at l) (rw on at (hopped-is ks sh (number - at) base h))

  first_allowed : Based ks sh ph base at → ordinal_allowed ks ph number ≡ true
      → named work_first ks base at number ≡ some (task_step ks (frontier ks ph) number)
  first_allowed b a =
      let rule = (based_allowed ks sh ph base at number b).0 a in
      first-named b.0 b.2 rule.0 ∙ rw (le-leb number (child_count ks (task ks base)) rule.1, b.1) refl

  first_some : Based ks sh ph base at → (s : ℕ) → named work_first ks base at number ≡ some s → ordinal_allowed ks ph number ≡ true
  unfolding named step_named number_by
  first_some b s e =
      elim (dec_le number at) [
        | yes l ↦ absurd (none-ne-some s (rw (le-leb number at l) at e))
        | no n ↦ elim (dec_le number (child_count ks (task ks base))) [
          | yes m ↦ (based_allowed ks sh ph base at number b).1 (omega arith) m
          | no m ↦
              let is = first-named b.0 b.2 (omega arith) in
              absurd (none-ne-some s (sym (rw (lt-leb number (child_count ks (task ks base)) (omega arith)) at is) ∙ e))
        ]
      ]

  -- Help-first: the number itself, where it can have been pushed.
  serial_allowed_lem : serial_allowed ks ph number ≡ true → named help_first ks base at number ≡ some number
  unfolding named step_named number_by serial_allowed
  serial_allowed_lem a =
      let pushed = pushable ks number in
      let other = not (eqb number ph.first) in
      let rest = and_both (pushed && other) (all (covers ks ph) (count number (task_end ks number - number))) a in
      rw (and_both pushed other rest.0).0 refl

  -- It keeps the rule where it is not the phase's first step and the phase covers all of its part.
  serial_kept : pushable ks number ≡ true
      → (number ≡ ph.first → ⊥) → ((j : ℕ) → number ≤ j → j < task_end ks number → covers ks ph j ≡ true)
      → serial_allowed ks ph number ≡ true
  unfolding serial_allowed
  serial_kept t n c =
      rw (t, ne_eqb number ph.first n)
      (count_all (covers ks ph) (task_end ks number - number) number (λ j l u. c j l (omega arith)))

  module _ (p : ℕ) (based : p ≡ work_first → Based ks sh ph base at) where
    -- What the rules accept is named.
    allowed-named : (p ≡ work_first) ⊎ (p ≡ help_first) → number_allowed p ks ph number ≡ true
        → named p ks base at number ≡ some (stolen_step p ks ph number)
    unfolding number_allowed stolen_step
    allowed-named (inl w) a = rw w (first_allowed (based w) (rw w at a))
    allowed-named (inr w) a = rw w (serial_allowed_lem (rw w at a))

    -- What is named is accepted, where it is not the phase's first step and the phase covers all of its part.
    named-allowed : (p ≡ work_first) ⊎ (p ≡ help_first) → (s : ℕ) → named p ks base at number ≡ some s → (s ≡ ph.first → ⊥)
        → ((j : ℕ) → s ≤ j → j < task_end ks s → covers ks ph j ≡ true) → number_allowed p ks ph number ≡ true
    unfolding number_allowed named step_named number_by
    named-allowed (inl w) s e n c = rw w (first_some (based w) s (rw w at e))
    named-allowed (inr w) s e n c =
        let is = only-some (pushable ks number) number s (rw w at e) in
        rw w (serial_kept is.0 (λ f. n (sym is.1 ∙ f)) (rw is.1 c))

-- The openers' table, as the labels' laws take it.
pub opener_parts : (ks openers : List ℕ) → Openers ks openers (length ks)
    → (j : ℕ) → 0 < j → j < length ks → PartOf ks (get_or openers j 0) j
opener_parts ks openers table j h l =
    let o = table j h l in
    (omega (arith, o.before), o.opens, o.which)

module _ (p : ℕ) (either : (p ≡ work_first) ⊎ (p ≡ help_first)) (ks : List ℕ) (some-step : 1 ≤ length ks)
    (sh : Shape (length ks) (end_at ks) (size_at ks)) where
  module _ (phs : List Phase) (split : Split p ks phs) (labels : List ℕ) (shown : Labels ks phs labels) (openers : List ℕ)
      (table : Openers ks openers (length ks)) (k base at number : ℕ) (begun : k < length phs)
      (based : p ≡ work_first → Based ks sh (phase_at phs k) base at) (r : MaybeStep) (after : List ℕ)
      (reading : Reading openers labels (named p ks base at number) k r after) where
    parts : (j : ℕ) → 0 < j → j < length ks → PartOf ks (get_or openers j 0) j
    parts = opener_parts ks openers table

    inside : (s : ℕ) → named p ks base at number ≡ some s → s < length ks
    inside s e = named-within ks sh base at s p number (λ w. (based w).0) e

    -- Where the named step is not labelled and the label above it is k, the rules accept the number.
    claimed-allowed : (s : ℕ) → named p ks base at number ≡ some s → label_of labels s ≡ free
        → (found : ℕ) → Claimed openers labels s k after found → found ≡ k → number_allowed p ks (phase_at phs k) number ≡ true
    claimed-allowed s e f found c same =
        named-allowed ks sh (phase_at phs k) base at number p based either s e
        (λ first. omega (arith, shown.firsts k begun, shown.few, rw first at f))
        (label-covers p ks some-step sh phs split labels shown openers parts k s begun (inside s e) f
        c.path c.top c.climb (sym c.finds ∙ same))

    -- Where the rules accept the number, the step is theirs, and the labels are those of a climb from it.
    pub read-allowed : number_allowed p ks (phase_at phs k) number ≡ true
        → (r ≡ Some (record { 0 = stolen_step p ks (phase_at phs k) number }))
        × ((path : List ℕ) × (top : ℕ) × Climb openers labels (stolen_step p ks (phase_at phs k) number) path top
        × (after ≡ labelled labels path k))
    read-allowed a =
        let ph = phase_at phs k in
        let s = stolen_step p ks ph number in
        let taken = allowed_taken ks sh p either ph (split.cuts k begun) number a in
        ⊎_elim (λ lost. absurd (lost.0 (taken_free p ks some-step sh phs split labels shown openers parts k s begun taken)))
        (λ (f, (found, c, e)).
        let own = taken-label p ks some-step sh phs split labels shown openers parts k s begun taken in
        (e ∙ rw (eq-eqb found k (c.finds ∙ own c.path c.top c.climb)) refl, (c.path, c.top, c.climb, c.marks)))
        (rw (allowed-named ks sh ph base at number p based either a) at reading)

    -- Where they do not, none is found.
    pub read-broken : number_allowed p ks (phase_at phs k) number ≡ false → r ≡ None
    read-broken a = by (named p ks base at number) refl reading
      where
        by : (o : Option ℕ) → named p ks base at number ≡ o → Reading openers labels o k r after → r ≡ None
        by none e is = is
        by (some s) e is =
            ⊎_elim (λ lost. lost.1)
            (λ (f, (found, c, gives)). elim (ℕ_discrete found k) [
              | yes same ↦ absurd (true≢false (sym (claimed-allowed s e f found c same) ∙ a))
              | no n ↦ gives ∙ rw (ne_eqb found k n) refl
            ]) is
