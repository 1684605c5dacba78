-- A trace record that keeps the rules names a step that can be stolen.
use Prim.Native.Nat.{ℕ, zero, suc, pred, ◌+◌, ◌-◌, ◌≤◌, ◌<◌}
use Rattle.std.specs.Prelude.{◌≡◌, Bool, ◌&&◌, ◌||◌, List, [], ◌∷◌, ◌++◌, ◌⊎◌, length, eqb, leb}
use Rattle.std.proofs.Math.Path.{refl, sym, ap}
use Rattle.std.proofs.Common.{◌∙◌, true≢false}
use Rattle.std.proofs.Math.Bool.{true, false, not, and-true, and-not_self}
use Rattle.std.proofs.Math.Logic.{inl, inr, ⊎_elim}
use Rattle.std.proofs.Math.Option.{Option, none, some, none-ne-some}
use Rattle.std.proofs.Math.Decide.{dec_lt}
use native.Mathlib.Omega.{arith}
use Rattle.std.proofs.Math.Dec.{ltb}
use borrow.Author.Tests.{ltb-true, leb-true, eqb-true, eqb-false, not-true, lt-ltb, le-ltb, le-leb, lt-leb}
use Rattle.rules.specs.Bytes.{count, all, any, sum}
use Rattle.rules.specs.Tree.{kind_at, is_async, is_finish, is_end, task, ordinal, task_end, cont, finish_before}
use Rattle.rules.specs.Scheduling.{work_first, help_first, pushes_child, pushes, Phase}
use Rattle.rules.specs.Traces.{from_step, covers, last_stolen, frontier, child_count, task_step, ordinal_allowed, starts_async}
use Rattle.rules.specs.Traces.{follows_finish, serial_allowed, number_allowed, stolen_step}
use Rattle.tree_scan.specs.Laws.Shape.{Shape, child-inside}
use Rattle.tree_scan.specs.Laws.Frames.{end_at, size_at}
use Rattle.tree_scan.specs.Laws.Places.{task-child, ordinal-child, finish_child_lem, finish_cont, part}
use Rattle.run_invariant.specs.Invariant.{Pushed, frontier_end}
use Rattle.run_invariant.proofs.Laws.Counts.{and_both, all_count, Has, has_head, has_none, has_sum, any_one, has_tail}
use Rattle.run_invariant.proofs.Laws.Weights.{span, end_within, cont-inside, from-inside, span_in, span-inside, span-self}
use Rattle.run_invariant.proofs.Laws.Weights.{pushed_within}
use Rattle.run_invariant.proofs.Laws.Moves.{sum_one, robbed}
use Rattle.run_invariant.proofs.Laws.Phase.{first-pushes, last_stolen_lem}
use Rattle.replay_invariant.specs.Invariant.{Cut, Taken}
use Rattle.replay_invariant.proofs.Laws.Tasks.{task_step_lem, task-cont, child_before}
use Rattle.replay_invariant.proofs.Laws.Parts.{entered, pushes_part, part_once, covers-counts, covers-robbed}
use Rattle.replay_invariant.specs.Terms.{PartOf}

-- ---- truth values and lists

or_either : {P : Type 0} (x y : Bool) → x || y ≡ true → (x ≡ true → P) → (y ≡ true → P) → P
or_either true y e a b = a refl
or_either false y e a b = b e

and-three : (x y z : Bool) → x && y && z ≡ true → (x ≡ true) × (y ≡ true) × (z ≡ true)
and-three x y z e =
    let both = and_both (x && y) z e in
    let two = and_both x y both.0 in
    (two.0, two.1, both.1)

-- The step last stolen is a stolen one.
last_has : (xs : List ℕ) (s : ℕ) → last_stolen xs ≡ some s → Has xs s
unfolding last_stolen
last_has [] s e = absurd (none-ne-some s e)
last_has (x ∷ []) s e =
    let same : x ≡ s = cc in
    rw same (has_head s [])
last_has (x ∷ y ∷ xs) s e = has_tail s x (y ∷ xs) (last_has (y ∷ xs) s e)

has_one : {P : Type 0} (x s : ℕ) (l : List ℕ) → Has (l ++ (s ∷ [])) x → (Has l x → P) → (x ≡ s → P) → P
has_one x s l m a b = or_either (any (eqb x) l) (eqb x s) (sym (any_one (eqb x) l s) ∙ m) a (λ t. b (eqb-true x s t))

-- ---- parts

module _ (ks : List ℕ) where
  -- A step is in the part from i, or that part counts 0 of it.
  span_cases : (j i : ℕ) → ((i ≤ j) × (j < task_end ks i)) ⊎ (span ks j i ≡ 0)
  unfolding span
  span_cases j i = by (from_step ks i j) refl
    where
      by : (b : Bool) → from_step ks i j ≡ b → ((i ≤ j) × (j < task_end ks i)) ⊎ (span ks j i ≡ 0)
      by true e = inl (from-inside ks i j e)
      by false e = inr (rw e)

  -- ---- a phase's frontier, and what it covers

  module _ (ph : Phase) where
    unstolen-end : last_stolen ph.stolen ≡ none
        → (frontier ks ph ≡ task ks ph.first) × (frontier_end ks ph ≡ task_end ks ph.first)
    unfolding frontier frontier_end
    unstolen-end e = (rw (e, frontier) refl, rw (e, frontier_end) refl)

    stolen-end : (s : ℕ) → last_stolen ph.stolen ≡ some s → (frontier ks ph ≡ task ks (pred s)) × (frontier_end ks ph ≡ s)
    unfolding frontier frontier_end
    stolen-end s e = (rw (e, frontier) refl, rw (e, frontier_end) refl)

    unstolen-rule : (number : ℕ) → last_stolen ph.stolen ≡ none
        → ordinal_allowed ks ph number
        ≡ leb 1 number && leb number (child_count ks (frontier ks ph)) && ltb (ordinal ks ph.first) number
    unfolding ordinal_allowed
    unstolen-rule number e = rw (e, ordinal_allowed) refl

    stolen-rule : (number s : ℕ) → last_stolen ph.stolen ≡ some s
        → ordinal_allowed ks ph number ≡ leb 1 number && leb number (child_count ks (frontier ks ph)) && true
    unfolding ordinal_allowed
    stolen-rule number s e = rw (e, ordinal_allowed) refl

    -- What is left of an interval up to the end of s's task, less the part from s.
    cut_at : (s j : ℕ) → ph.first ≤ s → s < task_end ks s → task_end ks s ≡ frontier_end ks ph
        → leb ph.first j && ltb j (frontier_end ks ph) && not (from_step ks s j) ≡ leb ph.first j && ltb j s
    unfolding from_step
    cut_at s j l u e =
        elim (dec_lt j s) [
          | yes h ↦ rw (lt-leb s j h, lt-ltb j s h, lt-ltb j (frontier_end ks ph) (omega arith))
              (and-true (leb ph.first j && true))
          | no n ↦ rw (le-leb s j (omega arith), le-ltb j s (omega arith), le-leb ph.first j (omega arith), e)
              (and-not_self (ltb j (frontier_end ks ph)))
        ]

module _ (ks : List ℕ) (sh : Shape (length ks) (end_at ks) (size_at ks)) where
  -- A step whose part is counted in the part from x, at that step, is in it.
  inside-first : (x s : ℕ) → s < length ks → span ks s s ≤ span ks s x → (x ≤ s) × (s < task_end ks x)
  inside-first x s h l = span-inside ks s x (omega (arith, span-self ks sh s h))

  -- A part all of which a phase covers is apart from what is stolen.
  covered_apart : (p : ℕ) (ph : Phase) → Cut p ks ph → (s : ℕ) → ((j : ℕ) → s ≤ j → j < task_end ks s → covers ks ph j ≡ true)
      → (j : ℕ) → sum (span ks j) ph.stolen + span ks j s ≤ span ks j ph.first
  covered_apart p ph cut s all j =
      let counts = covers-counts ks sh p ph cut j in
      ⊎_elim (λ both. omega (arith, rw (all j both.0 both.1) at counts, span_in ks j s both.0 both.1))
      (λ z. omega (arith, cut.apart j)) (span_cases ks j s)

  -- ---- work-first: a step from which the frontier task is walked

  -- Step `base` is the frontier task's step of ordinal `at`, from which on its steps are still in the phase: the phase's first
  -- step at its first steal, later the frontier task's own first step.
  abbrev pub Based : Phase → ℕ → ℕ → Type 0
  Based ph base at =
      (base < length ks) × (task ks base ≡ frontier ks ph) × (ordinal ks base ≡ at) × (task_end ks base ≡ frontier_end ks ph)
      × (ph.first ≤ base)
      × ((last_stolen ph.stolen ≡ none → base ≡ ph.first) × ((s : ℕ) → last_stolen ph.stolen ≡ some s → at ≡ 0))

  based_own : (ph : Phase) (base at : ℕ) → Based ph base at → Based ph base (ordinal ks base)
  based_own ph base at b = (b.0, b.1, refl, b.3, b.4, (b.5.0, λ s e. b.2 ∙ b.5.1 s e))

  -- A phase that begins is walked from its first step.
  pub based_fresh : (t s : ℕ) → s < length ks → Based (record { worker = t; first = s; stolen = [] }) s (ordinal ks s)
  unfolding frontier frontier_end last_stolen
  based_fresh t s h = (h, refl, refl, refl, omega arith, (λ e. refl, λ x e. absurd (none-ne-some x e)))

  -- Once the continuation of q is the step last stolen, the child before it is walked.
  based_child : (ph : Phase) (q : ℕ) → q < length ks → is_end (kind_at ks q) ≡ false → last_stolen ph.stolen ≡ some (cont ks q)
      → ph.first ≤ q → Based ph (suc q) 0
  unfolding end_at cont
  based_child ph q h o e l =
      let at = stolen-end ks ph (cont ks q) e in (
        child-inside sh q h o,
        task-child ks sh q h o ∙ sym (at.0 ∙ child_before ks sh q h o),
        ordinal-child ks sh q h o,
        sym at.1,
        omega arith,
        (λ n. absurd (none-ne-some (cont ks q) (sym n ∙ e)), λ s m. refl),
      )

  -- What pushed a stolen step is not before the phase's first step.
  pusher_inside : (p : ℕ) (ph : Phase) → Cut p ks ph → (s : ℕ) → Has ph.stolen s → (by : Pushed p ks s) → ph.first ≤ by.0
  pusher_inside p ph cut s m by =
      let within = pushed_within ks sh p s by in
      let inside = inside-first ph.first s within (omega (arith, has_sum (span ks s) s ph.stolen m, cut.apart s)) in
      let is : PartOf ks by.0 s = rw by.3 (pushes_part ks sh p by.0 by.1 by.2) in
      (entered ks sh by.0 s is ph.first cut.begins inside.0 inside.1 (λ e. cut.later s m (sym e))).0

  -- Every phase is walked from some step.
  pub based_some : (ph : Phase) → Cut work_first ks ph → (base : ℕ) × Based ph base (ordinal ks base)
  unfolding end_at
  based_some ph cut = by (last_stolen ph.stolen) refl
    where
      by : (o : Option ℕ) → last_stolen ph.stolen ≡ o → (base : ℕ) × Based ph base (ordinal ks base)
      by none e =
          let at = unstolen-end ks ph e in
          let never : (s : ℕ) → last_stolen ph.stolen ≡ some s → ⊥ = λ s m. none-ne-some s (sym e ∙ m) in
          (ph.first, (cut.begins, sym at.0, refl, sym at.1, omega arith, (λ n. refl, λ s m. absurd (never s m))))
      by (some s) e =
          let has = last_has ph.stolen s e in
          let x = cut.pushed s has in
          let q = x.0 in
          let is : s ≡ cont ks q = x.3 ∙ first-pushes work_first ks q refl in
          let last : last_stolen ph.stolen ≡ some (cont ks q) = e ∙ ap {B = Option ℕ} some is in
          (suc q, based_own ph (suc q) 0 (based_child ph q x.1 x.2 last (pusher_inside work_first ph cut s has x)))

  -- The rule by that step: the number is greater than its ordinal, and at most the task's count of children.
  pub based_allowed : (ph : Phase) (base at number : ℕ) → Based ph base at
      → (ordinal_allowed ks ph number ≡ true → (at < number) × (number ≤ child_count ks (task ks base)))
      × (at < number → number ≤ child_count ks (task ks base) → ordinal_allowed ks ph number ≡ true)
  based_allowed ph base at number b = rw b.1 (by (last_stolen ph.stolen) refl)
    where
      most : ℕ
      most = child_count ks (frontier ks ph)

      by : (o : Option ℕ) → last_stolen ph.stolen ≡ o
          → (ordinal_allowed ks ph number ≡ true → (at < number) × (number ≤ child_count ks (frontier ks ph)))
          × (at < number → number ≤ child_count ks (frontier ks ph) → ordinal_allowed ks ph number ≡ true)
      by none e =
          let rule = unstolen-rule ks ph number e in
          let own = ordinal ks ph.first in
          let same : own ≡ at = ap (ordinal ks) (sym (b.5.0 e)) ∙ b.2 in (
            λ a.
                let t = and-three (leb 1 number) (leb number most) (ltb own number) (sym rule ∙ a) in
                (omega (arith, ltb-true own number t.2), leb-true number most t.1),
            λ l m. rule ∙ rw (le-leb 1 number (omega arith), le-leb number most m, lt-ltb own number (omega arith)) refl,
          )
      by (some s) e =
          let rule = stolen-rule ks ph number s e in
          let zero : at ≡ 0 = b.5.1 s e in (
            λ a.
                let t = and-three (leb 1 number) (leb number most) true (sym rule ∙ a) in
                (omega (arith, leb-true 1 number t.0), leb-true number most t.1),
            λ l m. rule ∙ rw (le-leb 1 number (omega arith), le-leb number most m) refl,
          )

  -- The step that the number names is the continuation of an opening step, from the base on.
  based_cont : (ph : Phase) (base at number : ℕ) → Based ph base at → ordinal_allowed ks ph number ≡ true
      → (q : ℕ) × (base ≤ q) × (q < length ks) × (is_end (kind_at ks q) ≡ false) × (task_step ks (frontier ks ph) number ≡ cont ks q)
  based_cont ph base at number b a =
      let rule = (based_allowed ph base at number b).0 a in
      rw b.1 at (task-cont ks sh base number b.0 (omega (arith, rule.0, b.2)) rule.1)

  -- After the steal of a continuation, the child before it is walked from its first step.
  pub based_robbed : (ph : Phase) (base at number q : ℕ) → Based ph base at → ordinal_allowed ks ph number ≡ true
      → q < length ks → is_end (kind_at ks q) ≡ false → task_step ks (frontier ks ph) number ≡ cont ks q
      → Based (robbed ph (task_step ks (frontier ks ph) number)) (suc q) 0
  based_robbed ph base at number q b a h o e =
      let c = based_cont ph base at number b a in
      let same : q ≡ c.0 = part_once ks sh q c.0 (cont ks q) (h, o, inr refl) (c.2, c.3, inr (sym e ∙ c.4)) in
      rw e (based_child (robbed ph (cont ks q)) q h o (last_stolen_lem ph.stolen (cont ks q)) (omega (arith, c.1, b.4)))

  -- ---- help-first

  async_pushed : (s : ℕ) → s < length ks → starts_async ks s ≡ true → Pushed help_first ks s
  unfolding starts_async is_async is_end pushes pushes_child
  async_pushed zero h a = absurd (true≢false (sym a))
  async_pushed (suc o) h a = (o, omega arith, rw (eqb-true (kind_at ks o) 1 a) refl, rw a refl)

  follows_none : {P : Type 0} (s : ℕ) → finish_before ks s ≡ none → follows_finish ks s ≡ true → P
  unfolding follows_finish
  follows_none s e a = absurd (true≢false (sym (rw (e, follows_finish) at a)))

  -- The continuation of a finish's opening step is what that step pushes.
  cont_pushed : (q : ℕ) → q < length ks → is_end (kind_at ks q) ≡ false → follows_finish ks (cont ks q) ≡ true
      → Pushed help_first ks (cont ks q)
  unfolding is_finish is_async pushes pushes_child end_at
  cont_pushed q h o a = by (is_finish (kind_at ks q)) refl
    where
      by : (b : Bool) → is_finish (kind_at ks q) ≡ b → Pushed help_first ks (cont ks q)
      by true e = (q, h, o, rw (eqb-true (kind_at ks q) 2 e) refl)
      by false e = follows_none (cont ks q) (finish_cont ks sh q h o ∙ rw e refl) a

  finish_pushed : (s : ℕ) → s < length ks → follows_finish ks s ≡ true → Pushed help_first ks s
  unfolding finish_before end_at
  finish_pushed zero h a = follows_none 0 refl a
  finish_pushed (suc e) h a =
      let x = part ks sh (suc e) (omega arith) h in
      ⊎_elim (λ w. follows_none (suc e) (ap {B = Option ℕ} (finish_before ks) w ∙ finish_child_lem ks sh x.of x.opens) a)
      (λ w. rw w (cont_pushed x.of x.within x.opens (rw w at a))) x.which

  -- The first step of an async child or the step after a finish child is what is pushed.
  pub serial_pushed : (s : ℕ) → s < length ks → (starts_async ks s ≡ true) ⊎ (follows_finish ks s ≡ true) → Pushed help_first ks s
  serial_pushed s h which = ⊎_elim (async_pushed s h) (finish_pushed s h) which

  -- ---- both

  taken_first : (ph : Phase) → Cut work_first ks ph → (number : ℕ) → ordinal_allowed ks ph number ≡ true
      → Taken work_first ks ph (task_step ks (frontier ks ph) number)
  taken_first ph cut number a =
      let walked = based_some ph cut in
      let base = walked.0 in
      let b = walked.1 in
      let rule = (based_allowed ph base (ordinal ks base) number b).0 a in
      let c = based_cont ph base (ordinal ks base) number b a in
      let s = task_step ks (frontier ks ph) number in
      let step = rw b.1 at (task_step_lem ks sh base number b.0 (omega (arith, rule.0)) rule.1) in
      let end : task_end ks s ≡ frontier_end ks ph = step.4 ∙ b.3 in
      record {
        pushed = (c.0, c.2, c.3, c.4 ∙ sym (first-pushes work_first ks c.0 refl));
        later = λ e. omega (arith, c.1, c.4, b.4, cont-inside ks sh c.0 c.2 c.3);
        apart = covered_apart work_first ph cut s (λ j l u.
            cut.interval refl j
            ∙ rw (le-leb ph.first j (omega (arith, step.0, b.4)), lt-ltb j (frontier_end ks ph) (omega arith)) refl);
        frontier = λ w. end;
      }

  taken_serial : (ph : Phase) → Cut help_first ks ph → (s : ℕ) → serial_allowed ks ph s ≡ true → Taken help_first ks ph s
  unfolding serial_allowed
  taken_serial ph cut s a =
      let inside = ltb s (length ks) in
      let pushed = starts_async ks s || follows_finish ks s in
      let other = not (eqb s ph.first) in
      let size = task_end ks s - s in
      let rest = and_both (inside && pushed && other) (all (covers ks ph) (count s size)) a in
      let t = and-three inside pushed other rest.0 in
      let within = ltb-true s (length ks) t.0 in
      record {
        pushed = serial_pushed s within (or_either (starts_async ks s) (follows_finish ks s) t.1 inl inr);
        later = eqb-false s ph.first (not-true (eqb s ph.first) t.2);
        apart = covered_apart help_first ph cut s (λ j l u. all_count (covers ks ph) size s rest.1 j l (omega arith));
        frontier = λ w. absurd (omega arith);
      }

  pub allowed_taken : (p : ℕ) → (p ≡ work_first) ⊎ (p ≡ help_first) → (ph : Phase) → Cut p ks ph → (number : ℕ)
      → number_allowed p ks ph number ≡ true → Taken p ks ph (stolen_step p ks ph number)
  unfolding number_allowed stolen_step
  allowed_taken p (inl w) ph cut number a = rw w (taken_first ph (rw w at cut) number (rw w at a))
  allowed_taken p (inr w) ph cut number a = rw w (taken_serial ph (rw w at cut) number (rw w at a))

  -- What a phase is after a steal from it, and the thief's phase.
  pub cut-robbed : (p : ℕ) (ph : Phase) (s : ℕ) → Cut p ks ph → Taken p ks ph s → Cut p ks (robbed ph s)
  cut-robbed p ph s cut taken =
      let end = (stolen-end ks (robbed ph s) s (last_stolen_lem ph.stolen s)).1 in
      let within = pushed_within ks sh p s taken.pushed in
      let own = end_within ks sh s within in
      let inside = inside-first ph.first s within (omega (arith, taken.apart s)) in
      let differs : ph.first ≡ s → ⊥ = λ e. taken.later (sym e) in
      record {
        begins = cut.begins;
        apart = λ j. omega (arith, sum_one (span ks j) ph.stolen s, taken.apart j);
        pushed = λ x m. has_one x s ph.stolen m (cut.pushed x) (λ e. rw e taken.pushed);
        later = λ x m. has_one x s ph.stolen m (cut.later x) (λ e z. taken.later (sym e ∙ z));
        some = λ w. rw end (omega (arith, inside.0));
        interval = λ w j.
            rw (end, covers-robbed ks ph s j, cut.interval w j) (cut_at ks ph s j inside.0 own.0 (taken.frontier w));
      }

  pub cut-fresh : (p t s : ℕ) → s < length ks → Cut p ks (record { worker = t; first = s; stolen = [] })
  unfolding sum frontier_end last_stolen covers from_step any
  cut-fresh p t s h =
      record {
        begins = h;
        apart = λ j. omega arith;
        pushed = λ x m. has_none x m;
        later = λ x m. has_none x m;
        some = λ w. (end_within ks sh s h).0;
        interval = λ w j. and-true (leb s j && ltb j (task_end ks s));
      }
