-- Labels: a table that tells, of some steps, the phase that covers them. Labelled are the first steps of the phases and all
-- opening steps above them. No labelled step can be stolen any more, so a label never changes; and every step that can be
-- stolen is found to be in the phase of the nearest labelled step above it.
use Prim.Native.Nat.{ℕ, zero, suc, ◌≤◌, ◌<◌}
use Rattle.std.specs.Prelude.{◌≡◌, refl, Bool, false, cond, List, [], ◌∷◌, get_or, set, eqb}
use Rattle.std.proofs.Common.{sym, ap, ◌∙◌, true≢false, lt-length-set, eq-eqb, ne_eqb}
use Rattle.std.proofs.Math.Bool.{true}
use Rattle.std.proofs.Math.Decide.{ℕ_discrete, dec_lt, dec_le}
use native.Mathlib.Omega.{arith}
use Rattle.std.proofs.Math.ListN.{length, length-set}
use Rattle.std.proofs.Math.Seq.{get_or-set_same, get_or-set_other}
use Rattle.rules.specs.Bytes.{any}
use Rattle.rules.specs.Tree.{kind_at, is_end, task_end}
use Rattle.rules.specs.Scheduling.{pushes, Phase, first_phases, phase_at, begin}
use Rattle.rules.specs.Traces.{from_step, covers}
use Rattle.tree.specs.Laws.Verdicts.{cond_same}
use Rattle.tree_scan.specs.Laws.Shape.{Shape}
use Rattle.tree_scan.specs.Laws.Frames.{end_at, size_at}
use Rattle.run_invariant.proofs.Laws.Counts.{Has, has_cases, has_none, one-true, has_head, has_tail}
use Rattle.run_invariant.proofs.Laws.Weights.{end_within, nested_end, inside-from, from-inside, outside_from, span_in, from-self}
use Rattle.run_invariant.proofs.Laws.Weights.{pushed_within}
use Rattle.run_invariant.proofs.Laws.Moves.{begin-length, begin_new, begin-robbed, begin_other, begin_same}
use Rattle.replay_invariant.specs.Invariant.{Taken, Split}
use Rattle.replay_invariant.proofs.Laws.Parts.{part_inside, entered, covers-counts, covered-inside, covered-kept}
use Rattle.replay_invariant.proofs.Laws.Parts.{covered-by, first-covered, pushed-covered, same-phase, stolen-begins}
use Rattle.replay_invariant.proofs.Laws.Parts.{covers-robbed, covering}
use Rattle.replay_invariant.specs.Terms.{free, label_of, Labels, Climb, labelled, PartOf}

-- ---- labels along a path

-- At a step of the path is the new label, elsewhere the old one.
labelled-at : (path labels : List ℕ) (k j : ℕ) → j < length labels
    → label_of (labelled labels path k) j ≡ cond (any (eqb j) path) k (label_of labels j)
unfolding labelled label_of any
labelled-at [] labels k j h = refl
labelled-at (q ∷ path) labels k j h =
    labelled-at path (set labels q k) k j (lt-length-set labels q k h)
    ∙ elim (ℕ_discrete j q) [
      | yes e ↦
          let here : get_or (set labels q k) j free ≡ k = rw e (get_or-set_same labels q k free (rw e at h)) in
          rw (here, eq-eqb j q e) (cond_same (any (eqb j) path) k)
      | no n ↦ rw (get_or-set_other labels q j k free n, ne_eqb j q n) refl
    ]

labelled-length : (path labels : List ℕ) (k : ℕ) → length (labelled labels path k) ≡ length labels
unfolding labelled
labelled-length [] labels k = refl
labelled-length (q ∷ path) labels k = labelled-length path (set labels q k) k ∙ length-set labels q k

-- ---- labels of phases

-- A new phase covers its first step.
fresh-covers : (ks : List ℕ) (t s : ℕ) → s < task_end ks s → covers ks (record { worker = t; first = s; stolen = [] }) s ≡ true
unfolding covers any
fresh-covers ks t s h = rw (inside-from ks s s (omega arith) h)

module _ (p : ℕ) (ks : List ℕ) (some-step : 1 ≤ length ks) (sh : Shape (length ks) (end_at ks) (size_at ks)) where
  -- Before any steal: step 0 has the label of phase 0.
  pub first-labels : (labels : List ℕ) → length ks ≤ length labels → label_of labels 0 ≡ 0
      → ((j : ℕ) → 0 < j → j < length ks → label_of labels j ≡ free) → Labels ks first_phases labels
  unfolding first_phases phase_at any covers
  first-labels labels l zero-first rest =
      record {
        size = l;
        few = omega arith;
        firsts = λ k h. let e : k ≡ 0 = omega arith in rw e zero-first;
        covering = λ j h n. rw (only j h n, zero-first) (omega arith, fresh-covers ks 0 0 (end_within ks sh 0 some-step).0);
        above = λ q x of f. let part = part_inside ks sh q x of in rest x (omega arith) part.3;
        reason = λ j h n. (0, omega arith, rw (only j h n) (from-self ks sh 0 some-step));
      }
    where
      only : (j : ℕ) → j < length ks → (label_of labels j ≡ free → ⊥) → j ≡ 0
      only j h n = elim (ℕ_discrete j 0) [ yes e ↦ e | no m ↦ absurd (n (rest j (omega arith) h)) ]

  module _ (phs : List Phase) (split : Split p ks phs) (labels : List ℕ) (shown : Labels ks phs labels) where
    -- Step 0 is labelled, so a climb ends there at the latest.
    pub root-labelled : label_of labels 0 ≡ free → ⊥
    root-labelled f =
        let by = covering ks sh p some-step phs split 0 some-step in
        let low = (covered-inside ks sh p (phase_at phs by.0) (split.cuts by.0 by.1) 0 by.2).0 in
        let first : (phase_at phs by.0).first ≡ 0 = omega arith in
        omega (arith, rw first at (shown.firsts by.0 by.1), by.1, shown.few)

    -- What is stolen begins a phase, so it is labelled.
    stolen-labelled : (k s : ℕ) → k < length phs → Has (phase_at phs k).stolen s → label_of labels s ≡ free → ⊥
    stolen-labelled k s h has f =
        let by = stolen-begins ks sh p some-step phs split k s h has in
        omega (arith, rw by.2 at (shown.firsts by.0 by.1), by.1, shown.few)

    -- All of the part from a step that can be stolen is in the phase.
    taken-covered : (k s : ℕ) → k < length phs → Taken p ks (phase_at phs k) s → (j : ℕ) → s ≤ j → j < task_end ks s
        → covers ks (phase_at phs k) j ≡ true
    taken-covered k s h taken j l u =
        one-true (covers ks (phase_at phs k) j)
        (omega (arith, covers-counts ks sh p (phase_at phs k) (split.cuts k h) j, taken.apart j, span_in ks j s l u))

    -- Where the path stands. Openers are those of the tree.
    module _ (openers : List ℕ) (ops : (j : ℕ) → 0 < j → j < length ks → PartOf ks (get_or openers j 0) j) where
      -- No step is labelled in the part from one that is not.
      free_part : (m j x : ℕ) → j ≤ m → x < length ks → label_of labels x ≡ free → x ≤ j → j < task_end ks x
          → label_of labels j ≡ free
      free_part zero j x a h f l u =
          let e : j ≡ x = omega arith in
          rw e f
      free_part (suc m) j x a h f l u =
          elim (ℕ_discrete j x) [
            | yes e ↦ rw e f
            | no n ↦
                let of = ops j (omega arith) (omega (arith, end_within ks sh x h)) in
                let up = entered ks sh (get_or openers j 0) j of x h l u (λ e. n (sym e)) in
                let low = part_inside ks sh (get_or openers j 0) j of in
                shown.above (get_or openers j 0) j of (free_part m (get_or openers j 0) x (omega arith) h f up.0 up.1)
          ]

      -- The phase that covers an opening step covers all of a part of it that is not labelled: nothing in there has been
      -- stolen, and what is stolen with it is stolen with the opening step.
      free-covered : (m q x : ℕ) → m < length phs → PartOf ks q x → covers ks (phase_at phs m) q ≡ true → label_of labels x ≡ free
          → (j : ℕ) → x ≤ j → j < task_end ks x → covers ks (phase_at phs m) j ≡ true
      free-covered m q x h of c f j l u =
          let cut = split.cuts m h in
          let part = part_inside ks sh q x of in
          let low = covered-inside ks sh p (phase_at phs m) cut q c in
          let nests = nested_end ks sh (phase_at phs m).first q cut.begins low.0 low.1 in
          covered-by ks sh p (phase_at phs m) cut j (omega arith) (omega arith)
          (λ s has. outside_from ks s j (λ a b. elim (dec_le x s) [
            | yes i ↦ stolen-labelled m s h has (free_part s s x (omega arith) part.3 f i (omega arith))
            | no n ↦
                let up = entered ks sh q x of s (omega arith) (omega arith) (omega arith) (omega arith) in
                let gone = covered-kept ks sh p (phase_at phs m) cut q s c has in
                true≢false (sym (inside-from ks s q up.0 up.1) ∙ gone)
          ]))

      -- So a step that is not labelled has an opening step above it.
      above_zero : (x : ℕ) → label_of labels x ≡ free → 0 < x
      above_zero x f = elim (ℕ_discrete x 0) [ yes e ↦ absurd (root-labelled (rw e at f)) | no n ↦ omega arith ]

      -- Of a step that is not labelled, all of the part from it is in the phase of the nearest labelled step above it.
      pub label-covers : (k s : ℕ) → k < length phs → s < length ks → label_of labels s ≡ free
          → (path : List ℕ) (top : ℕ) → Climb openers labels s path top → label_of labels top ≡ k
          → (j : ℕ) → s ≤ j → j < task_end ks s → covers ks (phase_at phs k) j ≡ true
      label-covers k s h l f [] top climb e j a b =
          let of = rw climb.0 at (ops s (above_zero s f) l) in
          free-covered k top s h of (rw e at (shown.covering top of.0 climb.1).1) f j a b
      label-covers k s h l f (q ∷ path) top climb e j a b =
          let of = rw climb.0 at (ops s (above_zero s f) l) in
          let part = part_inside ks sh q s of in
          label-covers k q h of.0 climb.1 path top climb.2 e j (omega arith) (omega arith)

      -- A step that can be stolen from phase k is not labelled, and the nearest labelled step above it has the label k.
      pub taken_free : (k s : ℕ) → k < length phs → Taken p ks (phase_at phs k) s → label_of labels s ≡ free
      taken_free k s h taken = elim (ℕ_discrete (label_of labels s) free) [ yes e ↦ e | no n ↦ absurd (never n) ]
        where
          never : (label_of labels s ≡ free → ⊥) → ⊥
          never n =
              let l = pushed_within ks sh p s taken.pushed in
              let why = shown.reason s l n in
              let first = (phase_at phs why.0).first in
              let low = from-inside ks s first why.2 in
              let cut = split.cuts why.0 why.1 in
              let begins = first-covered ks sh p (phase_at phs why.0) cut in
              let both = taken-covered k s h taken first low.0 low.1 in
              let same = same-phase ks sh p some-step phs split first why.0 k cut.begins why.1 h begins both in
              let own = taken-covered k s h taken s (omega arith) (end_within ks sh s l).0 in
              let high = (covered-inside ks sh p (phase_at phs k) (split.cuts k h) s own).0 in
              taken.later (omega (arith, rw same at low.0))

      top-labelled : (x : ℕ) → x < length ks → label_of labels x ≡ free
          → (path : List ℕ) (top : ℕ) → Climb openers labels x path top → (top < length ks) × (label_of labels top ≡ free → ⊥)
      top-labelled x l f [] top climb = ((rw climb.0 at (ops x (above_zero x f) l)).0, climb.1)
      top-labelled x l f (q ∷ path) top climb =
          top-labelled q (rw climb.0 at (ops x (above_zero x f) l)).0 climb.1 path top climb.2

      pub taken-label : (k s : ℕ) → k < length phs → Taken p ks (phase_at phs k) s
          → (path : List ℕ) (top : ℕ) → Climb openers labels s path top → label_of labels top ≡ k
      taken-label k s h taken path top climb =
          let l = pushed_within ks sh p s taken.pushed in
          let own = (end_within ks sh s l).0 in
          let f = taken_free k s h taken in
          let at = top-labelled s l f path top climb in
          let named = (shown.covering top at.0 at.1).0 in
          same-phase ks sh p some-step phs split s (label_of labels top) k l named h
          (label-covers (label_of labels top) s named l f path top climb refl s (omega arith) own)
          (taken-covered k s h taken s (omega arith) own)

      -- Step q is not labelled, x is in the part from it, and a path goes on from it.
      abbrev Passed : ℕ → ℕ → ℕ → Type 0
      Passed x top q =
          (rest : List ℕ) × (q < length ks) × (label_of labels q ≡ free) × (q < x) × (x < task_end ks q)
          × Climb openers labels q rest top

      -- A path from x passes such steps only.
      on-path : (x : ℕ) → x < length ks → label_of labels x ≡ free
          → (path : List ℕ) (top : ℕ) → Climb openers labels x path top → (q : ℕ) → Has path q → Passed x top q
      on-path x l f [] top climb q has = has_none q has
      on-path x l f (r ∷ path) top climb q has =
          has_cases q r path has (λ e. rw e (path, of.0, climb.1, part.0, part.1, climb.2))
          (λ later. further (on-path r of.0 climb.1 path top climb.2 q later))
        where
          of : PartOf ks r x
          of = rw climb.0 at (ops x (above_zero x f) l)

          part : (r < x) × (x < task_end ks r) × (task_end ks x ≤ task_end ks r) × (x < length ks)
          part = part_inside ks sh r x of

          further : Passed r top q → Passed x top q
          further (rest, h, f-q, low, high, more) =
              let nests = nested_end ks sh q r h (omega arith) high in
              (rest, h, f-q, omega (arith, part), omega (arith, part), more)

      -- And it passes every such step.
      path-all : (x : ℕ) → x < length ks → label_of labels x ≡ free → (path : List ℕ) (top : ℕ) → Climb openers labels x path top
          → (q : ℕ) → q < length ks → label_of labels q ≡ free → q < x → x < task_end ks q → Has path q
      path-all x l f [] top climb q h free-q a u =
          let of = rw climb.0 at (ops x (above_zero x f) l) in
          let up = entered ks sh top x of q h (omega arith) u (omega arith) in
          absurd (climb.1 (free_part top top q (omega arith) h free-q up.0 up.1))
      path-all x l f (r ∷ path) top climb q h free-q a u =
          let of = rw climb.0 at (ops x (above_zero x f) l) in
          let up = entered ks sh r x of q h (omega arith) u (omega arith) in
          elim (ℕ_discrete q r) [
            | yes e ↦ rw e (has_head r path)
            | no n ↦ has_tail q r path (path-all r of.0 climb.1 path top climb.2 q h free-q (omega arith) up.1)
          ]

      module _ (t k s : ℕ) (h : k < length phs) (room : suc (length phs) ≤ free) (taken : Taken p ks (phase_at phs k) s)
          (path : List ℕ) (top : ℕ) (climb : Climb openers labels s path top) where
        after : List ℕ
        after = set (labelled labels path k) s (length phs)

        within : s < length ks
        within = pushed_within ks sh p s taken.pushed

        unlabelled : label_of labels s ≡ free
        unlabelled = taken_free k s h taken

        after-length : length after ≡ length labels
        unfolding after
        after-length = length-set (labelled labels path k) s (length phs) ∙ labelled-length path labels k

        passed : (j : ℕ) → Has path j → Passed s top j
        passed = on-path s within unlabelled path top climb

        -- The label of s, of a step of the path, and of any other.
        after-step : label_of after s ≡ length phs
        unfolding after label_of
        after-step =
            get_or-set_same (labelled labels path k) s (length phs) free
            (omega (arith, labelled-length path labels k, shown.size, within))

        after-path : (j : ℕ) → Has path j → label_of after j ≡ k
        unfolding after label_of
        after-path j has =
            let on = passed j has in
            get_or-set_other (labelled labels path k) s j (length phs) free (omega (arith, on.3))
            ∙ (labelled-at path labels k j (omega (arith, on.1, shown.size)) ∙ rw has refl)

        after-other : (j : ℕ) → j < length ks → (j ≡ s → ⊥) → any (eqb j) path ≡ false → label_of after j ≡ label_of labels j
        unfolding after label_of
        after-other j l n off =
            get_or-set_other (labelled labels path k) s j (length phs) free n
            ∙ (labelled-at path labels k j (omega (arith, shown.size)) ∙ rw off refl)

        by-label : {P : Type 0} (j : ℕ) → j < length ks → (j ≡ s → P) → (Has path j → P)
            → (any (eqb j) path ≡ false → label_of after j ≡ label_of labels j → P) → P
        by-label {P} j l step on off =
            elim (ℕ_discrete j s) [ yes e ↦ step e | no n ↦ by n (any (eqb j) path) refl ]
          where
            by : (j ≡ s → ⊥) → (b : Bool) → any (eqb j) path ≡ b → P
            by n true e = on e
            by n false e = off e (after-other j l n e)

        -- The phases.
        new-first : (phase_at (begin phs t k s) (length phs)).first ≡ s
        new-first = ap (λ (x : Phase). x.first) (begin_new phs t k s)

        old-first : (m : ℕ) → m < length phs → (phase_at (begin phs t k s) m).first ≡ (phase_at phs m).first
        old-first m l = begin_same phs t k s (λ x. x.first) refl m l

        old_covers : (m j : ℕ) → m < length phs → covers ks (phase_at phs m) j ≡ true → from_step ks s j ≡ false
            → covers ks (phase_at (begin phs t k s) m) j ≡ true
        old_covers m j l c n =
            elim (ℕ_discrete m k) [
              | yes e ↦ rw (e, begin-robbed phs t k s h, covers-robbed ks (phase_at phs k) s j, rw e at c, n)
              | no o ↦ rw (begin_other phs t k s m l o) c
            ]

        after-firsts : (m : ℕ) → m < length (begin phs t k s) → label_of after (phase_at (begin phs t k s) m).first ≡ m
        after-firsts m l =
            elim (dec_lt m (length phs)) [
              | yes old ↦
                  let e = shown.firsts m old in
                  let first = (phase_at phs m).first in
                  rw (old-first m old) (by-label first (split.cuts m old).begins
                  (λ same. absurd (omega (arith, rw same at e, unlabelled, shown.few)))
                  (λ on. absurd (omega (arith, (passed first on).2, shown.few)))
                  (λ off so. so ∙ e))
              | no n ↦
                  let e : m ≡ length phs = omega (arith, begin-length phs t k s) in
                  rw (e, new-first) after-step
            ]

        Covered : ℕ → ℕ → Type 0
        Covered m j = (m < length (begin phs t k s)) × (covers ks (phase_at (begin phs t k s) m) j ≡ true)

        after-covering : (j : ℕ) → j < length ks → (label_of after j ≡ free → ⊥) → Covered (label_of after j) j
        unfolding Covered
        after-covering j l n = by-label j l at-step on-it elsewhere
          where
            longer : length (begin phs t k s) ≡ suc (length phs)
            longer = begin-length phs t k s

            at-step : j ≡ s → Covered (label_of after j) j
            at-step e =
                rw (e, after-step, begin_new phs t k s)
                (omega (arith, longer), fresh-covers ks t s (end_within ks sh s within).0)

            on-it : Has path j → Covered (label_of after j) j
            on-it has =
                let on = passed j has in
                let label = taken-label k s h taken path top climb in
                let own = label-covers k j h l on.2 on.0 top on.5 label j (omega arith) (end_within ks sh j l).0 in
                let apart = outside_from ks s j (λ a b. omega (arith, on.3)) in
                rw (after-path j has) (omega (arith, longer), old_covers k j h own apart)

            elsewhere : any (eqb j) path ≡ false → label_of after j ≡ label_of labels j → Covered (label_of after j) j
            elsewhere off so =
                let was : label_of labels j ≡ free → ⊥ = λ f. n (so ∙ f) in
                let own = shown.covering j l was in
                let apart = outside_from ks s j (λ a b. was (free_part j j s (omega arith) within unlabelled a b)) in
                rw so (omega (arith, own.0, longer), old_covers (label_of labels j) j own.0 own.1 apart)

        -- Every step above s is labelled now, and no label is gone.
        after-above : (q x : ℕ) → PartOf ks q x → label_of after q ≡ free → label_of after x ≡ free
        after-above q x of f =
            by-label q of.0 (λ e. absurd (omega (arith, rw e at f, after-step)))
            (λ on. absurd (omega (arith, after-path q on))) elsewhere
          where
            part : (q < x) × (x < task_end ks q) × (task_end ks x ≤ task_end ks q) × (x < length ks)
            part = part_inside ks sh q x of

            elsewhere : any (eqb q) path ≡ false → label_of after q ≡ label_of labels q → label_of after x ≡ free
            elsewhere off so =
                let old : label_of labels q ≡ free = sym so ∙ f in
                let all = path-all s within unlabelled path top climb q of.0 old in
                let apart : q < s → s < task_end ks q → ⊥ = λ a b. true≢false (sym (all a b) ∙ off) in
                by-label x part.3 (λ e. absurd (apart (omega (arith, part)) (omega (arith, part))))
                (λ has. absurd (apart (omega (arith, part, (passed x has).3)) (omega (arith, part, (passed x has).4))))
                (λ away same. same ∙ shown.above q x of old)

        Reason : ℕ → Type 0
        Reason j = (m : ℕ) × (m < length (begin phs t k s)) × (from_step ks j (phase_at (begin phs t k s) m).first ≡ true)

        after-reason : (j : ℕ) → j < length ks → (label_of after j ≡ free → ⊥) → Reason j
        unfolding Reason
        after-reason j l n =
            by-label j l (λ e. from-new (rw e (from-self ks sh s within)))
            (λ has. from-new (inside-from ks j s (omega (arith, (passed j has).3)) (passed j has).4))
            (λ off so. from_old (shown.reason j l (λ f. n (so ∙ f))))
          where
            from-new : from_step ks j s ≡ true → Reason j
            from-new e = (length phs, omega (arith, begin-length phs t k s), rw new-first e)

            from_old : (m : ℕ) × (m < length phs) × (from_step ks j (phase_at phs m).first ≡ true) → Reason j
            from_old (m, old, e) = (m, omega (arith, begin-length phs t k s), rw (old-first m old) e)

        -- After the steal: the path has the label of the victim's phase and the step that of the new one.
        pub begin-labels : Labels ks (begin phs t k s) (set (labelled labels path k) s (length phs))
        unfolding after Covered Reason
        begin-labels =
            record {
              size = omega (arith, after-length, shown.size);
              few = omega (arith, begin-length phs t k s);
              firsts = after-firsts;
              covering = after-covering;
              above = after-above;
              reason = after-reason;
            }

    -- A step that a covered step of phase k pushes is stolen from it exactly where it has the label of another phase.
    pub label-drops : (k x : ℕ) → k < length phs → covers ks (phase_at phs k) x ≡ true → is_end (kind_at ks x) ≡ false
        → (label_of labels (pushes p ks x) ≡ free → covers ks (phase_at phs k) (pushes p ks x) ≡ true)
        × ((label_of labels (pushes p ks x) ≡ k → covers ks (phase_at phs k) (pushes p ks x) ≡ true)
        × ((label_of labels (pushes p ks x) ≡ free → ⊥) → (label_of labels (pushes p ks x) ≡ k → ⊥)
        → covers ks (phase_at phs k) (pushes p ks x) ≡ false))
    label-drops k x h c e = (
      λ f. kept (λ has. stolen-labelled k y h has f),
      (λ own. kept (λ has. begun own has), λ n m. by n m (covers ks (phase_at phs k) y) refl),
    )
      where
        y : ℕ
        y = pushes p ks x

        kept : (Has (phase_at phs k).stolen y → ⊥) → covers ks (phase_at phs k) y ≡ true
        kept = pushed-covered ks sh p (phase_at phs k) (split.cuts k h) x c e

        -- The phase that a step stolen from k begins is another.
        begun : label_of labels y ≡ k → Has (phase_at phs k).stolen y → ⊥
        begun own has =
            let by = stolen-begins ks sh p some-step phs split k y h has in
            let same : by.0 ≡ k = sym (rw by.2 at (shown.firsts by.0 by.1)) ∙ own in
            (split.cuts k h).later y has (sym (rw same at by.2))

        within : y < length ks
        within = pushed_within ks sh p y (x, (covered-inside ks sh p (phase_at phs k) (split.cuts k h) x c).2, e, refl)

        by : (label_of labels y ≡ free → ⊥) → (label_of labels y ≡ k → ⊥) → (b : Bool) → covers ks (phase_at phs k) y ≡ b
            → covers ks (phase_at phs k) y ≡ false
        by n m true t =
            let other = shown.covering y within n in
            absurd (m (same-phase ks sh p some-step phs split y (label_of labels y) k within other.0 h other.1 t))
        by n m false t = t
