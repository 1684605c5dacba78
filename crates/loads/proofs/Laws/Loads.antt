-- The loads of phases, and how a steal moves weight from one worker's load to another's. Of phases alone: a run's and a
-- replayed trace's alike.
use Prim.Native.Nat.{ℕ, zero, suc, ◌+◌, ◌-◌, ◌≤◌, ◌<◌}
use Rattle.std.specs.Prelude.{◌≡◌, Bool, true, false, ◌&&◌, ◌||◌, not, set, replicate, eqb, leb}
use Rattle.std.proofs.Math.Path.{refl}
use Rattle.std.proofs.Common.{sym, ap, ◌∙◌, zero-add, length-set, ext_get_or, lt-length-set, get_or-set_same, get_or-set_other}
use Rattle.std.proofs.Math.Bool.{cond, and-true, or-false}
use mathlib.Core.List.{List, [], ◌∷◌}
use Rattle.std.proofs.Math.Decide.{ℕ_discrete, dec_lt}
use Rattle.std.proofs.Math.Nat.{add-zero}
use native.Mathlib.Omega.{arith}
use Rattle.std.proofs.Math.ListN.{length, get_or}
use Rattle.std.proofs.Math.Dec.{ltb}
use borrow.Author.Tests.{lt-ltb, le-ltb, le-leb, lt-leb, eq-eqb, ne_eqb}
use Rattle.rules.specs.Bytes.{count, any, sum}
use Rattle.rules.specs.Tree.{task_end}
use Rattle.rules.specs.Scheduling.{most_workers, Phase, first_phases, phase_at, begin}
use Rattle.rules.specs.Traces.{from_step, covers, phase_load, worker_load, loads}
use Rattle.tree.specs.Laws.Counts.{map_at, map-length}
use Rattle.tree_scan.specs.Laws.Shape.{Shape}
use Rattle.tree_scan.specs.Laws.Frames.{end_at, size_at}
use Rattle.tree_tables.specs.Terms.{Ends, Sums, weight_before}
use Rattle.run_invariant.proofs.Laws.Counts.{any_one, any_sum, sum_plus}
use Rattle.run_invariant.proofs.Laws.Weights.{span, end_within}
use Rattle.run_invariant.proofs.Laws.Moves.{sum_one, sum_set, robbed}
use Rattle.loads.specs.Terms.{weight_between, Movable, load_moved, Whole}
use Rattle.loads.proofs.Laws.Takes.{Takes}

-- ---- sums

-- A longer interval from the same number on sums no less.
sum_rises : (f : ℕ → ℕ) (a m n : ℕ) → m ≤ n → sum f (count a m) ≤ sum f (count a n)
unfolding sum count
sum_rises f a zero n h = omega arith
sum_rises f a (suc m) zero h = absurd (omega arith)
sum_rises f a (suc m) (suc n) h = omega (arith, sum_rises f (suc a) m n (omega arith))

-- What stands below e in a longer interval.
sum_below : (f : ℕ → ℕ) (e n a : ℕ) → e ≤ a + n → sum (λ j. cond (ltb j e) (f j) 0) (count a n) ≡ sum f (count a (e - a))
unfolding sum count
sum_below f e zero a h =
    let none : e - a ≡ 0 = omega arith in
    rw none refl
sum_below f e (suc n) a h =
    let rest = sum_below f e n (suc a) (omega arith) in
    elim (dec_lt a e) [
      | yes l ↦
          let one : e - a ≡ suc (e - suc a) = omega arith in
          rw (one, lt-ltb a e l, rest) refl
      | no m ↦
          let none : e - a ≡ 0 = omega arith in
          let past : e - suc a ≡ 0 = omega arith in
          rw (none, le-ltb a e (omega arith), rest, past) refl
    ]

weight_rises : (ws : List ℕ) (i j : ℕ) → i ≤ j → weight_before ws i ≤ weight_before ws j
unfolding weight_before
weight_rises ws i j h = sum_rises (λ k. get_or ws k 0) 0 i j h

-- A list with the moved weights in both places and the same elsewhere is the list with the weight moved.
moved_is : (ls new : List ℕ) (t v x : ℕ) → length new ≡ length ls → t < length ls → v < length ls → (t ≡ v → ⊥)
    → get_or new t 0 ≡ get_or ls t 0 + x → get_or new v 0 + x ≡ get_or ls v 0
    → ((u : ℕ) → u < length ls → (u ≡ t → ⊥) → (u ≡ v → ⊥) → get_or new u 0 ≡ get_or ls u 0) → new ≡ load_moved ls t v x
unfolding load_moved
moved_is ls new t v x size h l n more less same =
    let lighter : ℕ = get_or ls v 0 - x in
    let sized : length (load_moved ls t v x) ≡ length ls = simp length-set in
    ext_get_or 0 new (load_moved ls t v x) (size ∙ sym sized) (λ u b.
    elim (ℕ_discrete u t) [
      | yes e ↦
          let less = set ls v lighter in
          rw (e, get_or-set_same less t (get_or less t 0 + x) 0 (lt-length-set ls v lighter h), get_or-set_other ls v t lighter 0 n) more
      | no m ↦
          rw (get_or-set_other (set ls v lighter) t u (get_or (set ls v lighter) t 0 + x) 0 m)
          (elim (ℕ_discrete u v) [
            | yes e ↦ rw (e, get_or-set_same ls v lighter 0 l) (omega arith)
            | no k ↦ rw (get_or-set_other ls v u lighter 0 k) (same u (omega arith) m k)
          ])
    ])

-- ---- loads as a list

pub loads-length : (w : ℕ) (ks ws : List ℕ) (phs : List Phase) → length (loads w ks ws phs) ≡ w
unfolding loads
loads-length w ks ws phs = map-length (worker_load ks ws phs) w 0

pub loads-at : (w : ℕ) (ks ws : List ℕ) (phs : List Phase) (u : ℕ) → u < w → get_or (loads w ks ws phs) u 0 ≡ worker_load ks ws phs u
unfolding loads
loads-at w ks ws phs u h = map_at (worker_load ks ws phs) w 0 u h ∙ rw zero-add refl

-- ---- the weight of a part

-- The weight of the steps from i to the end of i's task, with all that they spawn.
unfoldable pub part_weight : List ℕ → List ℕ → ℕ → ℕ
part_weight ks ws i = weight_before ws (task_end ks i) - weight_before ws i

-- The steps below e are those below i and those from i to e.
from-below : (i e j x : ℕ) → i ≤ e → cond (ltb j e) x 0 ≡ cond (ltb j i) x 0 + cond (leb i j && ltb j e) x 0
from-below i e j x h =
    elim (dec_lt j i) [
      | yes l ↦ rw (lt-leb i j l, lt-ltb j i l, lt-ltb j e (omega arith)) (omega arith)
      | no n ↦ rw (le-leb i j (omega arith), le-ltb j i (omega arith)) (sym (zero-add (cond (ltb j e) x 0)))
    ]

-- At one step of weight x: where the parts stolen before and the part taken now are apart and inside the first step's part,
-- what was covered is what still is and what is taken.
part_leaves : (first taken : Bool) (gone x : ℕ) → gone + cond taken 1 0 ≤ cond first 1 0
    → cond (first && not (ltb 0 gone)) x 0 ≡ cond (first && not (ltb 0 gone || taken)) x 0 + cond taken x 0
part_leaves first false gone x h = rw or-false (omega arith)
part_leaves true true gone x h =
    let none : gone ≡ 0 = omega arith in
    rw none (omega arith)
part_leaves false true gone x h = absurd (omega arith)

module _ (ks ws : List ℕ) where
  -- The weight of a part, step by step.
  part_sum : ℕ → ℕ
  part_sum i = sum (λ j. cond (from_step ks i j) (get_or ws j 0) 0) (count 0 (length ks))

  -- The weight of a part is that below its end less that below its first step.
  part_sum_lem : (i : ℕ) → i ≤ task_end ks i → task_end ks i ≤ length ks → part_sum i ≡ part_weight ks ws i
  unfolding part_sum part_weight weight_before from_step
  part_sum_lem i l u =
      let here : i - 0 ≡ i = omega arith in
      let end : task_end ks i - 0 ≡ task_end ks i = omega arith in
      let w : ℕ → ℕ = λ j. get_or ws j 0 in
      omega (
        arith,
        sum_plus (λ j. cond (ltb j (task_end ks i)) (w j) 0) (λ j. cond (ltb j i) (w j) 0)
            (λ j. cond (leb i j && ltb j (task_end ks i)) (w j) 0) (λ j. from-below i (task_end ks i) j (w j) l)
            (count 0 (length ks)),
        rw here at (sum_below w i (length ks) 0 (omega arith)),
        rw end at (sum_below w (task_end ks i) (length ks) 0 (omega arith)),
      )

  part_is : Shape (length ks) (end_at ks) (size_at ks) → (i : ℕ) → i < length ks → part_sum i ≡ part_weight ks ws i
  part_is sh i h =
      let inside = end_within ks sh i h in
      part_sum_lem i (omega arith) (omega arith)

  -- Nothing is stolen yet from a phase that begins.
  fresh-load : (w i : ℕ) → phase_load ks ws (record { worker = w; first = i; stolen = [] }) ≡ part_sum i
  unfolding phase_load covers any part_sum
  fresh-load w i = λ k. sum (λ j. cond (and-true (from_step ks i j) k) (get_or ws j 0) 0) (count 0 (length ks))

  -- A steal from a phase takes a part from what it covers.
  robbed-load : (ph : Phase) (o : ℕ) → ((j : ℕ) → sum (span ks j) ph.stolen + span ks j o ≤ span ks j ph.first)
      → phase_load ks ws ph ≡ phase_load ks ws (robbed ph o) + part_sum o
  unfolding phase_load covers span part_sum
  robbed-load ph o h =
      sum_plus (λ j. cond (covers ks ph j) (get_or ws j 0) 0) (λ j. cond (covers ks (robbed ph o) j) (get_or ws j 0) 0)
      (λ j. cond (from_step ks o j) (get_or ws j 0) 0)
      (λ j. rw (any_one (λ x. from_step ks x j) ph.stolen o, any_sum (λ x. from_step ks x j) ph.stolen)
      (part_leaves (from_step ks ph.first j) (from_step ks o j) (sum (span ks j) ph.stolen) (get_or ws j 0) (h j)))
      (count 0 (length ks))

-- By the tables of a tree, for all its steps: a part's weight.
module _ (ks ws : List ℕ) (sh : Shape (length ks) (end_at ks) (size_at ks)) (ends sums : List ℕ) (right : Ends ks ends (length ks))
    (added : Sums ws sums (length ks)) (o : ℕ) (within : o < length ks) where
  start_sum : get_or sums o 0 ≡ weight_before ws o
  start_sum = added o (omega arith)

  end_sum : get_or sums (get_or ends o 0) 0 ≡ weight_before ws (task_end ks o)
  end_sum = rw (right o within) (added (task_end ks o) (end_within ks sh o within).1)

  pub part_between : weight_between ends sums o ≡ part_weight ks ws o
  unfolding weight_between part_weight
  part_between = rw (start_sum, end_sum) refl

-- ---- the start, and a steal

module _ (ks ws : List ℕ) where
  -- A phase's share in worker u's load.
  share : ℕ → Phase → ℕ
  share u ph = cond (eqb ph.worker u) (phase_load ks ws ph) 0

  cond_plus : (b : Bool) (x y : ℕ) → cond b (x + y) 0 ≡ cond b x 0 + cond b y 0
  cond_plus true x y = refl
  cond_plus false x y = refl

  robbed_share : (u : ℕ) (ph : Phase) (o : ℕ) → phase_load ks ws ph ≡ phase_load ks ws (robbed ph o) + part_sum ks ws o
      → share u ph ≡ share u (robbed ph o) + cond (eqb ph.worker u) (part_sum ks ws o) 0
  unfolding share
  robbed_share u ph o e = rw e (cond_plus (eqb ph.worker u) (phase_load ks ws (robbed ph o)) (part_sum ks ws o))

  fresh_share : (u t o : ℕ) → share u (record { worker = t; first = o; stolen = [] }) ≡ cond (eqb t u) (part_sum ks ws o) 0
  unfolding share
  fresh_share u t o = rw (fresh-load ks ws t o) refl

  -- The robbed phase and the thief's take the place of the phase.
  begin-load : (phs : List Phase) (t k o u : ℕ) → k < length phs
      → worker_load ks ws (begin phs t k o) u + share u (phase_at phs k)
      ≡ worker_load ks ws phs u + share u (robbed (phase_at phs k) o) + share u (record { worker = t; first = o; stolen = [] })
  unfolding worker_load begin phase_at share
  begin-load phs t k o u h =
      let more : Phase = robbed (phase_at phs k) o in
      omega (
        arith,
        sum_one (share u) (set phs k more) (record { worker = t; first = o; stolen = [] }),
        sum_set (share u) phs k more (record { worker = 0; first = 0; stolen = [] }) h,
      )

  -- Two workers' loads are within those of all phases.
  two_loads : (t v : ℕ) → (t ≡ v → ⊥) → (phs : List Phase)
      → worker_load ks ws phs t + worker_load ks ws phs v ≤ sum (phase_load ks ws) phs
  unfolding worker_load sum
  two_loads t v n [] = omega arith
  two_loads t v n (ph ∷ phs) =
      elim (ℕ_discrete ph.worker t) [
        | yes e ↦ rw (eq-eqb ph.worker t e, ne_eqb ph.worker v (λ s. n (sym e ∙ s))) (omega (arith, two_loads t v n phs))
        | no m ↦ rw (ne_eqb ph.worker t m) (elim (ℕ_discrete ph.worker v) [
          | yes e ↦ rw (eq-eqb ph.worker v e) (omega (arith, two_loads t v n phs))
          | no k ↦ rw (ne_eqb ph.worker v k) (omega (arith, two_loads t v n phs))
        ])
      ]

module _ (ks : List ℕ) (some-step : 1 ≤ length ks) (sh : Shape (length ks) (end_at ks) (size_at ks)) where
  first_load : (ws : List ℕ) → phase_load ks ws (record { worker = 0; first = 0; stolen = [] }) ≡ weight_before ws (length ks)
  unfolding part_weight weight_before sum count size_at
  first_load ws =
      let end : task_end ks 0 ≡ length ks = omega (arith, sh.whole) in
      omega (arith, fresh-load ks ws 0 0, rw end at (part_is ks ws sh 0 some-step))

  -- At the start worker 0's phase covers all.
  pub start-loads : (ws : List ℕ) → loads most_workers ks ws first_phases ≡ set (replicate most_workers 0) 0 (weight_before ws (length ks))
  unfolding loads worker_load first_phases count sum
  start-loads ws = rw (first_load ws, add-zero (weight_before ws (length ks))) refl

  pub start-whole : Whole ks first_phases
  unfolding first_phases sum
  start-whole ws = omega (arith, first_load ws)

-- A part goes from one phase to another, so all loads together stay what they were.
pub begin-whole : (ks : List ℕ) {phs : List Phase} {t k v o : ℕ} → Takes ks phs t k v o → Whole ks phs → Whole ks (begin phs t k o)
unfolding begin phase_at
begin-whole ks {phs} {t} {k} {v} {o} x whole ws =
    let more : Phase = robbed (phase_at phs k) o in
    omega (
      arith,
      whole ws,
      sum_one (phase_load ks ws) (set phs k more) (record { worker = t; first = o; stolen = [] }),
      sum_set (phase_load ks ws) phs k more (record { worker = 0; first = 0; stolen = [] }) x.begun,
      robbed-load ks ws (phase_at phs k) o x.apart,
      fresh-load ks ws t o,
    )

module _ (ks ws : List ℕ) (sh : Shape (length ks) (end_at ks) (size_at ks)) {phs : List Phase} {t k v o : ℕ}
    (x : Takes ks phs t k v o) where
  -- The part goes from the victim's load to the thief's.
  load_moves : (u : ℕ)
      → worker_load ks ws (begin phs t k o) u + cond (eqb v u) (part_weight ks ws o) 0
      ≡ worker_load ks ws phs u + cond (eqb t u) (part_weight ks ws o) 0
  load_moves u =
      rw (← part_is ks ws sh o x.within)
      (omega (
        arith,
        begin-load ks ws phs t k o u x.begun,
        robbed_share ks ws u (phase_at phs k) o (robbed-load ks ws (phase_at phs k) o x.apart),
        ap (λ (w : ℕ). cond (eqb w u) (part_sum ks ws o) 0) x.own,
        fresh_share ks ws u t o,
      ))

  -- The victim's load loses the part, the thief's gains it, and every other stays.
  victim_less : worker_load ks ws (begin phs t k o) v + part_weight ks ws o ≡ worker_load ks ws phs v
  victim_less =
      let moves = load_moves v in
      omega (arith, rw (eq-eqb v v refl, ne_eqb t v x.other) at moves)

  thief-more : worker_load ks ws (begin phs t k o) t ≡ worker_load ks ws phs t + part_weight ks ws o
  thief-more =
      let moves = load_moves t in
      omega (arith, rw (eq-eqb t t refl, ne_eqb v t (λ e. x.other (sym e))) at moves)

  rest_same : (u : ℕ) → (u ≡ t → ⊥) → (u ≡ v → ⊥) → worker_load ks ws (begin phs t k o) u ≡ worker_load ks ws phs u
  rest_same u n m =
      let moves = load_moves u in
      omega (arith, rw (ne_eqb t u (omega arith), ne_eqb v u (omega arith)) at moves)

  -- What is stolen is all in the victim's load,
  pub begin_fits : part_weight ks ws o ≤ get_or (loads most_workers ks ws phs) v 0
  begin_fits = omega (arith, loads-at most_workers ks ws phs v x.victim, victim_less)

  -- and goes to the thief's.
  pub begin-loads : loads most_workers ks ws (begin phs t k o) ≡ load_moved (loads most_workers ks ws phs) t v (part_weight ks ws o)
  begin-loads =
      let old = loads-at most_workers ks ws phs in
      let new = loads-at most_workers ks ws (begin phs t k o) in
      let size = loads-length most_workers ks ws phs in
      moved_is (loads most_workers ks ws phs) (loads most_workers ks ws (begin phs t k o)) t v (part_weight ks ws o)
      (loads-length most_workers ks ws (begin phs t k o) ∙ sym size) (omega arith) (omega arith) x.other
      (omega (arith, old t x.thief, new t x.thief, thief-more))
      (omega (arith, old v x.victim, new v x.victim, victim_less))
      (λ u b n m.
      let h : u < most_workers = omega arith in
      omega (arith, old u h, new u h, rest_same u n m))

  -- By the tables the part can be moved, where all loads together are the tree's weight and that fits 64 bits.
  pub begin_movable : (ends sums : List ℕ) → length ks ≤ length ends → Ends ks ends (length ks) → length ks < length sums
      → Sums ws sums (length ks) → sum (phase_load ks ws) phs ≡ weight_before ws (length ks)
      → weight_before ws (length ks) < 18446744073709551616 → Movable ends sums (loads most_workers ks ws phs) t v o
  begin_movable ends sums long right longer added whole light =
      let inside = end_within ks sh o x.within in
      let weighs = part_between ks ws sh ends sums right added o x.within in
      let at = loads-at most_workers ks ws phs in
      let room = two_loads ks ws t v x.other phs in
      record {
        in_table = omega arith;
        in_sums = (omega arith, omega (arith, right o x.within));
        rises = rw (start_sum ks ws sh ends sums right added o x.within, end_sum ks ws sh ends sums right added o x.within)
            (weight_rises ws o (task_end ks o) (omega arith));
        leaves = rw weighs begin_fits;
        fits = rw weighs (omega (arith, at t x.thief, at v x.victim, begin_fits));
      }
