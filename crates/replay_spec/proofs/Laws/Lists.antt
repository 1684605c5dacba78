-- What the loop of `replay_list::write_list` holds: the records of the phases so far stand at the front of the list. This is
-- so at the start and after each turn, and at the end it is the run list.
use Rattle.std.specs.Prelude.{ℕ, ◌+◌, ◌*◌, ◌≤◌, ◌<◌, ◌≡◌, length, get_or}
use Rattle.std.proofs.Common.{sym, ◌∙◌, add-one, zero-add, arith}
use mathlib.Core.List.{List, ◌++◌, flatten}
use Rattle.rules.specs.Bytes.{count}
use Rattle.rules.specs.Tree.{kinds, tree_verdict}
use Rattle.rules.specs.Scheduling.{phase_at}
use Rattle.rules.specs.Traces.{running_order, entry_bytes}
use Rattle.rules.specs.Calls.{most_trace_records, written}
use Rattle.tree.specs.Laws.Counts.{count_snoc}
use Rattle.tree_scan.specs.Laws.Frames.{Frame, accepted-frame}
use Rattle.buffers.specs.Laws.Records.{flat-one, length-entries, entries_append}
use Rattle.buffers.specs.Laws.Fronts.{part_of, with_part, Front, front_none, front_within, front_room, front_next}
use Rattle.policy.specs.Contract.{most_phases}
use Rattle.replay_spec.specs.Orders.{phase_order, in_phase, Writable}
use Rattle.replay_spec.proofs.Laws.Orders.{length-in_phase, order_labelled}
use Rattle.replay_spec.specs.Lists.{listed, Listable}
use Rattle.replay_spec.proofs.Laws.RunLists.{orders_fit}

pub record Listing (p : ℕ) (tree labels firsts : List ℕ) (phases : ℕ) (before list stack : List ℕ) (k at : ℕ) : Type 0 where
  pub frame : Frame tree
  pub given : Listable p (kinds tree) labels firsts phases (length before)
  pub upto : k ≤ phases
  pub room : length stack ≡ most_trace_records
  pub front : Front before (entry_bytes (listed p (kinds tree) labels firsts k)) list at

-- A turn of the loop: phase k is written next, from its first step.
pub record Turn (p : ℕ) (tree labels firsts : List ℕ) (phases : ℕ) (before list stack : List ℕ) (k at first : ℕ) : Type 0 where
  pub so : Listing p tree labels firsts phases before list stack k at
  pub more : k < phases
  pub begins : first ≡ get_or firsts k 0

module _ (p : ℕ) (ks labels firsts : List ℕ) where
  -- One phase more.
  listed-one : (k : ℕ)
      → listed p ks labels firsts (k + 1) ≡ listed p ks labels firsts k ++ in_phase k (phase_order p ks labels k (get_or firsts k 0))
  unfolding listed flatten
  listed-one k =
      rw (add-one, count_snoc k 0, zero-add) (flat-one (λ j. in_phase j (phase_order p ks labels j (get_or firsts j 0))) (count 0 k) k)

-- ---- the loop

pub listing_start : {p : ℕ} {tree labels firsts : List ℕ} {phases : ℕ} {before stack : List ℕ} → (tree_verdict tree).number ≡ 0
    → Listable p (kinds tree) labels firsts phases (length before) → length stack ≡ most_trace_records
    → Listing p tree labels firsts phases before before stack 0 0
unfolding listed entry_bytes written flatten count
listing_start {p} {tree} {labels} {firsts} {phases} {before} accepts given room =
    record { frame = accepted-frame tree accepts; given = given; upto = omega arith; room = room; front = front_none before }

module _ {p : ℕ} {tree labels firsts : List ℕ} {phases : ℕ} {before list stack : List ℕ} {k at : ℕ}
    (so : Listing p tree labels firsts phases before list stack k at) where
  -- All phases are written.
  pub listing_done : (k < phases → ⊥) → list ≡ written (entry_bytes (listed p (kinds tree) labels firsts phases)) before
  listing_done past =
      let all : k ≡ phases = omega (arith, so.upto) in
      rw all at so.front.same

  -- The next phase's part begins inside the list.
  pub list_fits : k < phases → (at ≤ length list) × (k < most_phases)
  list_fits more = (front_within so.front, omega (arith, so.given.few))

module _ {p : ℕ} {tree labels firsts : List ℕ} {phases : ℕ} {before list stack : List ℕ} {k at first : ℕ}
    (t : Turn p tree labels firsts phases before list stack k at first) where
  begun : k < length t.so.given.phs
  begun = rw t.so.given.many at t.more

  -- The phase's order is the rules', and the records have room.
  order_is : phase_order p (kinds tree) labels k first ≡ running_order p (kinds tree) (phase_at t.so.given.phs k)
  order_is =
      let given = t.so.given in
      let frame = t.so.frame in
      rw (t.begins, given.begins k t.more)
      (order_labelled p (kinds tree) frame.some frame.shape given.phs given.split labels given.shown k begun)

  fits : at + 4 * length (phase_order p (kinds tree) labels k first) ≤ length before
  fits =
      let given = t.so.given in
      let frame = t.so.frame in
      let front = t.so.front in
      let all =
      orders_fit p (kinds tree) frame.some frame.shape given.phs given.split labels given.shown firsts
      (λ j l. given.begins j (rw (← given.many) at l)) k begun in
      rw order_is (omega (arith, all, front.many, length-entries (listed p (kinds tree) labels firsts k), given.fits))

  pub phase_writable : Writable p (kinds tree) labels k first (length (part_of list at))
  phase_writable =
      let given = t.so.given in
      record {
        phs = given.phs;
        split = given.split;
        shown = given.shown;
        begun = begun;
        from = sym (given.begins k t.more) ∙ sym t.begins;
        fits = rw (← order_is) (front_room t.so.front (4 * length (phase_order p (kinds tree) labels k first)) fits);
      }

  module _ {count : ℕ} (counts : count ≡ length (phase_order p (kinds tree) labels k first)) where
    pub count_fits : at + 4 * count ≤ length before
    count_fits = rw counts fits

    pub phase-listed : {part next : List ℕ}
        → part ≡ written (entry_bytes (in_phase k (phase_order p (kinds tree) labels k first))) (part_of list at)
        → length next ≡ most_trace_records
        → Listing p tree labels firsts phases before (with_part list at part) next (k + 1) (at + 4 * count)
    phase-listed {part} put room =
        let order = phase_order p (kinds tree) labels k first in
        let records = in_phase k order in
        let size : 4 * count ≡ length (entry_bytes records) = omega (arith, counts, length-entries records, length-in_phase k order) in
        record {
          frame = t.so.frame;
          given = t.so.given;
          upto = omega (arith, t.more);
          room = room;
          front = rw (listed-one, entries_append, ← t.begins)
              (front_next t.so.front (entry_bytes records) part (4 * count) (omega (arith, count_fits)) (size, put));
        }
