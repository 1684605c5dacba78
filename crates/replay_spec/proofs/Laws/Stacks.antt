-- What the loop of `replay_list::phase::write_phase` holds: the phase has run alone so far, the stack has what is pending
-- behind the step that is run next, and the records so far stand at the front of the phase's part of the list. This is so at
-- the start and after each kind of turn, and at the end it is the phase's whole order.
use Rattle.std.specs.Prelude.{ℕ, ◌+◌, ◌-◌, ◌*◌, ◌/◌, ◌%◌, ◌≤◌, ◌<◌, ◌≡◌, refl, true, false, not, length, get_or, set}
use Rattle.std.proofs.Common.{sym, subst, ap, ◌∙◌, arith, length-append, length-set, get_or-set_same, get_or-set_other}
use mathlib.Core.List.{List, [], ◌∷◌, ◌++◌, map-append, flatten}
use borrow.Author.Tests.{eq-eqb, ne_eqb}
use Rattle.rules.specs.Bytes.{two_bytes}
use Rattle.rules.specs.Tree.{most_steps, kinds, kind_at, is_end, tree_verdict}
use Rattle.rules.specs.Scheduling.{holds, pushes, phase_at}
use Rattle.rules.specs.Traces.{covers, entry_bytes}
use Rattle.rules.specs.Calls.{most_trace_records, written}
use Rattle.tree_scan.specs.Laws.Frames.{Frame, accepted-frame}
use Rattle.run_invariant.proofs.Laws.Counts.{has_head}
use Rattle.run_invariant.proofs.Laws.Weights.{pushed_within}
use Rattle.replay_invariant.specs.Invariant.{Cut}
use Rattle.replay_invariant.proofs.Laws.Order.{Alone, alone-start, alone_end, alone_drops, alone_keeps, alone-done, alone_within}
use Rattle.buffers.specs.Terms.{record_put}
use Rattle.buffers.specs.Laws.Records.{length-entries, entries-one, put-sets, put-length}
use Rattle.buffers.specs.Laws.Fronts.{length-written, sets-written}
use Rattle.replay_spec.specs.Labels.{dropped}
use Rattle.replay_spec.specs.Orders.{phase_order, in_phase, Writable}
use Rattle.replay_spec.proofs.Laws.Orders.{length-in_phase, stays_covered, order_labelled}

-- The stack has the steps of a deque at its front, the newest last.
abbrev pub Stacked : List ℕ → List ℕ → Type 0
Stacked stack [] = Unit {0}
Stacked stack (x ∷ deque) = (get_or stack (length deque) 0 ≡ x) × Stacked stack deque

pub record Writing (p : ℕ) (tree labels : List ℕ) (k first : ℕ) (before stack list : List ℕ) (i depth count : ℕ) : Type 0 where
  pub frame : Frame tree
  pub from : Writable p (kinds tree) labels k first (length before)
  pub log : List ℕ
  pub deque : List ℕ
  pub alone : Alone p (kinds tree) (phase_at from.phs k) log (i ∷ deque)
  pub counted : count ≡ length log
  pub deep : depth ≡ length deque
  pub room : length stack ≡ most_trace_records
  pub stacked : Stacked stack deque
  pub filled : list ≡ written (entry_bytes (in_phase k log)) before

-- ---- the stack

-- What is stored above the steps leaves them.
stacked_above : (deque stack : List ℕ) (j x : ℕ) → length deque ≤ j → Stacked stack deque → Stacked (set stack j x) deque
stacked_above [] stack j x h s = tt
stacked_above (y ∷ deque) stack j x h s =
    (get_or-set_other stack j (length deque) x 0 (omega arith) ∙ s.0, stacked_above deque stack j x (omega arith) s.1)

stacked_push : (deque stack : List ℕ) (x : ℕ) → length deque < length stack → Stacked stack deque
    → Stacked (set stack (length deque) x) (x ∷ deque)
stacked_push deque stack x h s =
    (get_or-set_same stack (length deque) x 0 h, stacked_above deque stack (length deque) x (omega arith) s)

-- ---- the records

module _ (bytes before : List ℕ) where
  -- A record goes behind some bytes.
  put_written : (k a b n : ℕ) → length bytes ≡ 4 * k → 4 * k + 4 ≤ length before
      → record_put (written bytes before) k a b n ≡ written (bytes ++ (a ∷ b ∷ two_bytes n)) before
  unfolding two_bytes
  put_written k a b n e room =
      put-sets (written bytes before) k a b n ∙ rw (← e) (sets-written bytes (a ∷ b ∷ two_bytes n) before (omega arith))

steps_one : (k : ℕ) (log : List ℕ) (i : ℕ) → in_phase k (log ++ (i ∷ [])) ≡ in_phase k log ++ (record { phase = k; step = i } ∷ [])
unfolding in_phase
steps_one k log i = map-append _ log (i ∷ [])

-- ---- the loop

pub writing_start : {p : ℕ} {tree labels : List ℕ} {k first : ℕ} {before stack : List ℕ} → (tree_verdict tree).number ≡ 0
    → Writable p (kinds tree) labels k first (length before) → length stack ≡ most_trace_records
    → Writing p tree labels k first before stack before first 0 0
unfolding entry_bytes in_phase written flatten
writing_start {p} {tree} {labels} {k} accepts w room =
    let frame = accepted-frame tree accepts in
    record {
      frame = frame;
      from = w;
      log = [];
      deque = [];
      alone = rw (← w.from) (alone-start p (kinds tree) frame.shape (phase_at w.phs k) (w.split.cuts k w.begun));
      counted = refl;
      deep = refl;
      room = room;
      stacked = tt;
      filled = refl;
    }

module _ {p : ℕ} {tree labels : List ℕ} {k first : ℕ} {before stack list : List ℕ} {i depth count : ℕ}
    (so : Writing p tree labels k first before stack list i depth count) where
  cut : Cut p (kinds tree) (phase_at so.from.phs k)
  cut = so.from.split.cuts k so.from.begun

  size : length (entry_bytes (in_phase k so.log)) ≡ 4 * count
  size = rw (length-entries, length-in_phase, so.counted) refl

  -- The step is one of the tree, its record has room, and the stack is not overfull.
  pub record_fits : (i < length (kinds tree)) × (4 * count + 4 ≤ length before)
      × (length list ≡ length before) × (depth ≤ most_trace_records)
  record_fits =
      let within = alone_within p (kinds tree) so.frame.shape _ cut so.log i so.deque so.alone in
      let room : 4 * count + 4 ≤ length before = omega (arith, within.1, so.from.fits, so.counted) in (
        within.0,
        room,
        rw so.filled (length-written (entry_bytes (in_phase k so.log)) before (omega (arith, size))),
        omega (arith, within.2, so.deep, so.frame.most),
      )

-- ---- a turn

-- The record of step i has been put.
pub record Turn (p : ℕ) (tree labels : List ℕ) (k first : ℕ) (before stack list : List ℕ) (i depth count : ℕ) (next : List ℕ)
    : Type 0 where
  pub so : Writing p tree labels k first before stack list i depth count
  pub put : next ≡ record_put list count (k % 256) (k / 256 % 256) i

-- The step opens a task: `held` is held after it, and `pushed` is what it pushes.
pub record Opening (p : ℕ) (tree labels : List ℕ) (k first : ℕ) (before stack list : List ℕ) (i depth count : ℕ) (next : List ℕ)
    (held pushed : ℕ) : Type 0 where
  pub turn : Turn p tree labels k first before stack list i depth count next
  pub opens : kind_at (kinds tree) i ≡ 3 → ⊥
  pub holding : held ≡ holds p (kinds tree) i
  pub pushing : pushed ≡ pushes p (kinds tree) i

module _ {p : ℕ} {tree labels : List ℕ} {k first : ℕ} {before stack list : List ℕ} {i depth count : ℕ} {next : List ℕ}
    (t : Turn p tree labels k first before stack list i depth count next) where
  filled : next ≡ written (entry_bytes (in_phase k (t.so.log ++ (i ∷ [])))) before
  filled =
      let bytes = entry_bytes (in_phase k t.so.log) in
      rw (t.put, t.so.filled, steps_one, entries-one)
      (put_written bytes before count (k % 256) (k / 256 % 256) i (size t.so) (record_fits t.so).1)

  counted : count + 1 ≡ length (t.so.log ++ (i ∷ []))
  counted = omega (arith, length-append t.so.log (i ∷ []), t.so.counted)

  -- The list has kept its length.
  pub list_kept : length next ≡ length before
  list_kept = ap length t.put ∙ put-length list count (k % 256) (k / 256 % 256) i ∙ (record_fits t.so).2

  -- What is common to the turns that go on.
  goes_on : (stack : List ℕ) (x : ℕ) (deque : List ℕ)
      → Alone p (kinds tree) (phase_at t.so.from.phs k) (t.so.log ++ (i ∷ [])) (x ∷ deque)
      → length stack ≡ most_trace_records → Stacked stack deque → (depth : ℕ) → depth ≡ length deque
      → Writing p tree labels k first before stack next x depth (count + 1)
  goes_on stack x deque alone room stacked depth deep =
      record {
        frame = t.so.frame;
        from = t.so.from;
        log = t.so.log ++ (i ∷ []);
        deque = deque;
        alone = alone;
        counted = counted;
        deep = deep;
        room = room;
        stacked = stacked;
        filled = filled;
      }

  -- The step is an end.
  module _ (end : kind_at (kinds tree) i ≡ 3) where
    ended : Alone p (kinds tree) (phase_at t.so.from.phs k) (t.so.log ++ (i ∷ [])) t.so.deque
    unfolding is_end
    ended =
        alone_end p (kinds tree) t.so.frame.shape _ (cut t.so) t.so.log i t.so.deque t.so.alone
        (eq-eqb (kind_at (kinds tree) i) 3 end)

    whole : (d : List ℕ) → length d ≡ 0 → Alone p (kinds tree) (phase_at t.so.from.phs k) (t.so.log ++ (i ∷ [])) d
        → t.so.log ++ (i ∷ []) ≡ phase_order p (kinds tree) labels k first
    whole [] e a =
        let from = t.so.from in
        let frame = t.so.frame in
        let order =
        order_labelled p (kinds tree) frame.some frame.shape from.phs from.split labels from.shown k from.begun in
        rw (← from.from) (alone-done p (kinds tree) frame.shape _ (cut t.so) _ a ∙ sym order)
    whole (x ∷ d) e a = absurd (omega arith)

    -- Nothing is pending: that was all.
    pub phase-done : depth ≡ 0 → (count + 1 ≡ length (phase_order p (kinds tree) labels k first))
        × (next ≡ written (entry_bytes (in_phase k (phase_order p (kinds tree) labels k first))) before)
    phase-done e =
        let all = whole t.so.deque (sym t.so.deep ∙ e) ended in
        rw (← all) (counted, filled)

    popped : (d : List ℕ) → Alone p (kinds tree) (phase_at t.so.from.phs k) (t.so.log ++ (i ∷ [])) d
        → Stacked stack d → depth ≡ length d → (depth ≡ 0 → ⊥)
        → Writing p tree labels k first before stack next (get_or stack (depth - 1) 0) (depth - 1) (count + 1)
    popped [] a s e n = absurd (n e)
    popped (x ∷ d) a s e n =
        let less : depth - 1 ≡ length d = omega arith in
        rw (less, s.0) (goes_on stack x d a t.so.room s.1 (length d) refl)

    -- The newest step of the stack is run next.
    pub step-popped : (depth ≡ 0 → ⊥)
        → Writing p tree labels k first before stack next (get_or stack (depth - 1) 0) (depth - 1) (count + 1)
    step-popped n = popped t.so.deque ended t.so.stacked t.so.deep n

module _ {p : ℕ} {tree labels : List ℕ} {k first : ℕ} {before stack list : List ℕ} {i depth count : ℕ} {next : List ℕ} {held pushed : ℕ}
    (o : Opening p tree labels k first before stack list i depth count next held pushed) where
  opens : is_end (kind_at (kinds tree) i) ≡ false
  unfolding is_end
  opens = ne_eqb (kind_at (kinds tree) i) 3 o.opens

  -- What it pushes is a step of the tree.
  pub pushed_inside : (pushed < length (kinds tree)) × (pushed < most_steps)
  pushed_inside =
      let so = o.turn.so in
      let within = pushed_within (kinds tree) so.frame.shape p pushed (i, (record_fits so).0, opens, o.pushing) in
      omega (arith, within, so.frame.most)

  stays : covers (kinds tree) (phase_at o.turn.so.from.phs k) (pushes p (kinds tree) i) ≡ not (dropped labels pushed k)
  stays =
      let so = o.turn.so in
      let from = so.from in
      rw o.pushing (stays_covered p (kinds tree) so.frame.some so.frame.shape from.phs from.split labels from.shown
      k i from.begun (so.alone.covered i (has_head i so.deque)) opens)

  -- What it pushes was stolen.
  pub step-dropped : not (dropped labels pushed k) ≡ false
      → Writing p tree labels k first before stack next held depth (count + 1)
  step-dropped gone =
      let so = o.turn.so in
      let alone = alone_drops p (kinds tree) so.frame.shape _ (cut so) so.log i so.deque so.alone opens (stays ∙ gone) in
      rw o.holding (goes_on o.turn stack (holds p (kinds tree) i) so.deque alone so.room so.stacked depth so.deep)

  -- What it pushes stays with it.
  module _ (kept : not (dropped labels pushed k) ≡ true) where
    pending : Alone p (kinds tree) (phase_at o.turn.so.from.phs k) (o.turn.so.log ++ (i ∷ []))
        (holds p (kinds tree) i ∷ pushed ∷ o.turn.so.deque)
    pending =
        let so = o.turn.so in
        rw o.pushing (alone_keeps p (kinds tree) so.frame.shape _ (cut so) so.log i so.deque so.alone opens (stays ∙ kept))

    pub push-fits : depth < most_trace_records
    push-fits =
        let so = o.turn.so in
        let within = alone_within p (kinds tree) so.frame.shape _ (cut so) _ (holds p (kinds tree) i) (pushed ∷ so.deque) pending in
        omega (arith, within.2, so.deep, so.frame.most)

    pub step_pushed : Writing p tree labels k first before (set stack depth pushed) next held (depth + 1) (count + 1)
    step_pushed =
        let so = o.turn.so in
        let room : length so.deque < length stack = omega (arith, push-fits, so.room, so.deep) in
        rw o.holding (goes_on o.turn (set stack depth pushed) (holds p (kinds tree) i) (pushed ∷ so.deque) pending
        (length-set stack depth pushed ∙ so.room)
        (subst (λ (x : ℕ). Stacked (set stack x pushed) (pushed ∷ so.deque)) (sym so.deep)
        (stacked_push so.deque stack pushed room so.stacked))
        (depth + 1) (omega (arith, so.deep)))
