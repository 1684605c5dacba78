-- A turn of the loop over the records, where the record's workers are not refused: its number is read against the victim's
-- latest phase. Either it breaks the rule, or a phase begins and the tables show that.
use Rattle.std.specs.Prelude.{Some, None, Err}
use Rattle.tree.specs.Steps.{MaybeStep}
use Rattle.std.specs.Prelude.{ℕ, ◌+◌, ◌≤◌, ◌<◌, ◌≡◌, refl, Bool, true, false, cond, List, [], drop, get_or, set}
use Rattle.std.proofs.Common.{sym, ap, ◌∙◌, add-one, arith}
use Rattle.std.proofs.Math.Option.{some}
use Rattle.std.proofs.Math.ListN.{length, length-set}
use Rattle.rules.specs.Bytes.{records, walk}
use Rattle.rules.specs.Tree.{most_steps, kinds, weights}
use Rattle.rules.specs.Scheduling.{work_first, most_workers, pushes, Phase, phase_at, begin}
use Rattle.rules.specs.Traces.{latest_phase, number_allowed, stolen_step, judge_trace_record, next_phases, replay_walk, loads}
use Rattle.tree.specs.declared.Step.{Step}
use Rattle.tree.specs.Laws.Records.{length-records}
use Rattle.tree.specs.Laws.Walks.{walk_on}
use Rattle.tree_scan.specs.Laws.Shape.{Shape}
use Rattle.tree_scan.specs.Laws.Frames.{end_at, size_at}
use Rattle.run_invariant.specs.Invariant.{Pushed}
use Rattle.run_invariant.proofs.Laws.Moves.{begin-length}
use Rattle.run_invariant.proofs.Laws.Weights.{pushed_within}
use Rattle.replay_invariant.specs.Invariant.{Taken}
use Rattle.replay_invariant.proofs.Laws.Parts.{part_inside, pushes_part}
use Rattle.replay_invariant.proofs.Laws.Reads.{allowed_taken}
use Rattle.replay_invariant.proofs.Laws.Labels.{root-labelled, begin-labels}
use Rattle.replay_invariant.proofs.Laws.Always.{Read, latest_own, read_next, begin-split}
use Rattle.replay_spec.specs.Naming.{step_named, named}
use Rattle.replay_spec.specs.Reading.{Reading}
use Rattle.policy.specs.Contract.{most_phases}
use Rattle.replay_spec.specs.Begins.{bases_begun, ordinals_begun}
use Rattle.replay_spec.proofs.Laws.Reading.{opener_parts, read-allowed, read-broken}
use Rattle.loads.specs.Terms.{load_moved, weight_between, Movable}
use Rattle.loads.proofs.Laws.Loads.{part_between, begin-loads, begin_movable}
use Rattle.loads.proofs.Laws.Takes.{Takes}
use Rattle.trace.specs.Contract.{number_by}
use Rattle.trace.specs.declared.number.TraceNumber.{TraceNumber}
use Rattle.trace.specs.Terms.{RecordAt}
use Rattle.replay_spec.specs.Workers.{judged_workers}
use Rattle.replay_spec.proofs.Laws.Workers.{fine_workers, latest_some, latest_next, judged-on}
use Rattle.refusals.specs.declared.Refusal.TheVariants.{Number}
use Rattle.replay_walk.specs.Terms.{Retraced}
use Rattle.replay_spec.proofs.Laws.Begins.{firsts-next, bases-within, bases-next}
use Rattle.replay_walk.specs.Laws.Retracing.{split-whole, Retracing, Tables, retrace_stopped}
use Rattle.replay_invariant.specs.Terms.{free, label_of, Climb, labelled, PartOf}

-- What was pushed is not step 0.
pushed_past : (ks : List ℕ) → Shape (length ks) (end_at ks) (size_at ks) → (p s : ℕ) → Pushed p ks s → 0 < s
pushed_past ks sh p s by =
    omega (arith, by.3, part_inside ks sh by.0 (pushes p ks by.0) (pushes_part ks sh p by.0 by.1 by.2))

-- A trace record's number is read as its policy has it, against the phase that is looked up.
pub read_as : (p : ℕ) (ks openers labels bases ordinals after : List ℕ) (r : MaybeStep) (number : ℕ) {at from : ℕ} {told : TraceNumber}
    → at ≡ from → told ≡ number_by p number number
    → Reading openers labels (step_named ks (get_or bases at 0) (get_or ordinals at 0) told) at r after
    → Reading openers labels (named p ks (get_or bases from 0) (get_or ordinals from 0) number) from r after
unfolding named
read_as p ks openers labels bases ordinals after r number here is so = rw (← here, ← is) so

-- A record whose workers are not refused.
pub record Judged (w p : ℕ) (tree trace : List ℕ) (k : ℕ) (labels firsts bases ordinals latest ls : List ℕ) (thief victim number : ℕ)
    : Type 0 where
  pub so : Retracing w p tree trace k labels firsts bases ordinals latest ls
  pub entry : RecordAt trace k thief victim number
  pub fine : judged_workers w latest thief victim ≡ 0

-- Its number has been read against phase k, the victim's latest: r is the answer, `after` are the labels.
pub record NumberRead (p : ℕ) (tree ends openers sums labels bases ordinals : List ℕ) (k number : ℕ) (r : MaybeStep) (after : List ℕ)
    : Type 0 where
  pub tables : Tables tree ends openers sums
  pub reading : Reading openers labels (named p (kinds tree) (get_or bases k 0) (get_or ordinals k 0) number) k r after
  pub kept : length after ≡ length labels

module _ {w p : ℕ} {tree trace : List ℕ} {k : ℕ} {labels firsts bases ordinals latest ls : List ℕ} {thief victim number : ℕ}
    (j : Judged w p tree trace k labels firsts bases ordinals latest ls thief victim number) where
  abbrev ks : List ℕ
  ks = kinds tree

  abbrev sh : Shape (length ks) (end_at ks) (size_at ks)
  sh = j.so.frame.shape

  -- The victim's latest phase.
  abbrev from : ℕ
  from = get_or latest victim 0

  abbrev phase : Phase
  phase = phase_at j.so.phs from

  -- Two workers of the run,
  in_run : (thief < w) × (victim < w) × (thief ≡ victim → ⊥) × (from ≡ free → ⊥)
  in_run = fine_workers w j.so.most latest thief victim j.fine

  -- so the tables have both.
  pub two_workers : (thief < most_workers) × (victim < most_workers) × (thief ≡ victim → ⊥) × (from ≡ free → ⊥)
  two_workers = (omega (arith, j.so.most, in_run), omega (arith, j.so.most, in_run), in_run.2, in_run.3)

  victims : latest_phase victim 0 j.so.phs ≡ some from
  victims = latest_some j.so.phs latest j.so.latests victim two_workers.1 two_workers.3

  own : (from < length j.so.phs) × (phase.worker ≡ victim)
  own = latest_own victim j.so.phs from victims

  -- What reading asks.
  pub read_ready : (k + 1 < most_phases) × (from < k + 1) × (get_or bases from 0 < length ks) × (label_of labels 0 ≡ free → ⊥)
  read_ready = (
    omega (arith, j.so.short, j.entry.more),
    omega (arith, j.so.many, own.0),
    j.so.within from own.0,
    root-labelled p ks j.so.frame.some sh j.so.phs j.so.split labels j.so.shown,
  )

  judged : judge_trace_record w p ks j.so.phs (get_or (records 4 trace) k []) ≡ cond (number_allowed p ks phase number) 0 15
  judged =
      let on = judged-on j.so.phs latest j.so.latests w p j.so.most ks (get_or (records 4 trace) k []) in
      (rw (j.entry.first, j.entry.second, j.entry.rest) at on) j.fine

  -- The number has been read.
  module _ {ends openers sums : List ℕ} {r : MaybeStep} {after : List ℕ}
      (t : NumberRead p tree ends openers sums labels bases ordinals from number r after) where
    if-allowed : number_allowed p ks phase number ≡ true
        → (r ≡ Some (record { 0 = stolen_step p ks phase number }))
        × ((path : List ℕ) × (top : ℕ) × Climb openers labels (stolen_step p ks phase number) path top
        × (after ≡ labelled labels path from))
    if-allowed =
        read-allowed p j.so.either ks j.so.frame.some sh j.so.phs j.so.split labels j.so.shown openers
        t.tables.opened from (get_or bases from 0) (get_or ordinals from 0) number own.0 (λ first. j.so.based first from own.0)
        r after t.reading

    if-broken : number_allowed p ks phase number ≡ false → r ≡ None
    if-broken =
        read-broken p j.so.either ks j.so.frame.some sh j.so.phs j.so.split labels j.so.shown openers
        t.tables.opened from (get_or bases from 0) (get_or ordinals from 0) number own.0 (λ first. j.so.based first from own.0)
        r after t.reading

    -- It breaks the rule.
    pub retrace-broken : r ≡ None → Retraced w p tree trace (Err (record { refusal = Number; position = k })) after firsts
    retrace-broken lost = by (number_allowed p ks phase number) refl
      where
        by : (b : Bool) → number_allowed p ks phase number ≡ b
            → Retraced w p tree trace (Err (record { refusal = Number; position = k })) after firsts
        by true a = let z : ◌≡◌ {A = ℕ} 0 1 = cc (if-allowed a).0 in absurd (omega arith)
        by false a = retrace_stopped j.so j.entry Number (judged ∙ rw a refl) after (t.kept ∙ j.so.label_room)

    -- It names step s, which can be stolen: a phase begins with it.
    module _ {s : ℕ} (gives : r ≡ Some (record { 0 = s })) where
      allowed : number_allowed p ks phase number ≡ true
      allowed = by (number_allowed p ks phase number) refl
        where
          by : (b : Bool) → number_allowed p ks phase number ≡ b → number_allowed p ks phase number ≡ true
          by true a = a
          by false a = let z : ◌≡◌ {A = ℕ} 0 1 = cc (if-broken a) in absurd (omega arith)

      step_is : s ≡ stolen_step p ks phase number
      step_is =
          let same = (if-allowed allowed).0 in
          let both : ◌≡◌ {A = Step} (record { 0 = s }) (record { 0 = stolen_step p ks phase number }) = cc in
          ap (λ (x : Step). x.0) both

      climbed : (path : List ℕ) × (top : ℕ) × Climb openers labels s path top × (after ≡ labelled labels path from)
      climbed = rw step_is (if-allowed allowed).1

      taken : Taken p ks phase s
      taken = rw step_is (allowed_taken ks sh p j.so.either phase (j.so.split.cuts from own.0) number allowed)

      within : s < length ks
      within = pushed_within ks sh p s taken.pushed

      opener : PartOf ks (get_or openers s 0) s
      opener = opener_parts ks openers t.tables.opened s (pushed_past ks sh p s taken.pushed) within

      -- What the tables ask,
      pub begin-ready : (s < length ks) × (get_or openers s 0 < s) × (length ks ≤ most_steps)
      begin-ready = (within, (part_inside ks sh (get_or openers s 0) s opener).0, j.so.frame.most)

      takes : Takes ks j.so.phs thief from victim s
      takes =
          record {
            begun = own.0;
            own = own.1;
            other = two_workers.2;
            thief = two_workers.0;
            victim = two_workers.1;
            within = within;
            apart = taken.apart;
          }

      -- and the loads.
      pub part-movable : Movable ends sums ls thief victim s
      part-movable =
          rw j.so.loaded
          (begin_movable ks (weights tree) sh takes ends sums t.tables.long t.tables.right t.tables.longer t.tables.added
          (split-whole p ks j.so.frame.some sh j.so.phs j.so.split (weights tree)) t.tables.light)

      next-phases : next_phases p ks j.so.phs (get_or (records 4 trace) k []) ≡ begin j.so.phs thief from s
      next-phases =
          let reads : Read w p ks j.so.phs (get_or (records 4 trace) k []) =
          record {
            thief = rw j.entry.first in_run.0;
            victim = rw j.entry.second in_run.1;
            other = rw (j.entry.first, j.entry.second) in_run.2;
            from = from;
            latest = rw j.entry.second victims;
            allowed = rw j.entry.rest allowed;
          }
          in
          read_next w p ks j.so.phs (get_or (records 4 trace) k []) reads ∙ rw (j.entry.first, j.entry.rest, step_is) refl

      next-walked : replay_walk w p ks (records 4 trace)
          ≡ walk (judge_trace_record w p ks) (next_phases p ks) (k + 1) (begin j.so.phs thief from s)
          (drop (k + 1) (records 4 trace))
      next-walked =
          j.so.walked
          ∙ walk_on (judge_trace_record w p ks) (next_phases p ks) (records 4 trace) [] k j.so.phs
          (rw (length-records 4 trace) j.entry.more) (judged ∙ rw allowed refl)
          ∙ rw (next-phases, add-one k) refl

      next-loads : load_moved ls thief victim (weight_between ends sums s)
          ≡ loads most_workers ks (weights tree) (begin j.so.phs thief from s)
      next-loads =
          rw (part_between ks (weights tree) sh ends sums t.tables.right t.tables.added s within, j.so.loaded)
          (sym (begin-loads ks (weights tree) sh takes))

      -- The tables then, where the phase robbed is `at` and the step's ordinal, which work-first is the number, is `o`.
      module _ {at o : ℕ} (robs : at ≡ from) (counted : p ≡ work_first → o ≡ number)
          (labels' firsts' bases' ordinals' latest' ls' : List ℕ)
          (label : labels' ≡ set after s (k + 1)) (first : firsts' ≡ set firsts (k + 1) s)
          (base : bases' ≡ bases_begun openers bases at (k + 1) s) (ordinal : ordinals' ≡ ordinals_begun ordinals at (k + 1) o)
          (last : latest' ≡ set latest thief (k + 1)) (load : ls' ≡ load_moved ls thief victim (weight_between ends sums s)) where
        pub retrace-begun : Retracing w p tree trace (k + 1) labels' firsts' bases' ordinals' latest' ls'
        unfolding bases_begun ordinals_begun
        retrace-begun =
            let room = read_ready.0 in
            let base_fits : k + 1 < length bases = omega (arith, j.so.base_room) in
            let begun = own.0 in
            record {
              either = j.so.either;
              most = j.so.most;
              frame = j.so.frame;
              short = j.so.short;
              reached = omega (arith, j.entry.more);
              phs = begin j.so.phs thief from s;
              walked = next-walked;
              split = begin-split p j.so.either ks j.so.frame.some sh j.so.phs j.so.split thief from s begun taken;
              shown = rw (label, j.so.many, climbed.3)
                  (begin-labels p ks j.so.frame.some sh j.so.phs j.so.split labels j.so.shown openers
                  (opener_parts ks openers t.tables.opened) thief from s begun (omega (arith, j.so.many)) taken climbed.0
                  climbed.1 climbed.2);
              many = omega (arith, j.so.many, begin-length j.so.phs thief from s);
              label_room = rw label (length-set after s (k + 1) ∙ t.kept ∙ j.so.label_room);
              first_room = rw first (length-set firsts (k + 1) s ∙ j.so.first_room);
              base_room = rw base (simp length-set j.so.base_room);
              ordinal_room = rw ordinal (simp length-set j.so.ordinal_room);
              latest_room = rw last (length-set latest thief (k + 1) ∙ j.so.latest_room);
              begins = rw first
                  (firsts-next j.so.phs thief from s (k + 1) begun j.so.many firsts
                  (omega (arith, j.so.first_room)) j.so.begins);
              within = rw (base, robs)
                  (bases-within j.so.phs thief from s (k + 1) begun j.so.many ks sh openers opener bases base_fits j.so.within);
              based = rw (base, ordinal, robs)
                  (bases-next j.so.phs thief from s (k + 1) begun j.so.many ks sh openers opener bases base_fits ordinals
                  (omega (arith, j.so.ordinal_room)) p number o counted j.so.based allowed step_is taken);
              latests = rw (last, j.so.many)
                  (latest_next j.so.phs latest j.so.latests thief from s (omega (arith, j.so.latest_room, two_workers.0)) begun);
              loaded = load ∙ next-loads;
            }
