-- Rounds on the maker's arrays: a round turn by turn, and rounds until every step has run. Each round runs a step, so what is left of the
-- steps falls; and when nothing is left, the list in the making is the list made.
use Rattle.std.specs.Prelude.{ℕ, zero, suc, ◌+◌, ◌*◌, ◌≤◌, ◌<◌, ◌≡◌, refl, false, length, replicate}
use Rattle.std.proofs.Common.{sym, ◌∙◌, add-one, arith}
use mathlib.Core.List.{List, flatten}
use Rattle.rules.specs.Bytes.{count}
use Rattle.rules.specs.Tree.{kinds}
use Rattle.rules.specs.Scheduling.{most_workers, start}
use Rattle.rules.specs.Calls.{start_verdict, written, finished}
use Rattle.rules_schedule.specs.Schedules.{Making, begun, round, made, most_made}
use Rattle.tree_scan.specs.Laws.Starts.{start_workers}
use Rattle.tree_tables.proofs.Laws.Fronts.{start-frame}
use Rattle.policy.specs.declared.Setup.{Setup}
use Rattle.run_spec.specs.Running.{no_step}
use Rattle.run_spec.specs.Moves.{Fields, fresh}
use Rattle.run_invariant.proofs.Laws.Counts.{not_so}
use Rattle.run_invariant.proofs.Laws.Consequences.{runs_most, finished_runs, runs_finished}
use Rattle.run_refinement.proofs.Laws.Events.{start-shows}
use Rattle.schedule_invariant.proofs.Laws.Turns.{going_start}
use Rattle.schedule_invariant.proofs.Laws.Rounds.{round-last, round_runs, rounds-next, rounds-done}
use Rattle.schedule_turn.specs.Terms.{Arrays, Stands, Standing, Turns}
use Rattle.schedule_turn.proofs.Laws.Sizes.{sized_start}
use Rattle.schedule_turn.proofs.Laws.Awaits.{awaited-start}
use Rattle.schedule_turn.proofs.Laws.Listing.{frame, listed-count}
use Rattle.schedule.specs.Terms.{FirstTurns, Underway, ListWritten}

-- ---- a round, turn by turn

module _ {setup : Setup} {tree : List ℕ} {a : Arrays} where
  pub round-begins : FirstTurns setup tree 0 a a
  unfolding round count
  round-begins = record { shown = λ lent m stands. stands }

  -- After some turns the arrays show some list in the making.
  pub round_standing : {k : ℕ} {b : Arrays} → Standing setup tree a → FirstTurns setup tree k a b → Standing setup tree b
  round_standing standing so =
      record { lent = standing.lent; making = _; stands = so.shown standing.lent standing.making standing.stands }

  pub round_goes_on : {k : ℕ} {b c : Arrays} → FirstTurns setup tree k a b → Turns setup tree k b c → FirstTurns setup tree (k + 1) a c
  round_goes_on {k} so turns =
      record {
        shown = λ lent m stands.
            rw (add-one, round-last setup.policy (kinds tree) k m) (turns.shown lent _ (so.shown lent m stands));
      }

-- ---- rounds, until every step has run

-- The arrays of a start show a list of no events, and there are as many rounds left as there are steps.
pub making_begins : (setup : Setup) (tree lent : List ℕ) (seed : ℕ) → (start_verdict setup.workers setup.policy tree).number ≡ 0
    → 2 * most_made (length (kinds tree)) ≤ length lent → (f : Fields) → f ≡ fresh setup
    → Underway setup tree lent seed
    (record {
      fields = f;
      sizes = replicate most_workers 0;
      awaited = replicate most_workers no_step;
      events = lent;
      seed = seed;
      runs = 0;
    })
unfolding made begun written flatten start
making_begins setup tree lent seed accepts room f is =
    let w = setup.workers in
    let p = setup.policy in
    let ks = kinds tree in
    let frame = start-frame w p tree accepts in
    let workers = start_workers w p tree accepts in
    record {
      making = begun w seed;
      stands = record {
        accepts = accepts;
        room = room;
        going = going_start w p ks frame.some frame.shape seed workers.0;
        shows = rw is (start-shows setup ks frame.some frame.most workers.0 workers.1);
        sized = sized_start w workers.0;
        awaits = awaited-start ks w;
        seeded = refl;
        ran = refl;
        listed = refl;
      };
      left = length ks;
      leads = refl;
      enough = omega arith;
    }

module _ {setup : Setup} {tree lent : List ℕ} {seed : ℕ} {a : Arrays} (on : Underway setup tree lent seed a) where
  abbrev w : ℕ
  w = setup.workers

  abbrev p : ℕ
  p = setup.policy

  abbrev ks : List ℕ
  ks = kinds tree

  abbrev m : Making
  m = on.making

  pub making_standing : Standing setup tree a
  making_standing = record { lent = lent; making = m; stands = on.stands }

  -- Some step has not run: a round runs one.
  module _ (more : a.runs < length ks) {b : Arrays} (rounded : FirstTurns setup tree w a b) where
    abbrev next : Making
    next = round p ks (count 0 w) m

    next-stands : Stands setup tree lent next b
    next-stands = rounded.shown lent m on.stands

    unfinished : finished ks m.run ≡ false
    unfinished =
        let s = on.stands in
        not_so (finished ks m.run)
        (λ done. omega (arith, s.ran, finished_runs p ks (frame s).some (frame s).shape m.run s.going.invariant done))

    runs-one : suc (length m.run.log) ≤ length next.run.log
    runs-one =
        let s = on.stands in
        round_runs w p ks (frame s).some (frame s).shape m s.going unfinished

    pub making-falls : a.runs < b.runs
    making-falls = omega (arith, runs-one, on.stands.ran, next-stands.ran)

    pub making-goes-on : Underway setup tree lent seed b
    making-goes-on = by on.left refl
      where
        by : (left : ℕ) → on.left ≡ left → Underway setup tree lent seed b
        by zero e = absurd (omega (arith, on.enough, on.stands.ran))
        by (suc left) e =
            record {
              making = next;
              stands = next-stands;
              left = left;
              leads = sym (rounds-next w p ks left m unfinished) ∙ (rw e at on.leads);
              enough = omega (arith, on.enough, runs-one);
            }

  -- None is left: the list in the making is the list made.
  pub making_ends : length ks ≤ a.runs → ListWritten (made w p ks seed) lent (a.runs + a.fields.steals) a.events
  making_ends all-run =
      let s = on.stands in
      let inv = s.going.invariant in
      let most = runs_most p ks (frame s).some (frame s).shape m.run inv in
      let done = runs_finished p ks (frame s).some (frame s).shape m.run inv (omega (arith, s.ran)) in
      let same : made w p ks seed ≡ m = sym on.leads ∙ rounds-done w p ks on.left m done in
      rw same (record { counted = listed-count s; listed = s.listed })
