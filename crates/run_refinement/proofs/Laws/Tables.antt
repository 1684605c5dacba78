-- All workers of a state beside those of a run: the state's tables, worker by worker. A move changes them at one worker.
use Prim.Native.Nat.{ℕ, zero, suc, ◌≤◌, ◌<◌}
use Rattle.std.specs.Prelude.{◌≡◌, not, List, [], get_or, set, replicate, eqb}
use Rattle.std.proofs.Math.Path.{refl, sym, ap}
use Rattle.std.proofs.Math.Decide.{ℕ_discrete}
use native.Mathlib.Omega.{arith}
use Rattle.std.proofs.Math.ListN.{length, get_or-replicate}
use Rattle.std.proofs.Common.{length-set, get_or-set_same, get_or-set_other, ne_eqb}
use Rattle.std.proofs.lemmas.List.{length-replicate}
use Rattle.rules.specs.Bytes.{any}
use Rattle.rules.specs.Scheduling.{most_workers, Worker, Run, idle_worker, worker_at, start, has_run}
use Rattle.tree_scan.specs.Laws.Shape.{Shape}
use Rattle.tree_scan.specs.Laws.Frames.{end_at, size_at}
use Rattle.tree_scan.specs.Laws.Places.{root-first}
use Rattle.run_invariant.proofs.Laws.Moves.{get_or_alike}
use Rattle.run_spec.specs.Deques.{marked}
use Rattle.run_spec.specs.Moves.{Fields}
use Rattle.run_refinement.specs.Tie.{HandShown, AllReady, Shows}
use Rattle.run_refinement.proofs.Laws.Hands.{other_shown}

-- Of a run of c workers. The state's tables have a place for sixteen.
pub record Table (p c : ℕ) (ks place helds lows bases phases : List ℕ) (workers : List Worker) : Type 0 where
  pub places : length place ≡ 4095
  pub sized :
      (length helds ≡ most_workers) × (length lows ≡ most_workers) × (length bases ≡ most_workers) × (length phases ≡ most_workers)
      × (length workers ≡ c)
  pub few : c ≤ most_workers
  pub hands : (u : ℕ) → u < most_workers
      → HandShown p ks place u (get_or helds u 0) (get_or lows u 0) (get_or bases u 0) (get_or phases u 0) (get_or workers u idle_worker)

-- What a state shows of a run is the tables and four facts more.
module _ (p : ℕ) (ks : List ℕ) (s : Fields) (r : Run) where
  abbrev pub Tables : Type 0
  Tables = Table p s.setup.workers ks s.place s.held s.low s.base s.phase r.workers

  pub tables_of_lem : Shows p ks s r → Tables
  unfolding worker_at
  tables_of_lem shows =
      record {
        places = shows.places;
        sized = (shows.helds, shows.lows, shows.bases, shows.phases, shows.workers);
        few = shows.most;
        hands = shows.hands;
      }

  pub shows-by : Tables → s.setup.policy ≡ p → ((j : ℕ) → j < length ks → eqb (get_or s.place j 0) 17 ≡ not (has_run r.log j))
      → s.steals ≡ length r.steals → AllReady p ks s.low r → Shows p ks s r
  unfolding worker_at
  shows-by table policy unrun steals ready =
      record {
        policy = policy;
        places = table.places;
        helds = table.sized.0;
        lows = table.sized.1;
        bases = table.sized.2;
        phases = table.sized.3;
        workers = table.sized.4;
        most = table.few;
        hands = table.hands;
        unrun = unrun;
        steals = steals;
        ready = ready;
      }

-- ---- the start

-- Of a run with n workers and one more.
module _ (n p : ℕ) (ks place : List ℕ) (places : length place ≡ 4095) (some-step : 1 ≤ length ks)
    (unrun : (j : ℕ) → j < length ks → get_or place j 0 ≡ 17) where
  unmarked : (u : ℕ) → u < 16 → (j : ℕ) → j < length ks → marked place u j ≡ any (eqb j) []
  unfolding marked any
  unmarked u few j h = rw (unrun j h) (ne_eqb 17 u (omega arith))

  start_hands : (u : ℕ) → u < 16
      → HandShown p ks place u (get_or (set (replicate 16 65535) 0 0) u 0) (get_or (replicate 16 0) u 0) (get_or (replicate 16 0) u 0)
      (get_or (replicate 16 0) u 0) (get_or (start (suc n)).workers u idle_worker)
  unfolding start idle_worker
  start_hands zero few =
      record {
        pushers = [];
        deque = refl;
        marks = unmarked 0 few;
        holding = (refl, (omega arith, some-step));
        numbered = λ first. (some-step, sym (root-first ks).1, (0, refl));
        latest = refl;
      }
  start_hands (suc u) few =
      let less : u < 15 = omega arith in
      rw (get_or-replicate {A = ℕ} 15 u 65535 0, get_or-replicate {A = ℕ} 15 u 0 0, get_or_alike n u idle_worker)
      (record {
        pushers = [];
        deque = refl;
        marks = unmarked (suc u) few;
        holding = (refl, refl);
        numbered = λ first. omega arith;
        latest = refl;
      })

  pub start-table : suc n ≤ most_workers
      → Table p (suc n) ks place (set (replicate 16 65535) 0 0) (replicate 16 0) (replicate 16 0) (replicate 16 0) (start (suc n)).workers
  unfolding start
  start-table few =
      let many : length (start (suc n)).workers ≡ suc n = ap suc (length-replicate n idle_worker) in
      record { places = places; sized = (refl, refl, refl, refl, many); few = few; hands = start_hands }

-- ---- a move

-- The marks of every worker but w are the same after as before.
abbrev pub Spared : List ℕ → List ℕ → List ℕ → ℕ → Type 0
Spared ks before after w = (u : ℕ) → u < 16 → (u ≡ w → ⊥) → (j : ℕ) → j < length ks → marked after u j ≡ marked before u j

module _ (p c : ℕ) (ks : List ℕ) (sh : Shape (length ks) (end_at ks) (size_at ks)) (most : length ks ≤ 4095)
    (place helds lows bases phases : List ℕ) (workers : List Worker)
    (before : Table p c ks place helds lows bases phases workers) where
  pub table-set : (after : List ℕ) (w h l b k : ℕ) (worker : Worker) → length after ≡ 4095 → w < c
      → HandShown p ks after w h l b k worker → Spared ks place after w
      → Table p c ks after (set helds w h) (set lows w l) (set bases w b) (set phases w k) (set workers w worker)
  table-set after w h l b k worker places here shown spared =
      record {
        places = places;
        sized = simp length-set before.sized;
        few = before.few;
        hands = λ u small. elim (ℕ_discrete u w) [
          | yes e ↦ rw (
            e,
            get_or-set_same helds w h 0 (omega (arith, before.few)),
            get_or-set_same lows w l 0 (omega (arith, before.few)),
            get_or-set_same bases w b 0 (omega (arith, before.few)),
            get_or-set_same phases w k 0 (omega (arith, before.few)),
            get_or-set_same workers w worker idle_worker (omega (arith, before.few)),
          ) shown
          | no n ↦ rw (
            get_or-set_other helds w u h 0 n,
            get_or-set_other lows w u l 0 n,
            get_or-set_other bases w u b 0 n,
            get_or-set_other phases w u k 0 n,
            get_or-set_other workers w u worker idle_worker n,
          ) (other_shown p ks sh most place before.places after u (get_or helds u 0) (get_or lows u 0) (get_or bases u 0)
              (get_or phases u 0) (get_or workers u idle_worker) (before.hands u small) (spared u small n))
        ];
      }
