-- Tables of the tree serve the calls on arrays in every state that shows a run: the task of each step that is marked with a worker
-- ends past the step that the worker holds, and only a step at `low` may wait.
use Rattle.std.specs.Prelude.{ℕ, ◌≤◌, ◌<◌, ◌≡◌, refl, true, List, length, get_or}
use Rattle.std.proofs.Common.{sym, ◌∙◌, arith}
use Rattle.std.proofs.Math.Option.{Option, none, some}
use Rattle.rules.specs.Tree.{kinds, task_end}
use Rattle.rules.specs.Scheduling.{most_workers, Run, worker_at}
use Rattle.tree_scan.specs.Laws.Frames.{Frame}
use Rattle.tree_tables.specs.Terms.{Ends, Openers}
use Rattle.run_spec.specs.Deques.{marked}
use Rattle.run_spec.specs.Moves.{Fields}
use Rattle.run_spec.specs.Terms.{Hints}
use Rattle.run_refinement.specs.Tie.{Shows}
use Rattle.run_refinement.proofs.Laws.Hands.{line-nested}
use Rattle.run_refinement.proofs.Laws.Ready.{never_waits}

module _ (p : ℕ) (tree : List ℕ) (frame : Frame tree) (s : Fields) (r : Run) (shows : Shows p (kinds tree) s r) (openers : List ℕ)
    (fits : length openers ≤ length (kinds tree)) where
  nested : (w : ℕ) → w < most_workers → get_or s.held w 0 < length openers → (o : Option ℕ) → (worker_at r w).hand.held ≡ o
      → (j : ℕ) → j < get_or s.held w 0 → marked s.place w j ≡ true → get_or s.held w 0 < task_end (kinds tree) j
  nested w few within none e j b m =
      let idle = (rw e at (shows.hands w few).holding).0 in
      absurd (omega (arith, frame.most))
  nested w few within (some h) e j b m =
      let hand = shows.hands w few in
      let holding = rw e at hand.holding in
      rw holding.0
      (line-nested (kinds tree) frame.shape (get_or s.low w 0) hand.pushers h holding.1 j
      (sym (hand.marks j (omega (arith, holding.0))) ∙ m))

  pub shows_hints : (ends : List ℕ) → Ends (kinds tree) ends (length ends) → Openers (kinds tree) openers (length openers)
      → Hints tree ends openers s.place s.held s.low
  shows_hints ends right table =
      record {
        task_ends = right;
        opened = table;
        waits = λ w few within apart. never_waits p (kinds tree) frame.most s r shows w few (omega arith) apart;
        climbs = λ w few within. record {
          ks = kinds tree;
          table = table;
          nested = λ j l b m. nested w few within (worker_at r w).hand.held refl j b m;
        };
      }
