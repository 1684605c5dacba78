-- Refusal 17 is the histogram's own: replay never gives it.
use Rattle.std.specs.Prelude.{ℕ, suc, ◌≡◌, Bool, true, false, ◌&&◌, ◌||◌, not, List, [], ◌∷◌, get_or, eqb, leb}
use Rattle.std.proofs.Math.Decide.{ℕ_discrete}
use Rattle.std.proofs.Common.{arith, eq-eqb, ne_eqb}
use Rattle.rules.specs.Bytes.{Verdict, accepted, refused_if, first_refused, walk}
use Rattle.rules.specs.Tree.{is_end, kind, most_open, well_formed, judge_tree_record, next_open, tree_records, tree_walk, tree_verdict}
use Rattle.rules.specs.Scheduling.{Phase, first_phases}
use Rattle.rules.specs.Traces.{record_number, judge_trace_record, replay_walk}
use Rattle.rules.specs.Calls.{policy_verdict, count_verdict, start_verdict, replay_verdict}
use Rattle.tree.specs.Laws.Verdicts.{neither, first-refuses, first_passes}
use Rattle.replay_invariant.proofs.Laws.Verdicts.{read_other}

-- ---- conditions and walks

-- The verdict is another than 17.
abbrev Other : Verdict → Type 0
Other v = v.number ≡ 17 → ⊥

if_other : (bad : Bool) (number position : ℕ) → (number ≡ 17 → ⊥) → Other (refused_if bad number position)
unfolding refused_if accepted
if_other true number position n = n
if_other false number position n = omega arith

none_other : Other (first_refused [])
unfolding first_refused accepted
none_other = omega arith

first_other : (v : Verdict) (vs : List Verdict) → Other v → Other (first_refused vs) → Other (first_refused (v ∷ vs))
first_other v vs one others =
    elim (ℕ_discrete v.number 0) [
      | yes z ↦ rw (first_passes v vs z) others
      | no n ↦ rw (first-refuses v vs n) one
    ]

walk_other : {R S : Type 0} (judge : S → R → ℕ) (next : S → R → S) → ((s : S) (r : R) → judge s r ≡ 17 → ⊥)
    → (i : ℕ) (s : S) (rs : List R) → Other (walk judge next i s rs).verdict
unfolding walk accepted
walk_other judge next never i s [] = omega arith
walk_other judge next never i s (r ∷ rs) =
    elim (ℕ_discrete (judge s r) 0) [
      | yes z ↦ rw (eq-eqb (judge s r) 0 z) (walk_other judge next never (suc i) (next s r) rs)
      | no n ↦ rw (ne_eqb (judge s r) 0 n) (never s r)
    ]

-- ---- replay's

tree_record : (d : ℕ) (r : List ℕ) → judge_tree_record d r ≡ 17 → ⊥
unfolding judge_tree_record
tree_record d r =
    neither 17 (not (well_formed r)) 3 _ (omega arith)
    (neither 17 (eqb d most_open && not (is_end (kind r))) 4 _ (omega arith) (neither 17 (eqb d 0) 5 0 (omega arith) (omega arith)))

tree_other : (tree : List ℕ) → Other (tree_verdict tree)
unfolding tree_verdict tree_walk
tree_other tree =
    let walked = walk_other judge_tree_record next_open tree_record 0 1 (tree_records tree) in
    first_other _ _ (if_other _ 2 0 (omega arith))
    (first_other _ _ walked (first_other _ _ (if_other _ 5 _ (omega arith)) none_other))

start_other : (w p : ℕ) (tree : List ℕ) → Other (start_verdict w p tree)
unfolding start_verdict policy_verdict count_verdict
start_other w p tree =
    first_other _ _ (if_other _ 1 0 (omega arith))
    (first_other _ _ (if_other _ 16 0 (omega arith)) (first_other _ _ (tree_other tree) none_other))

trace_record : (w p : ℕ) (ks : List ℕ) (phs : List Phase) (r : List ℕ) → judge_trace_record w p ks phs r ≡ 17 → ⊥
unfolding judge_trace_record
trace_record w p ks phs r =
    neither 17 (leb w (get_or r 0 0) || leb w (get_or r 1 0)) 8 _ (omega arith)
    (neither 17 (eqb (get_or r 0 0) (get_or r 1 0)) 13 _ (omega arith)
    (read_other 17 (omega arith) (omega arith) (omega arith) p ks phs (get_or r 1 0) (record_number r)))

pub replay_other : (w p : ℕ) (tree trace list : List ℕ) → (replay_verdict w p tree trace list).number ≡ 17 → ⊥
unfolding replay_verdict replay_walk
replay_other w p tree trace list =
    let walked = walk_other _ _ (trace_record w p _) 0 first_phases _ in
    first_other _ _ (start_other w p tree)
    (first_other _ _ (if_other _ 6 0 (omega arith))
    (first_other _ _ (if_other _ 7 0 (omega arith)) (first_other _ _ walked none_other)))
