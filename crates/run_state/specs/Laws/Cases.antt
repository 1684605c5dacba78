-- The calls by cases, in the terms of the code: an event's answer from the move that it lent its fields to, the idle workers
-- from the bits of their set, the start from the verdict on its arguments.
use Rattle.std.specs.Prelude.{ℕ, ◌≡◌, List}
use Rattle.std.proofs.Math.Path.{refl, sym, ap}
use Rattle.std.proofs.Common.{◌∙◌}
use Rattle.std.specs.Int.Count.{ones, count_trailing_zeros}
use borrow.Author.Tests.{ne_eqb}
use Rattle.rules.specs.Calls.{start_verdict}
use Rattle.tree.specs.Contract.{Accepted}
use Rattle.arguments.specs.Terms.{start_judged}
use Rattle.tree_scan.specs.Laws.Starts.{admitted_position}
use Rattle.policy.specs.Contract.{worker_limit}
use Rattle.policy.proofs.Laws.Workers.{limit_most}
use Rattle.run_spec.specs.Moves.{Move, fresh, run_move, steal_move}
use Rattle.run_spec.specs.Idle.{idle_bits}
use Rattle.run_spec.proofs.Laws.Moves.{event_run, event_steal}
use Rattle.run_spec.proofs.Laws.Idle.{ones-set, lowest_set}
use Rattle.run_state.specs.declared.RunState.{RunState}
use Rattle.run_state.specs.declared.Idle.{Idle}
use Rattle.run_state.specs.Contract.{Answered, Started, fields, state_of, answer_of, zeros, start_answer, run_answer, steal_answer}
use Rattle.run_state.specs.Contract.{event_answer, idle_answer}

-- ---- events

-- The answer of a run, and of a steal, from the move that its state's fields make.
module _ (s : RunState) (tree : List ℕ) where
  pub run_answers : (w : ℕ) (m : Move) → m ≡ run_move (fields s) tree w → answer_of m ≡ run_answer s tree w
  unfolding run_answer
  run_answers w m e = ap {B = Answered} answer_of e

  pub steal-answers : (t v : ℕ) (m : Move) → m ≡ steal_move (fields s) tree t v → answer_of m ≡ steal_answer s tree t v
  unfolding steal_answer
  steal-answers t v m e = ap {B = Answered} answer_of e

  pub equal_runs : (a b : ℕ) → a ≡ b → run_answer s tree a ≡ event_answer s tree a b
  unfolding run_answer event_answer
  equal_runs a b e = ap {B = Answered} answer_of (event_run (fields s) tree a b e)

  pub different_steals : (a b : ℕ) → (a ≡ b → ⊥) → steal_answer s tree a b ≡ event_answer s tree a b
  unfolding steal_answer event_answer
  different_steals a b n = ap {B = Answered} answer_of (event_steal (fields s) tree a b n)

-- ---- the idle workers

pub idle_answers : (s : RunState) (set : ℕ) → set ≡ idle_bits s.held 0 (worker_limit s.workers)
    → ◌≡◌ {A = Idle} (record { set = set; count = ones set; lowest = count_trailing_zeros 16 set; state = s }) (idle_answer s)
unfolding idle_answer
idle_answers s set e =
    let c = worker_limit s.workers in
    rw (e, ones-set s.held c 0, lowest_set s.held c (limit_most s.workers)) refl

-- ---- the start

module _ (w p : ℕ) (tree : List ℕ) (r : Accepted) (judged : r ≡ start_judged w p tree) where
  number : (start_verdict w p tree).number ≡ r.number
  unfolding start_judged
  number = sym (ap (λ (x : Accepted). x.number) judged)

  pub start-refused : (r.number ≡ 0 → ⊥) → (s : RunState) → s ≡ zeros
      → ◌≡◌ {A = Started} (record { number = r.number; position = r.position; state = s }) (start_answer w p tree)
  unfolding start_answer start_judged
  start-refused n s z =
      let position : (start_verdict w p tree).position ≡ r.position = sym (ap (λ (x : Accepted). x.position) judged) in
      rw (z, number, position, ne_eqb r.number 0 n) refl

  pub start-accepts : r.number ≡ 0 → (s : RunState) → s ≡ state_of (fresh (record { policy = p; workers = w }))
      → ◌≡◌ {A = Started} (record { number = 0; position = 0; state = s }) (start_answer w p tree)
  unfolding start_answer
  start-accepts e s f = rw (f, number ∙ e, admitted_position w p tree (number ∙ e)) refl
