-- An answer is refused exactly where its number is not 0.
use Rattle.std.specs.Prelude.{◌≡◌, ◌<◌, refl, Result, Ok, Err}
use Rattle.std.proofs.Common.{arith}
use Rattle.refusals.specs.declared.Refusal.{Refusal}
use Rattle.refusals.specs.declared.Refusal.TheVariants.{Policy, TreeLength, TreeRecord, OpenTasks, Root, InputLength, OutputLength}
use Rattle.refusals.specs.declared.Refusal.TheVariants.{Worker, Idle, Waits, Thief, Deque, SameWorker, NoPhase}
use Rattle.refusals.specs.declared.Refusal.TheVariants.{Number, Count, Full}
use Rattle.refusals.specs.declared.Refused.{Refused}
use Rattle.refusals.specs.Numbers.{number_of, number_in, verdict_in}

-- No refusal has number 0.
pub number-some : (e : Refusal) → 0 < number_of e
number-some Policy = omega arith
number-some TreeLength = omega arith
number-some TreeRecord = omega arith
number-some OpenTasks = omega arith
number-some Root = omega arith
number-some InputLength = omega arith
number-some OutputLength = omega arith
number-some Worker = omega arith
number-some Idle = omega arith
number-some Waits = omega arith
number-some Thief = omega arith
number-some Deque = omega arith
number-some SameWorker = omega arith
number-some NoPhase = omega arith
number-some Number = omega arith
number-some Count = omega arith
number-some Full = omega arith

module _ {T : Type 0} where
  pub number_none : (r : Result T Refusal) → ((e : Refusal) → r ≡ Err e → ⊥) → number_in r ≡ 0
  number_none (Ok x) n = refl
  number_none (Err e) n = absurd (n e refl)

  pub verdict_none : (r : Result T Refused) → ((e : Refused) → r ≡ Err e → ⊥) → (verdict_in r).number ≡ 0
  verdict_none (Ok x) n = refl
  verdict_none (Err e) n = absurd (n e refl)

  pub number_err : (r : Result T Refusal) (e : Refusal) → r ≡ Err e → number_in r ≡ 0 → ⊥
  number_err r e is z = omega (arith, number-some e, rw is at z)

  pub verdict_err : (r : Result T Refused) (e : Refused) → r ≡ Err e → (verdict_in r).number ≡ 0 → ⊥
  verdict_err r e is z = omega (arith, number-some e.refusal, rw is at z)
