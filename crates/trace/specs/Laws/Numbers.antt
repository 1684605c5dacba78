-- The number of a trace record by the policy, in the terms of the code.
use Rattle.std.specs.Prelude.{ℕ, ◌<◌, ◌≡◌, refl, Bool, true, false, cond, eqb}
use Rattle.std.proofs.Common.{sym, ap, ◌∙◌, true≢false, arith, eq-eqb, ne_eqb}
use Rattle.tree.specs.declared.Step.{Step}
use Rattle.tree.specs.declared.Ordinal.{Ordinal}
use Rattle.rules.specs.Scheduling.{work_first}
use Rattle.trace.specs.declared.number.TraceNumber.{TraceNumber}
use Rattle.trace.specs.declared.number.TraceNumber.TheVariants.{ByOrdinal, BySerial}
use Rattle.trace.specs.Contract.{number_by}
use Rattle.trace.specs.Terms.{ordinal_in}

pub number-ordinal : (p : ℕ) (o : Ordinal) (i : ℕ) → p ≡ 1 → ByOrdinal o ≡ number_by p o.0 i
unfolding number_by
number-ordinal p o i e = rw (number_by, eq-eqb p 1 e) refl

pub number_serial : (p o : ℕ) (step : Step) → (p ≡ 1 → ⊥) → BySerial step ≡ number_by p o step.0
unfolding number_by
number_serial p o step n = rw (number_by, ne_eqb p 1 n) refl

-- What is kept of a number of two bytes as an ordinal has two bytes, and work-first it is the number.
pub ordinal-kept : (p n : ℕ) {told : TraceNumber} {own : ℕ} → n < 65536 → told ≡ number_by p n n → own ≡ ordinal_in told
    → (own < 65536) × (p ≡ work_first → own ≡ n)
unfolding number_by
ordinal-kept p n {told} {own} small is e = by (eqb p work_first) refl (e ∙ ap ordinal_in is)
  where
    by : (b : Bool) → eqb p work_first ≡ b → own ≡ ordinal_in (cond b (ByOrdinal (record { 0 = n })) (BySerial (record { 0 = n })))
        → (own < 65536) × (p ≡ work_first → own ≡ n)
    by true f same = (omega arith, λ w. same)
    by false f same = (omega arith, λ w. absurd (true≢false (sym (eq-eqb p work_first w) ∙ f)))
