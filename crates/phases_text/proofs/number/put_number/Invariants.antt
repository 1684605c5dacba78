-- The digits of `rest` and what stands behind them are the whole number.
use Rattle.phases_text.specs.Number.Laws.Numbers.{Writing}
use Rattle.phases_text.proofs.number.put_number.Given as goal

abbrev pub invariant-loop-i : goal.invariant-loop-i
invariant-loop-i l = Writing l.number l.initial.text l.text l.i l.rest
