-- Work and span, #105 of document 02: for every tree and lent buffer with which a call is accepted.
use Rattle.std.specs.Prelude.{ℕ, ◌≡◌, List}
use Rattle.rules_dag.specs.Spans.{span_call}
use Rattle.dag_chain.specs.WorkAndSpan.{WorkAndSpan}
use Rattle.dag_chain.proofs.Laws.Claim.{work-and-span}

pub every_span : (tree lent : List ℕ) → (span_call tree lent).verdict.number ≡ 0 → WorkAndSpan tree lent
every_span = work-and-span
