-- The answers as C's flat structs of numbers.
use Rattle.dag_span.specs.Contract.{Answers}
use Rattle.frame_dag.specs.declared.FrameSpan.{FrameSpan}

-- A refusal and position, work, span and the chain's length.
abbrev pub flat_span : Answers → FrameSpan
flat_span a = record { number = a.number; position = a.position; work = a.work; span = a.span; length = a.length }
