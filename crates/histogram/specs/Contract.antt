-- What the calls on a histogram take and answer, by the rules.
use Rattle.rules_histogram.specs.Histograms.{Histogram as Ruled, Added as Call}
use Rattle.replay.specs.Contract.{Answers, answers as replay_answers, answers_of}
use Rattle.histogram.specs.declared.Histogram.{Histogram}
use Rattle.histogram.specs.declared.Added.{Added}

-- A histogram as the rules have it, and as it is stored: the same two fields.
abbrev pub given : Histogram → Ruled
given h = record { traces = h.traces; counts = h.counts }

abbrev pub stored : Ruled → Histogram
stored h = record { traces = h.traces; counts = h.counts }

-- The answers of a call, beside what it leaves in the lent run list.
pub record Answered : Type 0 where
  pub replayed : Answers
  pub histogram : Histogram

-- By the rules' call,
unfoldable pub answers : Call → Answered
answers c = record { replayed = replay_answers c.replayed; histogram = stored c.histogram }

-- and by what the code answers.
abbrev pub added : Added → Answered
added a = record { replayed = answers_of a.replayed; histogram = a.histogram }
