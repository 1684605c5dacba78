-- The answer as C's struct.
use Rattle.histogram.specs.Contract.{Answered}
use Rattle.frame_answers.specs.Contract.{flat_replay}
use Rattle.frame_histogram.specs.declared.FrameAdded.{FrameAdded}

-- What replay answers, and the histogram as it is.
abbrev pub flat_added : Answered → FrameAdded
flat_added a = record { replay = flat_replay a.replayed; histogram = a.histogram }
