-- What need not be believed: everything here is proved from the rules.
--     Folds      recording a list is folding single events
--     Folded     the first event that is refused, and whole calls
--     Live       the calls of single events beside the rules: refusals, the accepted events, the steals
--     Records    records as bytes, read back
--     Phases     entries of a log or a run list, counted by phase and by step
--     Leading    the log of a run beside the run list of its phases
--     Recorded   recording events that the rules accept
--     Replayed   replaying the trace of a run
--     Whole      recording the live run and replaying its trace
--     Counted    what the worker count decides
--     Classed    what a class decides, and what it does not
pub mod Folds
pub mod Folded
pub mod Live
pub mod Records
pub mod Phases
pub mod Leading
pub mod Recorded
pub mod Replayed
pub mod Whole
pub mod Counted
pub mod Classed
