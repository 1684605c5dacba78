-- What need not be believed: everything here is proved from the rules.
--     Verdicts  the verdict of a replay, where the run list has room
--     Workers   the workers of the phases of an accepted trace
--     Lists     the run list of an accepted replay, as the rules' lines
--     Phases    the whole text, of a refused and of an accepted replay
pub mod Verdicts
pub mod Workers
pub mod Lists
pub mod Phases
