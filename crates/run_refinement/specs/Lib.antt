-- The state by value and the rules' run.
--     Tie          how a state shows a run, and the list of events on both sides (to be read)
--     Follows      what is claimed of single events (to be read)
--     WaitingTest  what is claimed of the waiting test (to be read)
pub mod Tie
pub mod Follows
pub mod WaitingTest
