-- What need not be believed: everything here is proved from the definitions.
--     Loads     the pass over the run list of an accepted trace finds the load of each phase
--     Passes    the loop that adds the phases to the counts, turn by turn
pub mod Loads
pub mod Passes
