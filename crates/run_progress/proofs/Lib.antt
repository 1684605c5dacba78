-- What is proved of the definitions in specs.
--     Theorem    the claim, for every accepted start and every list of events (to be read)
--     Laws       its proof, for every state with the invariant of runs
pub mod Theorem
pub mod Laws
