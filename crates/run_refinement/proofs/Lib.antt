-- What is proved of the definitions in specs.
--     Theorem      the claims, for every accepted start and every list of events (to be read)
--     Laws         their proofs
pub mod Theorem
pub mod Laws
