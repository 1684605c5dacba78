-- What is proved of the definitions in specs.
--     Theorem     the claim, for every accepted start and every list of events (to be read)
--     Laws        its proof, and what follows from it
pub mod Theorem
pub mod Laws
