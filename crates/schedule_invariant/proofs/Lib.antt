-- What is proved of the definitions in specs.
--     Theorem    the claim, for every accepted call (to be read)
--     Laws       its proof
pub mod Theorem
pub mod Laws
