-- What is proved of the definitions in specs.
--     Theorem       the claims, with all that they are for (to be read)
--     Laws          their proofs
pub mod Theorem
pub mod Laws
