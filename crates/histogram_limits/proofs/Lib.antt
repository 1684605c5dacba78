-- What is proved of the definitions in specs.
--     Theorem    the claim (to be read)
--     Laws       its proof, and the bucket of a load by comparisons
pub mod Theorem
pub mod Laws
