-- What is proved of the definitions in specs.
--     Theorem   the claim, for every call, histogram and list of calls (to be read)
--     Laws      its proof
pub mod Theorem
pub mod Laws
