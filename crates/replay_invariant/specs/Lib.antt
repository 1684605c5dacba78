-- How a trace that replay accepts splits a tree into phases, whether a scheduler made it or not.
--     Splits      what holds of every accepted trace (to be read)
--     Invariant   what holds after each record
--     Terms       words of replay's inner contracts: labels, the walk over children
pub mod Splits
pub mod Invariant
pub mod Terms
