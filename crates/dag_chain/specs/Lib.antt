-- Work, span and the heaviest chain.
--     WorkAndSpan  the statement: times, the chain's links and weight, no heavier chain, none before it, the bounds (to be read)
--     Terms        the walk that finds the chain
pub mod WorkAndSpan
pub mod Terms
