-- Document 02, #105, as definitions in its order and words. To be believed:
--     Precedence   what precedes what, directly and over any number of links
--     Spans        work, span and the chain; what the call answers and writes
-- Proved from these, so not to be believed:
--     Chains       cases of the order, of the span and of the chain
pub mod Precedence
pub mod Spans
pub mod Chains
