-- The loads of a trace's phases, added to the counts of a histogram.
--     Terms     the loads, as one pass over a run list finds them
pub mod Terms
