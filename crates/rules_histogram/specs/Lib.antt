-- Document 02, #106, as definitions in its order and words. To be believed:
--     Limits       what a limit is, the table of limits, the bucket of a load
--     Histograms   the histogram; what the call answers and writes
-- Proved from these, so not to be believed:
--     Additions    cases of buckets, of histograms that traces are added to, and of refusals
pub mod Limits
pub mod Histograms
pub mod Additions
