-- The rules of documents 01 and 02 as definitions, in their order. To be believed:
--     Bytes        records, little-endian numbers, walks that end at the first refused record
--     Tree         "The tree file"
--     Scheduling   "Scheduling"
--     Traces       "Trace, log, run list"
--     Calls        "Refusals": what a whole call answers and writes
--     Program      what program `phases` prints
-- Proved from these, so not to be believed:
--     Cases        "Tree S and its schedules": P1 to P12, one theorem
--     NearMisses   cases that tell the rules from near misses, a theorem for each table
--     Counts       cases of the run's own count of workers
--     Classes      cases of the classes
--     Awaited      cases of what a step waits for
--     Listing      the worked example of program `phases`, and refusals and numbers that it prints
pub mod Bytes
pub mod Tree
pub mod Scheduling
pub mod Traces
pub mod Calls
pub mod Program
pub mod Cases
pub mod NearMisses
pub mod Counts
pub mod Classes
pub mod Awaited
pub mod Listing
