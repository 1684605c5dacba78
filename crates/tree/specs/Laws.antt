-- What need not be believed: everything here is proved from the rules.
--     Counts       the numbers of an interval, and what a function makes of them
--     Highest      the highest number of an interval that passes a test
--     Largest      the largest number of a list, and of what a function makes of an interval
--     Records      records of any width, fields of two bytes; the tree's kinds, classes and weights as bytes
--     Walks        walks over any kind of record
--     Steps        a step that was looked for, by what a function answers
--     Verdicts     truth values, and conditions judged one after the other
--     Acceptance   accepting a tree, as a loop does it
pub mod Counts
pub mod Highest
pub mod Largest
pub mod Records
pub mod Walks
pub mod Steps
pub mod Verdicts
pub mod Acceptance
