-- The lists that the schedule maker makes.
--     Schedule   the statement: the rounds end, and the list is accepted by recording, finished and short (to be read)
--     Terms      what holds of a list in the making
pub mod Schedule
pub mod Terms
