-- Document 02, #102, as definitions in its order and words. To be believed:
--     Schedules   the schedule maker
-- Proved from it, so not to be believed:
--     MadeLists   cases of the schedule maker
pub mod Schedules
pub mod MadeLists
