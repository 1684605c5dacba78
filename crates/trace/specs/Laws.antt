-- What need not be believed: everything here is proved from the definitions.
--     Records   a trace record by its bytes
--     Numbers   the number of a trace record, case by case
pub mod Records
pub mod Numbers
