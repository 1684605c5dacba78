-- What need not be believed: everything here is proved from the rules.
--     Retracing   what the loop over the records holds: the start, the end, a record refused for its workers
--     Turns       a record whose number is read: it is refused, or a phase begins
pub mod Retracing
pub mod Turns
