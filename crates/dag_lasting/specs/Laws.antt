-- What need not be believed: everything here is proved from the definitions.
--     Filling   the walk back over a task, child by child
pub mod Filling
