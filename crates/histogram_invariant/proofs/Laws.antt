-- What need not be believed: everything here is proved from the rules.
--     Loads     loads added to counts: each bucket, and all together
--     Wraps     no count wraps while all together are few
--     Numbers   replay never refuses with 17
--     Calls     one call, by its cases
--     Lists     any list of calls
pub mod Loads
pub mod Wraps
pub mod Numbers
pub mod Calls
pub mod Lists
