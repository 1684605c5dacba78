-- What need not be believed: everything here is proved from the rules.
--     Table     the rule at each limit, by one test over the table; limits rise, each fourth is a power of 2, between are halves
--     Buckets   the bucket of a load: found for all but 0, by two comparisons, and from its last power of 2 by three
pub mod Table
pub mod Buckets
