-- The limits of the histogram's buckets.
--     Rule       the statement: the table is the rule's, and where a load goes (to be read)
--     Terms      a load among the limits: the last power of 2 that it reaches, and the three limits above
pub mod Rule
pub mod Terms
