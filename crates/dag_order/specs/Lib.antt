-- What must precede what.
--     Order      the statement: the test that computes is the closure over any number of links (to be read)
--     Terms      the order by the parts of a tree
pub mod Order
pub mod Terms
