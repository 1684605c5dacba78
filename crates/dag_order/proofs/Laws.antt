-- What need not be believed: everything here is proved from the rules.
--     Links     one link, as a test and as a fact
--     Ahead     the order by the parts of a tree is the closure of the links; how it grows from step to step
--     Closure   the test that computes is the closure too
pub mod Links
pub mod Ahead
pub mod Closure
