-- What need not be believed: everything here is proved from the definitions.
--     Sizes     the lengths of the deques, after a run and after a steal
--     Awaits    the steps that the workers were last seen to wait for
--     Listing   the list in the making, and one event more
--     Turning   a worker's turn: what is stored shows the list after it
pub mod Sizes
pub mod Awaits
pub mod Listing
pub mod Turning
