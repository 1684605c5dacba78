-- What need not be believed: everything here is proved from the rules.
--     Lasting   how long the rest of a task lasts, as equations
--     Times     starts and ends; the span is what the root lasts
--     Bounds    no chain weighs more than the span; span, work and n
--     Walk      the walk is a chain, weighs the span, and goes before every other of that weight
--     Choice    the rules' chain is the walk
--     Climb     where the walk goes on from an end
--     Claim     the statement, put together
pub mod Lasting
pub mod Times
pub mod Bounds
pub mod Walk
pub mod Choice
pub mod Climb
pub mod Claim
