-- What need not be believed: everything here is proved from the definitions.
--     Steps     the climb from an end, and where the chain goes on, case by case
--     Walking   the walk, turn by turn
pub mod Steps
pub mod Walking
