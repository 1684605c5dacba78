-- What need not be believed: everything here is proved from the definitions.
--     Marks      the scans over the array of places and the climb over openers, turn by turn; where what they find stands; the stores
--     Waiting    whether all steps of a block have run, turn by turn; the walk over blocks; what a step waits for
--     Running    refusals of a run, and what a run leaves, case by case
--     Children   the count of the children that a stretch of steps opens directly, turn by turn
--     Ordinals   the ordinal of a stolen step, case by case
--     Stealing   refusals of a steal, and what it takes, case by case
--     Moves      a run, a steal and an event from what their parts answer
--     Idle       the set of idle workers as a loop builds it, its count of ones and its trailing zeros
pub mod Marks
pub mod Waiting
pub mod Running
pub mod Children
pub mod Ordinals
pub mod Stealing
pub mod Moves
pub mod Idle
