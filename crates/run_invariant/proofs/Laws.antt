-- What need not be believed: everything here is proved from the rules.
--     Counts         truth values; lists: intervals of numbers, members, sums
--     Weights        parts of the tree: the steps inside; sums of steps, sizes, opening steps; what running a step does to them
--     Phase          one phase alone: its facts at its beginning, after it runs a step and after a steal from it
--     Waiting        the step after a finish child
--     Moves          what a run or a steal changes in a run's state, and what it leaves
--     Events         the state after one event, accepted or refused
--     Crew           a run keeps as many workers as it began with
--     Always         the invariant at the start, kept by each move, so true after every list of events
--     Consequences   what follows: no step twice, at most n runs, at most a steal for each spawned task, finished, order, frontier
pub mod Counts
pub mod Weights
pub mod Phase
pub mod Waiting
pub mod Moves
pub mod Events
pub mod Crew
pub mod Always
pub mod Consequences
