-- What need not be believed: everything here is proved from the rules and the calls' answers.
--     Scans        what a scan of the places finds, from what is marked
--     Hops         from step to step over a task's children: ordinals, and the children between
--     Hands        one worker's marks and held step: the newest and the oldest pusher; a push, a pop, a theft, another worker's move
--     Ready        a worker whose held step is not its `low` never waits
--     Hints        tables of the tree serve the calls on a state that shows a run
--     Tables       all workers beside each other: the start, and one worker's change
--     Moves        an accepted run or steal: the next state shows the next run
--     AnyState     an event on any state: what it keeps, and when it is refused with 8
--     Answers      a run's and a steal's move beside the rules' verdict, case by case
--     Events       each call on a state that shows a run: the start, an event, the idle workers
--     Follows      a list of events: both go on alike, and the number of a steal is that of its trace record
--     WaitingTest  the waiting test: by the places of a state and by the log of a run
pub mod Scans
pub mod Hops
pub mod Hands
pub mod Ready
pub mod Hints
pub mod Tables
pub mod Moves
pub mod AnyState
pub mod Answers
pub mod Events
pub mod Follows
pub mod WaitingTest
