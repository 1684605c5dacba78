-- What one event does to the fields of a run's state. The first seven pages are to be believed, since what the contracts of
-- `run_state` name is made of them: they have definitions alone, and no theorem.
--     Deques     the marks of the steps: what a scan finds, what a pop and a steal leave
--     Running    whether a worker may run its step, what it holds next, and the places then
--     Ordinals   the ordinal of a stolen step
--     Stealing   whether a thief may steal, and what it takes
--     Outcomes   what an event did, and the answer that stands for it
--     Moves      a run, a steal and an event whole
--     Idle       the idle workers
--     Terms      words of inner contracts, which no entry names
pub mod Deques
pub mod Running
pub mod Ordinals
pub mod Stealing
pub mod Outcomes
pub mod Moves
pub mod Idle
pub mod Terms
