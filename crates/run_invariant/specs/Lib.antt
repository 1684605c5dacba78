-- What is so of every run, whatever the scheduler does.
--     Invariant   the statement: what holds of every state that events lead to (to be read)
pub mod Invariant
