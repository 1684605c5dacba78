-- One trace record and one phase in the tables of replay.
--     Workers   the refusals that the workers of a trace record decide
--     Naming    the step that a trace number names
--     Labels    which phase has a step
--     Reading   what reading a steal comes to
--     Begins    what beginning a phase stores
--     Orders    what is written of one phase
--     Lists     what is written of all phases
pub mod Workers
pub mod Naming
pub mod Labels
pub mod Reading
pub mod Begins
pub mod Orders
pub mod Lists
