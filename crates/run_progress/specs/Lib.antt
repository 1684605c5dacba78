-- A run never gets stuck.
--     Progress   the statement: unless every step has run, some worker may run (to be read)
pub mod Progress
