-- What need not be believed: everything here is proved from the rules.
--     Lines     the worker of a phase, and the loop that writes the lines
pub mod Lines
