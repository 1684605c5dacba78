-- Tables of a tree, filled once for a list of events or a trace.
--     Terms     what the tables have
pub mod Terms
