-- One turn of the schedule maker.
--     Terms     the maker's arrays, and how they show a list in the making
pub mod Terms
