-- The walk over a trace's records.
--     Terms     what the functions answer and leave
--     Laws      what the loop holds
pub mod Terms
pub mod Laws
