-- The walk over a list of events.
--     Terms     what the walk comes to
--     Laws      what the loop over the events holds (proved)
pub mod Terms
pub mod Laws
