-- How long the rest of a task lasts with all that it spawned, for each step.
--     Terms     what the tables have
--     Laws      how they are filled (proved)
pub mod Terms
pub mod Laws
