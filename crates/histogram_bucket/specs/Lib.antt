-- The bucket of a load.
--     Laws      its highest set bit, and a comparison as a number (proved)
pub mod Laws
