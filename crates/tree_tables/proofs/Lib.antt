-- What is proved of the definitions in specs.
--     Laws      how they are filled, and what they are good for (proved)
pub mod Laws
