-- What is proved of the definitions in specs.
--     Laws      what a turn keeps (proved)
pub mod Laws
