-- What is proved of the definitions in specs.
--     Laws      each of these case by case, in the terms of the code, and that they are the rules (proved)
pub mod Laws
