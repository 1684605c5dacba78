-- What a call is given.
--     Terms     what is answered of it, by the rules
--     Laws      each answer
pub mod Terms
pub mod Laws
