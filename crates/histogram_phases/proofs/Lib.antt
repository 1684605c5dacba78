-- What is proved of the definitions in specs.
--     Laws      that they are the phases' (proved), and the loop that adds them
pub mod Laws
