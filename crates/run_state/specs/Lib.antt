-- The state of a run by value.
--     Contract  what each call answers and every field of the state that it hands back (to be believed)
--     Laws      the calls case by case, in the terms of the code (proved)
pub mod Contract
pub mod Laws
