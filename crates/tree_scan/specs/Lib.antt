-- The definitions on steps and tasks.
--     Contract  what the functions answer, by the rules (to be believed)
--     Laws      the laws of scans and of trees (proved)
pub mod Contract
pub mod Laws
