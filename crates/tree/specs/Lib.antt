-- The tree file's definitions.
--     Contract  what accepting a tree answers, by the rules (to be believed)
--     Steps     a step that is looked for, as the functions answer it (to be believed)
--     Laws      the laws of records, walks and acceptance (proved)
pub mod Contract
pub mod Steps
pub mod Laws
