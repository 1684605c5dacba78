-- What C asks about a tree.
--     Contract  the flat structs that are answered (to be believed)
pub mod Contract
