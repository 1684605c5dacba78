-- What C asks about the order of a frame's steps.
--     Contract  the answers as C's flat structs of numbers (to be believed)
pub mod Contract
