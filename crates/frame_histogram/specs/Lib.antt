-- The histogram of phase loads for C.
--     Contract  the answer as a struct of numbers (to be believed)
pub mod Contract
