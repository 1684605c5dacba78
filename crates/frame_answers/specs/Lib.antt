-- The library's answers for C.
--     Contract  each as a flat struct of numbers (to be believed)
pub mod Contract
