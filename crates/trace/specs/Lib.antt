-- The records of a trace, a log and a run list.
--     Contract  the number of a trace record by the policy (to be believed)
--     Terms     what a trace record says
--     Laws      a trace record by its bytes, its number case by case (proved)
pub mod Contract
pub mod Terms
pub mod Laws
