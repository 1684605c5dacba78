-- The schedule maker.
--     Contract  what the call answers, by the rules (to be believed)
--     Terms     what rounds on the maker's arrays come to
--     Laws      the returns of the call, and its rounds (proved)
pub mod Contract
pub mod Terms
pub mod Laws
