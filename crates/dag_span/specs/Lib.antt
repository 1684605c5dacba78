-- Work and span: the call.
--     Contract  what the call answers, by the rules (to be believed)
--     Terms     what it answers, refused or accepted
--     Laws      its returns (proved)
pub mod Contract
pub mod Terms
pub mod Laws
