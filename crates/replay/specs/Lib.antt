-- Replay: a trace to the run list.
--     Contract  what the call answers, by the rules (to be believed)
--     Terms     the call for a caller that may be full
--     Body      what an admitted replay comes to: the walk, then the run list
--     Laws      that this is the rules' call (proved)
pub mod Contract
pub mod Terms
pub mod Laws
pub mod Body
