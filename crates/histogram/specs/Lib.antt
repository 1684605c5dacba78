-- Phase loads over many traces.
--     Contract  what the calls take and answer, by the rules (to be believed)
--     Laws      what a call comes to, refused or accepted (proved)
pub mod Contract
pub mod Laws
