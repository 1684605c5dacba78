-- Recording: events to log and trace.
--     Contract  what the call answers, by the rules (to be believed)
--     Body      what an admitted recording comes to, for module `body`
--     Laws      the whole call's answers (proved)
pub mod Contract
pub mod Laws
pub mod Body
