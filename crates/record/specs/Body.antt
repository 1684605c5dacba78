-- What an admitted recording comes to.
--     Terms     what is asked of the call, and what it answers and leaves
--     Laws      the returns, from what the walk comes to (proved)
pub mod Terms
pub mod Laws
