-- What an admitted replay comes to.
--     Terms     what is asked of the call, and what it answers and leaves
--     Laws      what it does where a record is refused, where the caller is full, and where the run list is written (proved)
pub mod Terms
pub mod Laws
