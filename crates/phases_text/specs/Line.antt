-- What need not be believed: everything here is proved from the rules.
-- The lines of a run list.
--     Terms     what the functions write
--     Laws      how they write it
pub mod Terms
pub mod Laws
