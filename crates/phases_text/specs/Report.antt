-- What need not be believed.
--     Terms     what is printed of a refusal
pub mod Terms
