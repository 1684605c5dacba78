-- What need not be believed: everything here is proved from the rules.
-- The parts of an input.
--     Terms     what is taken of it
--     Laws      that this is the rules' policy, tree and trace
pub mod Terms
pub mod Laws
