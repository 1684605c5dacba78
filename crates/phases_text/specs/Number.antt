-- What need not be believed: everything here is proved from the rules.
--     Laws      numbers and lines of them, as the code writes them
pub mod Laws
