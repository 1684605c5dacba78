-- What need not be believed: everything here is proved from the rules.
--     Numbers   decimal digits, and the loop that writes them
--     Texts     pieces of a text, written one behind the other
pub mod Numbers
pub mod Texts
