-- What need not be believed: everything here is proved.
--     Numbers   an answer is refused exactly where its number is not 0
pub mod Numbers
