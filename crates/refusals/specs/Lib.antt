-- The refusals' definitions.
--     Numbers   the numbers that the documents give them, and those of an answer (to be believed)
--     Laws      an answer is refused exactly where its number is not 0 (proved)
pub mod Numbers
pub mod Laws
