-- What need not be believed: everything here is proved from the rules.
--     Turns    a turn by its cases, and what every turn keeps
--     Rounds   each round runs a step, so the rounds end
--     Lists    the list that a call makes, and recording it
pub mod Turns
pub mod Rounds
pub mod Lists
