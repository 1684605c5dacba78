-- What need not be believed: everything here is proved from the definitions.
--     Rounding   a round on the maker's arrays, turn by turn; rounds, until every step has run
--     Results    the returns of the call: its refusals, and what an accepted call answers and leaves
pub mod Rounding
pub mod Results
