-- What need not be believed: everything here is proved from the definitions.
--     Results   the returns, from what the walk over the events comes to
pub mod Results
