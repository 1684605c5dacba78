-- What need not be believed: everything here is proved from the definitions.
--     Results   the answers of a call, and its returns
pub mod Results
