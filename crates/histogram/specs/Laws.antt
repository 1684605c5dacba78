-- What need not be believed: everything here is proved from the definitions.
--     Results   each return of the code beside the whole call
pub mod Results
