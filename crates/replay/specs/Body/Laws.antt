-- What need not be believed: everything here is proved from the definitions.
--     Results   each return of the code, from what the walk over the trace's records comes to
pub mod Results
