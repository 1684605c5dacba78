-- What need not be believed: everything here is proved from the definitions.
--     Unless   the call for a caller that may be full, by its verdict; for one that is not it is replay
--     Cases    the whole call's verdict, by that on what it is given, that on the trace's records and whether the caller is full
--     Results  what the code answers and leaves beside the whole call
pub mod Unless
pub mod Cases
pub mod Results
