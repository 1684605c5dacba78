-- What need not be believed: everything here is proved from the definitions.
--     Cases    the whole call's verdict, by that on what it is given and that on the events
--     Results  the whole call's returns: the refusals, and what an accepted call answers and leaves
pub mod Cases
pub mod Results
