-- What need not be believed: everything here is proved from the definitions.
--     Cases   the calls by cases, in the terms of the code
pub mod Cases
