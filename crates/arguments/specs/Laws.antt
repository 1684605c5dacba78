-- What need not be believed: everything here is proved from the definitions.
--     Starts   a policy and a tree, judged, and what the answer says of a start
--     Cases    each answer on a whole call, in the terms of the code, and what it says of the call
pub mod Starts
pub mod Cases
