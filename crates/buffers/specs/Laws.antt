-- What need not be believed: everything here is proved from the definitions.
--     Records   records as bytes, of any width; records of four bytes, stored one behind the other
--     Copies    the loop that copies bytes out, turn by turn
--     Fronts    a buffer written piece by piece, each through the part behind the ones before
pub mod Records
pub mod Copies
pub mod Fronts
