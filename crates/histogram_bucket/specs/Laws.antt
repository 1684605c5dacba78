-- What need not be believed: everything here is proved.
--     Bits      a load's highest set bit from its leading zeros, and a truth value as a number
pub mod Bits
