-- The limits of the histogram, computed.
--     Terms     a number in two digits, a square root beside its rest, the square root of a square root
--     Laws      how a square root gets one more digit, and that the root of the root of a power of 2 is a limit (proved)
pub mod Terms
pub mod Laws
