-- What need not be believed: everything here is proved from the definitions.
--     Recording  what the loop over the events holds: the start, each kind of event, the end
--     Turns      each turn of the loop in the terms of the code, from what a call on the arrays ensures
pub mod Recording
pub mod Turns
