-- What need not be believed: everything here is proved from the definitions.
--     Filling   the loops that fill the tables, turn by turn
--     Charging  the loop that charges the classes, turn by turn
--     Lookup    what is looked up, case by case
--     Fronts    the part of a table that a walk is lent
pub mod Filling
pub mod Charging
pub mod Lookup
pub mod Fronts
