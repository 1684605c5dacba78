-- What need not be believed: everything here is proved from the rules.
--     Workers    refusals 8, 13 and 14 by the workers' latest phases are the rules'
--     Naming     the step that a number names, turn by turn and case by case
--     Claims     the climb that labels, turn by turn; taking a step, case by case
--     Dropping   the pushed steps that a phase drops
--     Taking     what a reading comes to, case by case
--     Reading    reading a steal by labels and continuations is the rules' way
--     Begins     the tables of phases are right once one begins
--     Orders     running a phase alone by labels is the rules' running order
--     Stacks     the loop that writes one phase, turn by turn
--     RunLists   all phases' records are the rules' run list
--     Lists      the loop over the phases, turn by turn
pub mod Workers
pub mod Naming
pub mod Claims
pub mod Dropping
pub mod Taking
pub mod Reading
pub mod Begins
pub mod Orders
pub mod Stacks
pub mod RunLists
pub mod Lists
