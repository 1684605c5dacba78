-- What need not be believed: everything here is proved from the rules.
--     Scans     the forward scan to a child's end and the backward scan to a task's opening, as loops make them
--     Steps     the finish child before a step, case by case
--     Shape     trees over any count, test for ends and sizes: induction, nesting, odd sizes
--     Starts    what an accepted start says of the policy and of the tree
--     Balance   lists of kinds that end their open tasks exactly at their end
--     Frames    an accepted tree: its length, shape, count of spawned tasks and open tasks
--     Places    the task, the ordinal and the finish child before a step, from the opening step that it is a part of
--     Openings  opening steps by sizes, induction from the root on, a step in its task
pub mod Scans
pub mod Steps
pub mod Shape
pub mod Starts
pub mod Balance
pub mod Frames
pub mod Places
pub mod Openings
