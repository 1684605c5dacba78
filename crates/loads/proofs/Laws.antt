-- What need not be believed: everything here is proved from the definitions.
--     Takes      a worker takes a step from another's phase
--     Loads      the loads of phases, and how a steal moves weight from one to another
--     Classes    the loads of the classes; by workers and by classes, loads add up
--     Unused     a worker that the run does not have has no phase and no load
--     Heaviest   the loop that looks for the heaviest worker
pub mod Takes
pub mod Loads
pub mod Classes
pub mod Unused
pub mod Heaviest
