-- What need not be believed: everything here is proved from the rules.
--     Tasks          the steps of one task, by their ordinals; the walk from continuation to continuation
--     Parts          parts of the tree and the phases that cover them: each step is covered by one phase
--     Reads          a trace record that keeps the rules names a step that can be stolen, and what the two phases are then
--     Always         the phases split the tree at the start and after each record, so after every trace that is read
--     Verdicts       the call by its verdict
--     Order          running a phase alone: each step that it covers once; work-first, an interval
--     Labels         a table of labels that tells the phase of each step that can be stolen
--     Traces         the trace of a run replays to the run's own phases
--     Consequences   what follows: the run list, phase by phase and in all; every accepted trace splits the tree
--     Entries        the entries of an accepted trace's run list, and that they are read again from their bytes
pub mod Tasks
pub mod Parts
pub mod Reads
pub mod Always
pub mod Verdicts
pub mod Order
pub mod Labels
pub mod Traces
pub mod Consequences
pub mod Entries
