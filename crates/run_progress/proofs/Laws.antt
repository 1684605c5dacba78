-- What need not be believed: everything here is proved from the invariant of runs.
--     Blocked    what a step that waits waits for
--     Waits      a step that waits: what it waits for; the worker which has this pending holds a lower step
--     Pending    pending steps of a run: each unrun step is in the part from one of them, a held step in none of a deque's
--     Progress   from a worker that waits down to one that does not
pub mod Blocked
pub mod Waits
pub mod Pending
pub mod Progress
