-- What is proved of the definitions in specs.
--     Theorem     the claim, for every trace (to be read)
--     Laws        the proofs, and that the trace of a run replays to the run's own phases
pub mod Theorem
pub mod Laws
