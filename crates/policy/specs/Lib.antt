-- What a run is set up with, and what running a step holds and pushes.
--     Contract  the most phases; the workers of a run; what running a step does to its worker, by the rules (to be believed)
pub mod Contract
