-- What need not be believed: everything here is proved from the definitions.
--     Workers   the workers of a run by its count, and bytes that name none of them
--     Parts     what running an opening step holds and pushes, case by case
--     Running   what running a step does to its worker, case by case
pub mod Workers
pub mod Parts
pub mod Running
