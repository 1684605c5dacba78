-- Over all entries: whatever the scheduler does, the live run and the replay of its trace have the same phases; what the worker count
-- decides; and what a step's class does.
--     Agreement     what is claimed of live runs and replay (to be read)
--     WorkerCount   what is claimed of the count (to be read)
--     StepClasses   what is claimed of the classes (to be read)
pub mod Agreement
pub mod WorkerCount
pub mod StepClasses
