-- What is proved of the definitions in specs.
--     Laws      the workers by the count; what an opening step holds and pushes, case by case (proved)
pub mod Laws
