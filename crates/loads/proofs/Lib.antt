-- What is proved of the definitions in specs.
--     Laws      loads over phases and by class, the weight that moves by the tables, the search for the heaviest (proved)
pub mod Laws
