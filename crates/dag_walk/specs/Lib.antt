-- The walk that finds the chain.
--     Terms     the tables that it reads, and what it leaves
--     Laws      where it goes on from a step, and its turns (proved)
pub mod Terms
pub mod Laws
