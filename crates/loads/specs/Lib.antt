-- Loads: how a steal moves weight from one worker's load to another's, and the totals at the end.
--     Terms     the weight that a steal moves, what it leaves in the loads, what is so of all together, and the totals
pub mod Terms
