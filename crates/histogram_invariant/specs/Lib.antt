-- Histograms that traces are added to.
--     Totals    the statement: what one call does to any histogram, and what a list of calls comes to (to be read)
pub mod Totals
