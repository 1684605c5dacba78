-- The histogram of phase loads, #106 of document 02.
use Rattle.std.specs.Prelude.{ℕ, List}
use Rattle.rules_histogram.specs.Histograms.{Histogram}
use Rattle.histogram_invariant.specs.Totals.{Call, Addition, Totals}
use Rattle.histogram_invariant.proofs.Laws.Calls.{addition}
use Rattle.histogram_invariant.proofs.Laws.Lists.{list_totals}

-- For every call and every histogram, whatever the way of counting,
pub every_addition : (more : ℕ → ℕ) (c : Call) (h : Histogram) → Addition more c h
every_addition = addition

-- and for every list of calls, refused ones included.
pub counts_add_up : (calls : List Call) → Totals calls
counts_add_up = list_totals
