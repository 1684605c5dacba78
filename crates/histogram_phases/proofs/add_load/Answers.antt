-- The load's bucket is one of the histogram's, and its count goes up by one, modulo 2 to the power 32.
use Rattle.std.proofs.Common.{rules}
use Rattle.rules_histogram.specs.Histograms.{wrapping, add_load}
use Rattle.histogram_phases.proofs.add_load.Goals as goal

pub returns : goal.returns
unfolding add_load wrapping
returns c = search rules
