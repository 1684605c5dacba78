-- The limits and buckets of the histogram, #106 of document 02: for all limits and every load.
use Rattle.histogram_limits.specs.Rule.{Rule}
use Rattle.histogram_limits.proofs.Laws.Table.{many, limit_rule}
use Rattle.histogram_limits.proofs.Laws.Buckets.{load_goes, zero-none, place_within}

pub limits_rule : Rule
limits_rule = record { many = many; rule = limit_rule; goes = load_goes; zero = zero-none; within = place_within }
