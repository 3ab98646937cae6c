use Rattle.std.proofs.Common.{◌≡◌, drop}
use Rattle.proof_read.specs.ReadSums.{are_rising, are_above, terms_of}
use Rattle.proof_read.proofs.read_sums.is_rising.Given as goal

abbrev pub invariant-loop-summand : goal.invariant-loop-summand
invariant-loop-summand l = are_rising (terms_of l.summands) ≡ are_above l.last (terms_of (drop l.summand-index l.rest))
