use Rattle.std.proofs.Common.{◌≡◌, drop}
use Rattle.sum_bounds.specs.Hash.{sum_state}
use Rattle.sum_bounds.proofs.lookup.hash_of.Given as goal

abbrev pub invariant-loop-summand : goal.invariant-loop-summand
invariant-loop-summand l = sum_state l.state (drop l.summand-index l.sum) ≡ sum_state 1 l.sum
