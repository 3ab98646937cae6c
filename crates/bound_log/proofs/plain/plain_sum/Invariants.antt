use Rattle.std.proofs.Common.{◌≡◌, take}
use Rattle.sum_bounds.specs.Clauses.{plain}
use Rattle.bound_log.proofs.plain.plain_sum.Given as goal

abbrev pub invariant-loop-summand : goal.invariant-loop-summand
invariant-loop-summand l = l.copy.items ≡ plain (take l.summand-index l.sum)
