use Rattle.std.proofs.Common.{take}
use Rattle.std.specs.Prelude.{All}
use Rattle.sum_bounds.specs.Written.{IsKnown}
use Rattle.sum_bounds.proofs.splits.is_sum.Given as goal

abbrev pub invariant-loop-summand : goal.invariant-loop-summand
invariant-loop-summand l = All (IsKnown l.copy.columns) (take l.summand-index l.sum)
