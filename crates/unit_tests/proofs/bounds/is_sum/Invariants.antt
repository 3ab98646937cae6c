use Rattle.std.proofs.Common.{All, take}
use Rattle.sum_bounds.specs.Written.{IsKnown}
use Rattle.unit_tests.proofs.bounds.is_sum.Given as goal

abbrev pub invariant-loop-i : goal.invariant-loop-i
invariant-loop-i l = All (IsKnown l.bounds.columns) (take l.i l.sum)
