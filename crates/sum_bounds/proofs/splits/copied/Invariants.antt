use Rattle.std.proofs.Common.{map}
use Rattle.sum_bounds.specs.Bounds.{told_of}
use Rattle.sum_bounds.specs.Splits.{IsCopy}
use Rattle.sum_bounds.proofs.splits.copied.Given as goal

abbrev pub invariant-loop-variable : goal.invariant-loop-variable
invariant-loop-variable l = IsCopy l.simplex.columns (map told_of l.simplex.bounds) l.copy
