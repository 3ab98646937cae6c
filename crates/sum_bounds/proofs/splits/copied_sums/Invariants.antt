use Rattle.sum_bounds.specs.Splits.{HasFirst}
use Rattle.sum_bounds.proofs.splits.copied_sums.Given as goal

abbrev pub invariant-loop-variable : goal.invariant-loop-variable
invariant-loop-variable l = HasFirst l.simplex.columns l.variable l.copy
