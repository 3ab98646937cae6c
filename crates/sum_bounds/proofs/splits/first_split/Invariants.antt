use Rattle.sum_bounds.specs.Splits.{Extends}
use Rattle.sum_bounds.proofs.splits.first_split.Given as goal

abbrev pub invariant-loop-sum : goal.invariant-loop-sum
invariant-loop-sum l = Extends l.initial.copy l.copy
