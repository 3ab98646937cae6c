use Rattle.pair_bounds.proofs.NormalLemmas.{IsDivisor}
use Rattle.pair_bounds.proofs.normal.divisor_of.Given as goal

abbrev pub invariant-loop-i : goal.invariant-loop-i
invariant-loop-i l = IsDivisor l.sum l.i l.divisor

abbrev pub decreases-loop-i : goal.decreases-loop-i
decreases-loop-i l = l.i
