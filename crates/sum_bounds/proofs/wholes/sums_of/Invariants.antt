use Rattle.std.proofs.Common.{◌≤◌, drop, length}
use Rattle.sum_bounds.specs.Wholes.{HasSums}
use Rattle.sum_bounds.proofs.wholes.sums_of.Given as goal

abbrev pub invariant-loop-left : goal.invariant-loop-left
invariant-loop-left l = (l.left ≤ length l.entries) × HasSums l.simplex.columns (drop l.left l.entries) l.sums

abbrev pub decreases-loop-left : goal.decreases-loop-left
decreases-loop-left l = l.left
