use Rattle.std.proofs.Common.{length}
use Rattle.sum_bounds.proofs.residues.eliminate.Given as goal

abbrev pub decreases-loop-by : goal.decreases-loop-by
decreases-loop-by l = length l.fixed.items
