use Rattle.std.proofs.Common.{◌≤◌, length}
use Rattle.smt_meaning.proofs.nodes.kept.Given as goal

abbrev pub invariant-loop-left : goal.invariant-loop-left
invariant-loop-left l = l.left ≤ length l.layers

abbrev pub decreases-loop-left : goal.decreases-loop-left
decreases-loop-left l = l.left
