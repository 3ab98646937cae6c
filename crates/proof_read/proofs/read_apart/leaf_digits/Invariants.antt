use Rattle.std.proofs.Common.{◌-◌, length}
use Rattle.proof_read.proofs.ReadLeafLemmas.{LeavesSoFar}
use Rattle.proof_read.proofs.read_apart.leaf_digits.Given as goal

abbrev pub invariant-loop-leaf : goal.invariant-loop-leaf
invariant-loop-leaf l = LeavesSoFar l.source.proof.now l.place l.at.place l.leaves.items

abbrev pub decreases-loop-leaf : goal.decreases-loop-leaf
decreases-loop-leaf l = length l.source.proof.now - l.at.place
