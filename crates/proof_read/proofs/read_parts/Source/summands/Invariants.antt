use Rattle.std.proofs.Common.{◌-◌, length}
use Rattle.proof_read.specs.ReadSums.{summand_in, summand_fits, summand_near}
use Rattle.proof_read.proofs.ReadForms.{SoFar}
use Rattle.proof_read.proofs.read_parts.Source.summands.Given as goal

abbrev pub invariant-loop-at : goal.invariant-loop-at
invariant-loop-at l = SoFar l.self.proof.now summand_in summand_fits summand_near l.fn.at l.at l.summands

abbrev pub decreases-loop-at : goal.decreases-loop-at
decreases-loop-at l = length l.self.proof.now - l.at.place
