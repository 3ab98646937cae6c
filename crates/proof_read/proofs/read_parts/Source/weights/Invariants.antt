use Rattle.std.proofs.Common.{◌-◌, length}
use Rattle.proof_meaning.specs.Reading.{weighted_read}
use Rattle.proof_read.specs.ReadSteps.{weighted_fits, weighted_near}
use Rattle.proof_read.proofs.ReadForms.{SoFar}
use Rattle.proof_read.proofs.read_parts.Source.weights.Given as goal

abbrev pub invariant-loop-alloc : goal.invariant-loop-alloc
invariant-loop-alloc l = SoFar l.self.proof.now weighted_read weighted_fits weighted_near l.fn.at l.at l.weights

abbrev pub decreases-loop-alloc : goal.decreases-loop-alloc
decreases-loop-alloc l = length l.self.proof.now - l.at.place
