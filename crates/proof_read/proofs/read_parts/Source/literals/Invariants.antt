use Rattle.std.proofs.Common.{◌-◌, length}
use Rattle.proof_meaning.specs.Reading.{literal_read}
use Rattle.proof_read.specs.ReadAtoms.{literal_fits, literal_near}
use Rattle.proof_read.proofs.ReadForms.{SoFar}
use Rattle.proof_read.proofs.read_parts.Source.literals.Given as goal

abbrev pub invariant-loop-alloc : goal.invariant-loop-alloc
invariant-loop-alloc l = SoFar l.self.proof.now literal_read literal_fits literal_near l.fn.at l.at l.literals

abbrev pub decreases-loop-alloc : goal.decreases-loop-alloc
decreases-loop-alloc l = length l.self.proof.now - l.at.place
