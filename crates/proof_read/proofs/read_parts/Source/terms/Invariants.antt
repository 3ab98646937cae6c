use Rattle.std.proofs.Common.{◌-◌, length}
use Rattle.proof_meaning.specs.Reading.{number}
use Rattle.proof_read.specs.Reads.{is_term_number}
use Rattle.proof_read.specs.ReadParts.{any}
use Rattle.proof_read.proofs.ReadForms.{SoFar}
use Rattle.proof_read.proofs.read_parts.Source.terms.Given as goal

abbrev pub invariant-loop-at : goal.invariant-loop-at
invariant-loop-at l = SoFar l.self.proof.now number any is_term_number l.fn.at l.at l.terms

abbrev pub decreases-loop-at : goal.decreases-loop-at
decreases-loop-at l = length l.self.proof.now - l.at.place
