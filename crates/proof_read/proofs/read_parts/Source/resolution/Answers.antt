use Rattle.proof_read.proofs.ReadStepForms.{reads_res}
use Rattle.proof_read.proofs.read_parts.Source.resolution.Goals as goal

pub returns : goal.returns
returns c = reads_res _ _ _ _ _ _ _ _ c.in-Some.ensures (rw c.in-Some-2.is at c.in_ok-literal.ensures) c.alone.ensures
