use Rattle.proof_read.proofs.ReadStepForms.{reads_round}
use Rattle.proof_read.proofs.read_parts.Source.round.Goals as goal

pub returns : goal.returns
returns c = reads_round _ _ _ _ _ _ _ (rw c.in-Some.is at c.in_ok-literal.ensures) c.in-Some-number.ensures c.alone.ensures
