use Rattle.proof_read.proofs.ReadStepForms.{reads_pair}
use Rattle.proof_read.proofs.read_parts.Source.pair_step.Goals as goal

pub returns : goal.returns
returns c = reads_pair _ _ _ _ _ _ _ _ _ c.in_ok-pair.ensures c.in_ok-left.ensures c.in_ok-right.ensures c.alone.ensures
