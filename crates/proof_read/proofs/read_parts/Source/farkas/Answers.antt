use Rattle.proof_read.proofs.ReadStepForms.{fills_farkas}
use Rattle.proof_read.proofs.read_parts.Source.farkas.Goals as goal

pub returns : goal.returns
returns c = fills_farkas _ _ _ _ (rw c.in-Some.is at c.in_ok-weighted.ensures)
