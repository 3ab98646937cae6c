use Rattle.std.proofs.Common.{rules}
use Rattle.proof_read.proofs.ReadStepForms.{reads_quotient}
use Rattle.proof_read.proofs.read_parts.Source.quotient.Goals as goal

pub returns : goal.returns
returns c = reads_quotient _ _ _ _ _ c.in_ok-name.name.now _ _ _ c.in_ok-name.ensures (search rules) c.in_ok-numerator.ensures c.in_ok-denominator.ensures c.alone.ensures
