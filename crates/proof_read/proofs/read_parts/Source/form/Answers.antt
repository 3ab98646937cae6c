use Rattle.proof_read.proofs.ReadStepForms.{fills_form}
use Rattle.proof_read.proofs.read_parts.Source.form.Goals as goal

pub returns-in-Some-2 : goal.returns-in-Some-2
returns-in-Some-2 c = fills_form _ _ _ _ _ _ c.in-Some.ensures (rw c.in-Some-2.is at c.in_ok-literals.ensures)
