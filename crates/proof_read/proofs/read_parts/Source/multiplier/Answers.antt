use Rattle.proof_read.proofs.ReadStepForms.{takes_whole_after, takes_quotient}
use Rattle.proof_read.proofs.read_parts.Source.multiplier.Goals as goal

pub returns-in_ok-numerator-in-None : goal.returns-in_ok-numerator-in-None
returns-in_ok-numerator-in-None c = takes_whole_after _ _ _ _ _ c.in-None.ensures.1 c.in_ok-numerator-in-None.ensures

pub returns-in_ok-quotient-in-Some : goal.returns-in_ok-quotient-in-Some
returns-in_ok-quotient-in-Some c = takes_quotient _ _ _ _ _ _ c.in-Some.ensures.0 c.in-Some.ensures.1 c.in_ok-quotient-in-Some.ensures
