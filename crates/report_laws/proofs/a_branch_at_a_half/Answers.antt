use Rattle.report_laws.proofs.Branch.{half_is_a_branch, minus_half_is_none}
use Rattle.report_laws.proofs.a_branch_at_a_half.Goals as goal

pub returns-clause-half : goal.returns-clause-half
returns-clause-half c = half_is_a_branch

pub returns-clause-minus : goal.returns-clause-minus
returns-clause-minus c = minus_half_is_none
