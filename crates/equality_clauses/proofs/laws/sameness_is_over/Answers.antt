use Rattle.equality_clauses.proofs.Over.{sameness_over}
use Rattle.equality_clauses.proofs.laws.sameness_is_over.Goals as goal

pub returns : goal.returns
returns c = sameness_over
