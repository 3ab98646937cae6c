use Rattle.equality_clauses.proofs.Over.{comparison_over}
use Rattle.equality_clauses.proofs.laws.comparison_is_over.Goals as goal

pub returns : goal.returns
returns c = comparison_over
