use Rattle.equality_clauses.proofs.Over.{choice_over}
use Rattle.equality_clauses.proofs.laws.choice_is_over.Goals as goal

pub returns : goal.returns
returns c = choice_over
