use Rattle.bound_clauses.proofs.Comparing.{pairs_compared}
use Rattle.bound_clauses.proofs.laws.pairs_are_compared.Goals as goal

pub returns : goal.returns
returns c = pairs_compared
