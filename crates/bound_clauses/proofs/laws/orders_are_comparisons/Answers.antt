use Rattle.bound_clauses.proofs.Comparing.{orders_compared}
use Rattle.bound_clauses.proofs.laws.orders_are_comparisons.Goals as goal

pub returns : goal.returns
returns c = orders_compared
