use Rattle.bound_clauses.proofs.Comparing.{order_tied}
use Rattle.bound_clauses.proofs.laws.order_is_tied.Goals as goal

pub returns : goal.returns
returns c = order_tied
