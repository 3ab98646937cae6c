use Rattle.bound_clauses.proofs.Decided.{order_decided}
use Rattle.bound_clauses.proofs.laws.order_is_decided.Goals as goal

pub returns : goal.returns
returns c = order_decided
