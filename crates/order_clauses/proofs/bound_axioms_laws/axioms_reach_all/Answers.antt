use Rattle.order_clauses.proofs.Reaching.{reached}
use Rattle.order_clauses.proofs.bound_axioms_laws.axioms_reach_all.Goals as goal

pub returns : goal.returns
returns c = reached
