use Rattle.bound_clauses.proofs.Readings.{order_true}
use Rattle.bound_clauses.proofs.laws.order_clauses_are_true.Goals as goal

pub returns : goal.returns
returns c = order_true c.order_is_tied.ensures c.interpretation_agrees.ensures
