use Rattle.bound_clauses.proofs.Readings.{equality_true}
use Rattle.bound_clauses.proofs.laws.equality_clauses_are_true.Goals as goal

pub returns : goal.returns
returns c = equality_true c.equality_is_tied.ensures c.bound_has_value.ensures
