use Rattle.bound_clauses.proofs.Readings.{constant_valued}
use Rattle.bound_clauses.proofs.laws.constant_has_value.Goals as goal

pub returns : goal.returns
returns c = constant_valued
