use Rattle.bound_clauses.proofs.Readings.{agrees}
use Rattle.bound_clauses.proofs.laws.interpretation_agrees.Goals as goal

pub returns : goal.returns
returns c = agrees c.bound_has_value.ensures
