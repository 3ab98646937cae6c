use Rattle.smt_laws.proofs.BoundLaw.{normal_bound_value}
use Rattle.smt_laws.proofs.clauses.normal_bound_has_value.Goals as goal

pub returns : goal.returns
returns c = normal_bound_value
