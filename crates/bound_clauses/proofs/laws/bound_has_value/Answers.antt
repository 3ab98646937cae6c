use Rattle.bound_clauses.proofs.Readings.{bound_valued}
use Rattle.bound_clauses.proofs.laws.bound_has_value.Goals as goal

pub returns : goal.returns
returns c = bound_valued c.linear_form_has_value.ensures c.normal_bound_has_value.ensures
