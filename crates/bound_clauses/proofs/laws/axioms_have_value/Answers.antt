use Rattle.bound_clauses.proofs.Readings.{axioms_valued}
use Rattle.bound_clauses.proofs.laws.axioms_have_value.Goals as goal

pub returns : goal.returns
returns c = axioms_valued c.axioms_are_true.ensures
